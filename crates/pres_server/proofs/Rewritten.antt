-- A removal that is carried out last, or whose place is held by another value until a later write puts one there.
use Rattle.std.proofs.Common.{refl, sym, ◌∙◌, ap, subst, inl, inr, ◌≡◌, ◌⊎◌, List, [], ◌∷◌, ◌++◌, Option, Some, None, Bool, true, false, not, cond, ◌||◌, ◌&&◌, true≢false, is_some, append-nil}
use Rattle.std.specs.Option.{option_and_then}
use Rattle.std.specs.List.{list_any, filter, last_or}
use Rattle.std.specs.Ordering.{eq_by_cmp}
use Rattle.pres_tree.specs.Paths.{Path, path_cmp, below, is_prefix, meet}
use Rattle.pres_tree.specs.Rows.{Rows, is_null, leaf_at}
use Rattle.pres_tree.specs.Writes.{Write, write, overwrites, written_at, leaf_after, tree_after, after}
use Rattle.pres_tree.proofs.Found.{same_rows, in_order-after, null_is_empty, rest_is, IsRest}
use Rattle.pres_tree.proofs.Last.{last_write_decides, tree_grows}
use Rattle.pres_tree.proofs.Values.{above_one, cons_prefix, under}

-- the write puts something at the path, above it or below it
abbrev pub puts_near : {A : Type 0} → Path → Write A → Bool
puts_near p w = meet w.path p && not (is_null w.value)

-- ---- the leaf at a place after writes, by the last write before them that overwrote the place

said : {A : Type 0} → Path → Option (Write A) → List (Write A) → Option A
said x o [] = option_and_then (λ w. written_at w x) o
said x o (w ∷ ws) = said x (cond (overwrites w x) (Some w) o) ws

said_last : {A : Type 0} (x : Path) (o : Option (Write A)) (ws : List (Write A)) → said x o ws ≡ option_and_then (λ w. written_at w x) (last_or o (filter (λ w. overwrites w x) ws))
unfolding said
said_last x o [] = refl
said_last x o (w ∷ ws) = elim (overwrites w x) as (λ b. said x (cond b (Some w) o) ws ≡ option_and_then (λ v. written_at v x) (last_or o (cond b (w ∷ filter (λ v. overwrites v x) ws) (filter (λ v. overwrites v x) ws)))) [
  | true ↦ said_last x (Some w) ws
  | false ↦ said_last x o ws
]

-- what says the same before says the same after
said_alike : {A : Type 0} (x : Path) (a b : Option (Write A)) (ws : List (Write A)) → option_and_then (λ w. written_at w x) a ≡ option_and_then (λ w. written_at w x) b → said x a ws ≡ said x b ws
unfolding said
said_alike x a b [] h = h
said_alike x a b (w ∷ ws) h = elim (overwrites w x) as (λ c. said x (cond c (Some w) a) ws ≡ said x (cond c (Some w) b) ws) [ true ↦ refl | false ↦ said_alike x a b ws h ]

-- and what came before plays no part where one of the writes overwrites the place
said_over : {A : Type 0} (x : Path) (a b : Option (Write A)) (ws : List (Write A)) → list_any (λ w. overwrites w x) ws ≡ true → said x a ws ≡ said x b ws
unfolding said
said_over x a b [] h = absurd (true≢false (sym h))
said_over x a b (w ∷ ws) h = elim (overwrites w x) as (λ c. (c || list_any (λ v. overwrites v x) ws) ≡ true → said x (cond c (Some w) a) ws ≡ said x (cond c (Some w) b) ws) [
  | true ↦ λ k. refl
  | false ↦ λ k. said_over x a b ws k
] h

said_then : {A : Type 0} (x : Path) (o : Option (Write A)) (ws : List (Write A)) (v : Write A) → said x o (ws ++ v ∷ []) ≡ cond (overwrites v x) (written_at v x) (said x o ws)
unfolding said
said_then x o [] v = by (overwrites v x) where
  by : (c : Bool) → option_and_then (λ w. written_at w x) (cond c (Some v) o) ≡ cond c (written_at v x) (option_and_then (λ w. written_at w x) o)
  by true = refl
  by false = refl
said_then x o (w ∷ ws) v = said_then x (cond (overwrites w x) (Some w) o) ws v

-- ---- what a write puts at a place

prefix_on : (p x q : Path) → is_prefix p x ≡ true → is_prefix x q ≡ true → is_prefix p q ≡ true
prefix_on [] x q h g = refl
prefix_on (k ∷ p) [] q h g = absurd (true≢false (sym h))
prefix_on (k ∷ p) (l ∷ x) [] h g = absurd (true≢false (sym g))
prefix_on (k ∷ p) (l ∷ x) (m ∷ q) h g =
    let one = cons_prefix k l p x h in
    let two = cons_prefix l m x q g in
    under k m p q (one.0 ∙ two.0) (prefix_on p x q one.1 two.1)

or_right : (a b : Bool) → b ≡ true → (a || b) ≡ true
or_right true b h = refl
or_right false b h = h

or_left : (a b : Bool) → a ≡ true → (a || b) ≡ true
or_left a b h = ap (λ c. c || b) h

either : (a b : Bool) → (a || b) ≡ true → (a ≡ true) ⊎ (b ≡ true)
either true b h = inl refl
either false b h = inr h

neither : (a b : Bool) → (a || b) ≡ false → (a ≡ false) × (b ≡ false)
neither true b h = absurd (true≢false h)
neither false b h = (refl, h)

both : (a b : Bool) → (a && b) ≡ true → (a ≡ true) × (b ≡ true)
both true b h = (refl, h)
both false b h = absurd (true≢false (sym h))

nothing_written : {A : Type 0} (w : Write A) (x : Path) → w.value ≡ [] → written_at w x ≡ None
nothing_written {A} w x e = ap (λ (v : Rows A). option_and_then (leaf_at v) (below w.path x)) e ∙ by (below w.path x) where
  by : (o : Option Path) → option_and_then (leaf_at {A = A} []) o ≡ None
  by None = refl
  by (Some q) = refl

-- a write that overwrites a place at or below the path, but puts nothing that meets the path, is a removal
removes : {A : Type 0} (p x : Path) (w : Write A) → is_prefix p x ≡ true → puts_near p w ≡ false → overwrites w x ≡ true → written_at w x ≡ None
removes {A} p x w low none over = by (is_null w.value) refl where
  met : meet w.path p ≡ true
  met = elim (either (is_prefix w.path x) (is_prefix x w.path && not (is_null w.value)) over) as (λ o. meet w.path p ≡ true) [
    | inl a ↦ elim (above_one w.path p x a low) as (λ o. meet w.path p ≡ true) [
      | inl b ↦ or_left (is_prefix w.path p) (is_prefix p w.path) b
      | inr b ↦ or_right (is_prefix w.path p) (is_prefix p w.path) b
    ]
    | inr a ↦ or_right (is_prefix w.path p) (is_prefix p w.path) (prefix_on p x w.path low (both (is_prefix x w.path) (not (is_null w.value)) a).0)
  ]

  by : (b : Bool) → is_null w.value ≡ b → written_at w x ≡ None
  by true e = nothing_written w x (null_is_empty w.value e)
  by false e = absurd (true≢false (sym (λ i. met i && not (e i)) ∙ none))

-- nothing stands at or below the path after writes that put nothing that meets it, where nothing stood there
said_none : {A : Type 0} (p x : Path) (o : Option (Write A)) (ws : List (Write A)) → is_prefix p x ≡ true → list_any (puts_near p) ws ≡ false → option_and_then (λ w. written_at w x) o ≡ None → said x o ws ≡ None
unfolding said
said_none p x o [] low none h = h
said_none p x o (w ∷ ws) low none h =
    let each = neither (puts_near p w) (list_any (puts_near p) ws) none in
    elim (overwrites w x) as (λ b. overwrites w x ≡ b → said x (cond b (Some w) o) ws ≡ None) [
      | true ↦ λ e. said_none p x (Some w) ws low each.1 (removes p x w low each.0 e)
      | false ↦ λ e. said_none p x o ws low each.1 h
    ] refl

-- what is put where it meets the path overwrites all places above the path
over_above : {A : Type 0} (p x : Path) (ws : List (Write A)) → is_prefix x p ≡ true → list_any (puts_near p) ws ≡ true → list_any (λ w. overwrites w x) ws ≡ true
over_above p x [] high h = absurd (true≢false (sym h))
over_above p x (w ∷ ws) high h = elim (either (puts_near p w) (list_any (puts_near p) ws) h) as (λ o. (overwrites w x || list_any (λ w. overwrites w x) ws) ≡ true) [
  | inl a ↦ or_left (overwrites w x) (list_any (λ w. overwrites w x) ws) (one (both (meet w.path p) (not (is_null w.value)) a))
  | inr a ↦ or_right (overwrites w x) (list_any (λ w. overwrites w x) ws) (over_above p x ws high a)
] where
  below_x : not (is_null w.value) ≡ true → is_prefix x w.path ≡ true → overwrites w x ≡ true
  below_x some a = or_right (is_prefix w.path x) (is_prefix x w.path && not (is_null w.value)) (λ i. a i && some i)

  one : (meet w.path p ≡ true) × (not (is_null w.value) ≡ true) → overwrites w x ≡ true
  one m = elim (either (is_prefix w.path p) (is_prefix p w.path) m.0) as (λ o. overwrites w x ≡ true) [
    | inl a ↦ elim (above_one w.path x p a high) as (λ o. overwrites w x ≡ true) [
      | inl b ↦ or_left (is_prefix w.path x) (is_prefix x w.path && not (is_null w.value)) b
      | inr b ↦ below_x m.1 b
    ]
    | inr a ↦ below_x m.1 (prefix_on x p w.path high a)
  ]

-- ---- both ways of removal

same_after : {A : Type 0} (t u : Rows A) (vs ws : List (Write A)) → ((x : Path) → leaf_after (write [] t ∷ vs) x ≡ leaf_after (write [] u ∷ ws) x) → after t vs ≡ after u ws
same_after t u vs ws h = same_rows (after t vs) (after u ws) (in_order-after t vs) (in_order-after u ws)
    (λ x. last_write_decides (write [] t ∷ vs) x ∙ h x ∙ sym (last_write_decides (write [] u ∷ ws) x))

said_after : {A : Type 0} (ws : List (Write A)) (x : Path) → leaf_after ws x ≡ said x None ws
said_after ws x = sym (said_last x None ws)

-- a removal may come last where no later write puts something that meets its path
pub removed_last : {A : Type 0} (t : Rows A) (p : Path) (ws : List (Write A)) → list_any (puts_near p) ws ≡ false → after (after t ws) (write p [] ∷ []) ≡ after t (write p [] ∷ ws)
unfolding said
removed_last {A} t p ws none =
    tree_grows (write [] t ∷ ws) (write p [] ∷ [])
    ∙ same_after t t (ws ++ write p [] ∷ []) (write p [] ∷ ws) (λ x.
    said_after (write [] t ∷ (ws ++ write p [] ∷ [])) x
    ∙ said_then x (Some (write [] t)) ws (write p [])
    ∙ by x (is_prefix p x) (is_prefix x p) refl
    ∙ sym (said_after (write [] t ∷ write p [] ∷ ws) x)) where
      root : Option (Write A)
      root = Some (write [] t)

      by : (x : Path) (b c : Bool) → is_prefix p x ≡ b → cond (b || (c && false)) (written_at (write p []) x) (said x root ws) ≡ said x (cond (b || (c && false)) (Some (write p [])) root) ws
      by x true c e = nothing_written (write p []) x refl ∙ sym (said_none p x (Some (write p [])) ws e none (nothing_written (write p []) x refl))
      by x false true e = refl
      by x false false e = refl

-- a leaf that holds the place of the path says nothing at another place at or below it
at_path : (p x : Path) → below p x ≡ Some [] → is_prefix x p ≡ true
at_path p x f =
    let here : x ≡ p = subst (IsRest p x) f (rest_is p x) ∙ append-nil p in
    (λ i. is_prefix (here i) (sym here i)) ∙ ap is_some f

below_only : {A : Type 0} (p x q : Path) (leaf : A) → is_prefix x p ≡ false → below p x ≡ Some q → leaf_at (([], leaf) ∷ []) q ≡ None
below_only p x [] leaf e f = absurd (true≢false (sym (at_path p x f) ∙ e))
below_only p x (k ∷ q) leaf e f = refl

held_alike : {A : Type 0} (p x : Path) (leaf : A) (o : Option (Write A)) → is_prefix x p ≡ false
    → option_and_then (λ w. written_at w x) (cond (overwrites (write p (([], leaf) ∷ [])) x) (Some (write p (([], leaf) ∷ []))) o) ≡ option_and_then (λ w. written_at w x) (cond (overwrites (write {A = A} p []) x) (Some (write p [])) o)
held_alike {A} p x leaf o e =
    ap (λ c. option_and_then (λ w. written_at w x) (cond (is_prefix p x || (c && true)) (Some held) o)) e
    ∙ by (below p x) refl
    ∙ sym (ap (λ c. option_and_then (λ w. written_at w x) (cond (is_prefix p x || (c && false)) (Some gone) o)) e) where
      held : Write A
      held = write p (([], leaf) ∷ [])

      gone : Write A
      gone = write p []

      by : (l : Option Path) → below p x ≡ l → option_and_then (λ w. written_at w x) (cond (is_some (below p x) || false) (Some held) o) ≡ option_and_then (λ w. written_at w x) (cond (is_some (below p x) || false) (Some gone) o)
      by None f =
          ap (λ l. option_and_then (λ w. written_at w x) (cond (is_some l || false) (Some held) o)) f
          ∙ sym (ap (λ l. option_and_then (λ w. written_at w x) (cond (is_some l || false) (Some gone) o)) f)
      by (Some q) f =
          ap (λ l. option_and_then (λ w. written_at w x) (cond (is_some l || false) (Some held) o)) f
          ∙ ap (option_and_then (leaf_at (([], leaf) ∷ []))) f
          ∙ below_only p x q leaf e f
          ∙ sym (ap (option_and_then (leaf_at {A = A} [])) f)
          ∙ sym (ap (λ l. option_and_then (λ w. written_at w x) (cond (is_some l || false) (Some gone) o)) f)

-- a leaf may hold the place of what is removed where a later write puts something that meets its path
pub held_over : {A : Type 0} (t : Rows A) (p : Path) (leaf : A) (ws : List (Write A)) → list_any (puts_near p) ws ≡ true → after (after t (write p (([], leaf) ∷ []) ∷ [])) ws ≡ after t (write p [] ∷ ws)
unfolding said
held_over {A} t p leaf ws some =
    tree_grows (write [] t ∷ held ∷ []) ws
    ∙ same_after t t (held ∷ ws) (write p [] ∷ ws) (λ x.
    said_after (write [] t ∷ held ∷ ws) x
    ∙ by x (is_prefix x p) refl
    ∙ sym (said_after (write [] t ∷ write p [] ∷ ws) x)) where
      held : Write A
      held = write p (([], leaf) ∷ [])

      root : Option (Write A)
      root = Some (write [] t)

      by : (x : Path) (c : Bool) → is_prefix x p ≡ c → said x (cond (overwrites held x) (Some held) root) ws ≡ said x (cond (overwrites (write {A = A} p []) x) (Some (write p [])) root) ws
      by x true e = said_over x _ _ ws (over_above p x ws e some)
      by x false e = said_alike x _ _ ws (held_alike p x leaf root e)
