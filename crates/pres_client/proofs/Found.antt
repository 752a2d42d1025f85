-- The watch of a path, in lists that change.
use Rattle.std.proofs.Common.{refl, sym, ◌∙◌, ap, ◌≡◌, ℕ, List, [], ◌∷◌, map, fold, Bool, true, false, not, cond, ◌&&◌, true≢false, Option, Some, None, Ordering, Less, Equal, Greater, is_eq}
use Rattle.std.specs.Option.{option_map}
use Rattle.std.specs.Ordering.{eq_by_cmp, is_lt}
use Rattle.std.specs.Cmp.{tied_itself}
use Rattle.std.specs.FinMap.Entries.{find, find-put, find-where_key}
use Rattle.std.proofs.lemmas.Bool.{and_parts, false_from_ne_true}
use Rattle.pres_tree.specs.declared.scalar.Scalar.{Scalar}
use Rattle.pres_tree.specs.Paths.{Path, path_cmp, same_path}
use Rattle.pres_tree.specs.Rows.{Rows}
use Rattle.pres_tree.specs.Falls.{path_total, path_same as path_apart}
use Rattle.pres_tree.proofs.PathOrder.{path_same, path_itself, same_by_cmp}
use Rattle.pres_wire.specs.declared.values.PathValue.{PathValue}
use Rattle.pres_wire.specs.Values.{rise, Rising}
use Rattle.pres_wire.specs.Views.{value_in}
use Rattle.pres_client_state.specs.declared.watch.Watch.{Watch}
use Rattle.pres_client_state.specs.declared.watch.Shown.TheVariants as shown
use Rattle.pres_client_state.specs.Watches.{Watches, watch_of, with_watch, without_watch, kept, frozen, tell, is_shown_live, is_live}
use Rattle.pres_client.specs.ReceivedMessages.{tell_live}

-- ---- the list of watches

pub watch_of-with : (p x : Path) (w : Watch) (ws : Watches) → watch_of p (with_watch x w ws) ≡ cond (same_path p x) (Some w) (watch_of p ws)
watch_of-with p x w ws = find-put path_cmp path_total p x w ws ∙ ap (λ b. cond b (Some w) (find path_cmp p ws)) (sym (same_by_cmp p x))

pub watch_of-without : (p x : Path) (ws : Watches) → watch_of p (without_watch x ws) ≡ cond (not (same_path x p)) (watch_of p ws) None
watch_of-without p x ws = find-where_key path_cmp (λ k. not (same_path x k)) p (λ k e. ap (λ y. not (same_path x y)) (sym (path_apart p k e))) ws

-- a watch when the session is left
abbrev pub left : ℕ → Watch → Watch
left seen w = record w { shown = kept seen w.shown }

pub watch_of-frozen : (p : Path) (seen : ℕ) (ws : Watches) → watch_of p (frozen seen ws) ≡ option_map (left seen) (watch_of p ws)
watch_of-frozen p seen [] = refl
watch_of-frozen p seen (e ∷ ws) = by (eq_by_cmp path_cmp p e.0) (watch_of-frozen p seen ws) where
  by : (b : Bool) → watch_of p (frozen seen ws) ≡ option_map (left seen) (watch_of p ws)
      → cond b (Some (left seen e.1)) (watch_of p (frozen seen ws)) ≡ option_map (left seen) (cond b (Some e.1) (watch_of p ws))
  by true h = refl
  by false h = h

-- a watch that receives a value
abbrev pub now : Rows Scalar → Watch → Watch
now v w = record w { shown = shown.Live v }

tell_is : (x : Path) (v : Rows Scalar) (ws : Watches) (o : Option Watch) → watch_of x ws ≡ o → tell x v ws ≡ elim o as (λ _. Watches) [ None ↦ ws | Some w ↦ with_watch x (now v w) ws ]
tell_is x v ws None e = rw e refl
tell_is x v ws (Some w) e = rw e refl

pub told_there : (p : Path) (v : Rows Scalar) (ws : Watches) (w : Watch) → watch_of p ws ≡ Some w → watch_of p (tell p v ws) ≡ Some (now v w)
told_there p v ws w e = ap (watch_of p) (tell_is p v ws (Some w) e) ∙ watch_of-with p p (now v w) ws ∙ ap (λ b. cond b (Some (now v w)) (watch_of p ws)) (path_itself p)

pub told_elsewhere : (p x : Path) (v : Rows Scalar) (ws : Watches) → same_path p x ≡ false → watch_of p (tell x v ws) ≡ watch_of p ws
told_elsewhere p x v ws n = by (watch_of x ws) refl where
  by : (o : Option Watch) → watch_of x ws ≡ o → watch_of p (tell x v ws) ≡ watch_of p ws
  by None e = ap (watch_of p) (tell_is x v ws None e)
  by (Some w) e = ap (watch_of p) (tell_is x v ws (Some w) e) ∙ watch_of-with p x (now v w) ws ∙ ap (λ b. cond b (Some (now v w)) (watch_of p ws)) n

-- ---- a value of a Push

pushed_elsewhere : (p : Path) (ws : Watches) (v : PathValue) → same_path p v.path ≡ false → watch_of p (tell_live ws v) ≡ watch_of p ws
pushed_elsewhere p ws v n = by (is_live (watch_of v.path ws)) where
  by : (b : Bool) → watch_of p (cond b (tell v.path v.value ws) ws) ≡ watch_of p ws
  by true = told_elsewhere p v.path v.value ws n
  by false = refl

pushed_passed : (p : Path) (ws : Watches) (v : PathValue) → is_live (watch_of p ws) ≡ false → watch_of p (tell_live ws v) ≡ watch_of p ws
pushed_passed p ws v d = by (same_path p v.path) refl where
  by : (b : Bool) → same_path p v.path ≡ b → watch_of p (tell_live ws v) ≡ watch_of p ws
  by true e = ap (λ b. watch_of p (cond b (tell v.path v.value ws) ws)) (ap (λ x. is_live (watch_of x ws)) (sym (path_same p v.path e)) ∙ d)
  by false e = pushed_elsewhere p ws v e

pushed_there : (p : Path) (ws : Watches) (v : PathValue) (w : Watch) → same_path p v.path ≡ true → watch_of p ws ≡ Some w → is_shown_live w.shown ≡ true → watch_of p (tell_live ws v) ≡ Some (now v.value w)
pushed_there p ws v w e o l =
    let is : p ≡ v.path = path_same p v.path e in
    ap (λ b. watch_of p (cond b (tell v.path v.value ws) ws)) (ap (λ x. is_live (watch_of x ws)) (sym is) ∙ ap is_live o ∙ l)
    ∙ ap (λ x. watch_of p (tell x v.value ws)) (sym is)
    ∙ told_there p v.value ws w o

-- ---- a whole Push

pub push_passed : (p : Path) (ws : Watches) (vs : List PathValue) → is_live (watch_of p ws) ≡ false → watch_of p (fold tell_live ws vs) ≡ watch_of p ws
push_passed p ws [] d = refl
push_passed p ws (v ∷ vs) d =
    let one : watch_of p (tell_live ws v) ≡ watch_of p ws = pushed_passed p ws v d in
    push_passed p (tell_live ws v) vs (ap is_live one ∙ d) ∙ one

pub push_elsewhere : (p : Path) (ws : Watches) (vs : List PathValue) → value_in p vs ≡ None → watch_of p (fold tell_live ws vs) ≡ watch_of p ws
push_elsewhere p ws [] n = refl
push_elsewhere p ws (v ∷ vs) n = by (same_path p v.path) refl n (λ k. push_elsewhere p (tell_live ws v) vs k) where
  by : (b : Bool) → same_path p v.path ≡ b → cond b (Some v.value) (value_in p vs) ≡ None
      → (value_in p vs ≡ None → watch_of p (fold tell_live (tell_live ws v) vs) ≡ watch_of p (tell_live ws v)) → watch_of p (fold tell_live (tell_live ws v) vs) ≡ watch_of p ws
  by true e k f = absurd cc
  by false e k f = f k ∙ pushed_elsewhere p ws v e

less : (o : Ordering) → is_lt o ≡ true → o ≡ Less
less Less h = refl
less Equal h = absurd (true≢false (sym h))
less Greater h = absurd (true≢false (sym h))

-- what comes after a path that is before the first is elsewhere
pub rises_apart : (p : Path) (vs : List PathValue) → rise (p ∷ map (λ v. v.path) vs) ≡ true → value_in p vs ≡ None
rises_apart p [] h = refl
rises_apart p (v ∷ vs) h =
    let a = and_parts (is_lt (path_cmp p v.path)) _ h in
    let before : path_cmp p v.path ≡ Less = less _ a.0 in
    let apart : same_path p v.path ≡ false = false_from_ne_true _ (λ k. true≢false (ap is_eq (sym (tied_itself path_total p) ∙ ap (path_cmp p) (path_same p v.path k) ∙ before))) in
    ap (λ b. cond b (Some v.value) (value_in p vs)) apart ∙ rises_apart p vs (further vs before a.1) where
      further : (us : List PathValue) → path_cmp p v.path ≡ Less → rise (v.path ∷ map (λ u. u.path) us) ≡ true → rise (p ∷ map (λ u. u.path) us) ≡ true
      further [] b k = refl
      further (u ∷ us) b k =
          let c = and_parts (is_lt (path_cmp v.path u.path)) _ k in
          (λ i. is_lt (path_total.trans p v.path u.path b (less _ c.0) i) && rise (u.path ∷ map (λ u. u.path) us)) ∙ c.1

pub rest_rises : (v : PathValue) (vs : List PathValue) → Rising (v ∷ vs) → Rising vs
rest_rises v [] h = refl
rest_rises v (u ∷ vs) h = (and_parts (is_lt (path_cmp v.path u.path)) _ h).1

pub push_there : (p : Path) (ws : Watches) (vs : List PathValue) (w : Watch) (y : Rows Scalar) → Rising vs → value_in p vs ≡ Some y → watch_of p ws ≡ Some w → is_shown_live w.shown ≡ true
    → watch_of p (fold tell_live ws vs) ≡ Some (now y w)
push_there p ws [] w y r n o l = absurd cc
push_there p ws (v ∷ vs) w y r n o l = by (same_path p v.path) refl n (λ k. push_there p (tell_live ws v) vs w y (rest_rises v vs r) k) where
  by : (b : Bool) → same_path p v.path ≡ b → cond b (Some v.value) (value_in p vs) ≡ Some y
      → (value_in p vs ≡ Some y → watch_of p (tell_live ws v) ≡ Some w → is_shown_live w.shown ≡ true → watch_of p (fold tell_live (tell_live ws v) vs) ≡ Some (now y w))
      → watch_of p (fold tell_live (tell_live ws v) vs) ≡ Some (now y w)
  by true e k f =
      let none : value_in p vs ≡ None = ap (λ x. value_in x vs) (path_same p v.path e) ∙ rises_apart v.path vs r in
      push_elsewhere p (tell_live ws v) vs none ∙ pushed_there p ws v w e o l ∙ ap (λ (s : Option (Rows Scalar)). elim s as (λ _. Option Watch) [ None ↦ None | Some z ↦ Some (now z w) ]) k
  by false e k f = f k (pushed_elsewhere p ws v e ∙ o) l
