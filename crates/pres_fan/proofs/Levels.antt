-- A level of the tree of paths, where one of the levels below it changes.
use Rattle.std.proofs.Common.{refl, sym, ◌∙◌, ap, subst, ◌≡◌, List, [], ◌∷◌, Bool, true, false, cond, ◌||◌, ◌&&◌, ℕ, ◌<◌, zero, suc, arith, length, true≢false, is_some, Option, Some, None, Result, Ok, Err}
use Rattle.std.specs.Prelude.{IfSome, OnOk, OnErr}
use Rattle.std.specs.List.{list_any}
use Rattle.std.specs.Option.{option_and_then, unwrap_or}
use Rattle.std.specs.Map.{lookup}
use Rattle.std.specs.BTreeMap.{BTreeMap, is_at}
use Rattle.pres_tree.specs.Keys.{Key, key_cmp, same_key}
use Rattle.pres_tree.specs.Paths.{Path, same_path}
use Rattle.pres_tree.proofs.Found.{key_same}
use Rattle.pres_tree.proofs.Keys.{same_key-is}
use Rattle.pres_ids.specs.Ids.{same_session}
use Rattle.pres_ids.specs.declared.id.SessionId.{SessionId}
use Rattle.pres_fan.specs.declared.level.Level.{Level}
use Rattle.pres_fan.specs.declared.level.Level.TheOpen.{Level-F}
use Rattle.pres_fan.specs.declared.level.Level.TheViews.{out-Level, roll-Level, out-roll-Level}
use Rattle.pres_fan.specs.Listeners.{same_listener, listener_of}
use Rattle.pres_fan.specs.Levels.{sessions_of, entries_in, entries_of, child_at, level_at, hears, heard, size_of, IsBare, IsUsed, IsTidy}

-- the session listens at the path below the level, if there is one
abbrev pub heard_in : Path → SessionId → Option Level → Bool
heard_in p s o = hears s (option_and_then (level_at p) o)

-- the key leads to w, and each other key to where it did
abbrev pub SetsChild : Key → Option Level → Level → Level → Type 0
SetsChild k w old new = (q : Key) → child_at q new ≡ cond (is_at (key_cmp k) q) w (child_at q old)

pub nobody_hears : (level : Level) → IsBare level → (p : Path) (s : SessionId) → heard p s level ≡ false
nobody_hears level bare [] s = ap (list_any (same_session s)) bare.nobody
nobody_hears level bare (k ∷ p) s = ap (λ es. heard_in p s (lookup (is_at (key_cmp k)) es)) bare.nothing

pub bare_tidy : (level : Level) → IsBare level → IsTidy level
bare_tidy level bare k p = subst (λ es. IfSome (option_and_then (level_at p) (lookup (is_at (key_cmp k)) es)) IsUsed) (sym bare.nothing) tt

-- ---- who listens, where one level below changes

no_more : (b : Bool) → (b && false) ≡ false
no_more true = refl
no_more false = refl

-- the change at the rest of the keys, below the first of them, is the change at the keys: op says what becomes of one who listens at them, and leaves the others
pub step_below : (op : Bool → Bool → Bool) → ((b : Bool) → op false b ≡ b) → (t : SessionId) (keys : Path) (k : Key) (rest : Path) (old new : Level) (w : Option Level) →
    keys ≡ k ∷ rest → sessions_of new ≡ sessions_of old → SetsChild k w old new →
    ((p : Path) (s : SessionId) → heard_in p s w ≡ op (same_listener (listener_of t rest) (listener_of s p)) (heard_in p s (child_at k old))) →
    (p : Path) (s : SessionId) → heard p s new ≡ op (same_listener (listener_of t keys) (listener_of s p)) (heard p s old)
step_below op neutral t keys k rest old new w is same sets below [] s =
    ap (list_any (same_session s)) same
    ∙ sym (neutral (heard [] s old))
    ∙ ap (λ b. op b (heard [] s old)) (sym (no_more (same_session t s)) ∙ ap (λ q. same_session t s && same_path q []) (sym is))
step_below op neutral t keys k rest old new w is same sets below (q ∷ p) s =
    ap (heard_in p s) (sets q)
    ∙ by (same_key k q) refl
    ∙ ap (λ x. op (same_session t s && same_path x (q ∷ p)) (heard (q ∷ p) s old)) (sym is)
  where
    here : (b : Bool) → same_key k q ≡ b → same_path (k ∷ rest) (q ∷ p) ≡ (b && same_path rest p)
    here b e = ap (λ c. c && same_path rest p) (same_key-is k q ∙ e)

    by : (b : Bool) → same_key k q ≡ b → heard_in p s (cond b w (child_at q old)) ≡ op (same_session t s && same_path (k ∷ rest) (q ∷ p)) (heard (q ∷ p) s old)
    by true e =
        below p s
        ∙ (λ i. op (same_session t s && sym (here true e) i) (heard_in p s (child_at (key_same k q e i) old)))
    by false e =
        sym (neutral (heard (q ∷ p) s old))
        ∙ ap (λ b. op b (heard (q ∷ p) s old)) (sym (no_more (same_session t s)) ∙ ap (λ c. same_session t s && c) (sym (here false e)))

-- ---- no level below is empty

pub child_used : (k : Key) (level c : Level) → IsTidy level → child_at k level ≡ Some c → IsUsed c
child_used k level c tidy is = subst (λ o. IfSome (option_and_then (level_at []) o) IsUsed) is (tidy k [])

pub child_tidy : (k : Key) (level c : Level) → IsTidy level → child_at k level ≡ Some c → IsTidy c
child_tidy k level c tidy is q p = subst (λ o. IfSome (option_and_then (level_at (q ∷ p)) o) IsUsed) is (tidy k (q ∷ p))

used_below : (w : Option Level) → IfSome w (λ c. IsUsed c × IsTidy c) → (p : Path) → IfSome (option_and_then (level_at p) w) IsUsed
used_below None h p = tt
used_below (Some c) h [] = h.0
used_below (Some c) h (q ∷ p) = h.1 q p

pub tidy_below : (k : Key) (old new : Level) (w : Option Level) → SetsChild k w old new → IfSome w (λ c. IsUsed c × IsTidy c) → IsTidy old → IsTidy new
tidy_below k old new w sets h tidy q p = subst (λ o. IfSome (option_and_then (level_at p) o) IsUsed) (sym (sets q)) (by (same_key k q)) where
  by : (b : Bool) → IfSome (option_and_then (level_at p) (cond b w (child_at q old))) IsUsed
  by true = used_below w h p
  by false = tidy q p

-- a change of the sessions alone
pub tidy_same : (old new : Level) → entries_of new ≡ entries_of old → IsTidy old → IsTidy new
tidy_same old new is tidy k p = subst (λ es. IfSome (option_and_then (level_at p) (lookup (is_at (key_cmp k)) es)) IsUsed) (sym is) (tidy k p)

-- a change of the sessions at the level itself is the change at no keys
pub step_here : (op : Bool → Bool → Bool) → ((b : Bool) → op false b ≡ b) → (t : SessionId) (keys : Path) (old new : Level) → keys ≡ [] → entries_of new ≡ entries_of old →
    ((s : SessionId) → list_any (same_session s) (sessions_of new) ≡ op (same_session t s) (list_any (same_session s) (sessions_of old))) →
    (p : Path) (s : SessionId) → heard p s new ≡ op (same_listener (listener_of t keys) (listener_of s p)) (heard p s old)
step_here op neutral t keys old new is same here [] s =
    here s ∙ ap (λ b. op b (heard [] s old)) (and_true (same_session t s) ∙ ap (λ q. same_session t s && same_path q []) (sym is))
  where
    and_true : (b : Bool) → b ≡ (b && true)
    and_true true = refl
    and_true false = refl
step_here op neutral t keys old new is same here (q ∷ p) s =
    ap (λ es. heard_in p s (lookup (is_at (key_cmp q)) es)) same
    ∙ sym (neutral (heard (q ∷ p) s old))
    ∙ ap (λ b. op b (heard (q ∷ p) s old)) (sym (no_more (same_session t s)) ∙ ap (λ x. same_session t s && same_path x (q ∷ p)) (sym is))

-- ---- the levels below, in a map that may be missing

pub entries_or : (o : Option (BTreeMap Key Level)) (none : BTreeMap Key Level) → none.entries ≡ [] → (unwrap_or o none).entries ≡ entries_in o
entries_or None none e = e
entries_or (Some below) none e = refl

-- a change of the entries is one of the level that the key leads to
pub sets_child : (k : Key) (w : Option Level) (old new : Level) (es es' : List (Key × Level)) → es ≡ entries_of old → entries_of new ≡ es' →
    ((q : Key) → lookup (is_at (key_cmp q)) es' ≡ cond (is_at (key_cmp k) q) w (lookup (is_at (key_cmp q)) es)) → SetsChild k w old new
sets_child k w old new es es' was is sets q =
    ap (lookup (is_at (key_cmp q))) is ∙ sets q ∙ ap (λ fs. cond (is_at (key_cmp k) q) w (lookup (is_at (key_cmp q)) fs)) was

-- what is put at the key and taken away again was not there
pub sets_then : (k : Key) (v w : Option Level) (es fs gs : List (Key × Level)) →
    ((q : Key) → lookup (is_at (key_cmp q)) fs ≡ cond (is_at (key_cmp k) q) v (lookup (is_at (key_cmp q)) es)) →
    ((q : Key) → lookup (is_at (key_cmp q)) gs ≡ cond (is_at (key_cmp k) q) w (lookup (is_at (key_cmp q)) fs)) →
    (q : Key) → lookup (is_at (key_cmp q)) gs ≡ cond (is_at (key_cmp k) q) w (lookup (is_at (key_cmp q)) es)
sets_then k v w es fs gs a b q = b q ∙ ap (cond (same_key k q) w) (a q) ∙ by (same_key k q) where
  by : (c : Bool) → cond c w (cond c v (lookup (is_at (key_cmp q)) es)) ≡ cond c w (lookup (is_at (key_cmp q)) es)
  by true = refl
  by false = refl

pub some_entry : (k : Key) (c : Level) (es : List (Key × Level)) → Some c ≡ lookup (is_at (key_cmp k)) es → 0 < length es
some_entry k c [] h = absurd (true≢false (ap is_some h))
some_entry k c (e ∷ es) h = omega arith

-- a size that isn't 0
pub size_positive : (n : ℕ) → (n ≡ 0 → ⊥) → 0 < n
size_positive zero h = absurd (h refl)
size_positive (suc n) h = omega arith

pub used_by_entries : (level : Level) (es : List (Key × Level)) → entries_of level ≡ es → 0 < length es → IsUsed level
used_by_entries level es is some = omega (arith, some, ap length is)

pub used_by_sessions : (level : Level) → 0 < length (sessions_of level) → IsUsed level
used_by_sessions level some = omega (arith, some)

pub used_same : (old new : Level) → sessions_of new ≡ sessions_of old → entries_of new ≡ entries_of old → IsUsed old → IsUsed new
used_same old new same is used = omega (arith, used, ap length same, ap length is)

pub heard_same : (old new : Level) → sessions_of new ≡ sessions_of old → entries_of new ≡ entries_of old → (p : Path) (s : SessionId) → heard p s new ≡ heard p s old
heard_same old new same is [] s = ap (list_any (same_session s)) same
heard_same old new same is (k ∷ p) s = ap (λ es. heard_in p s (lookup (is_at (key_cmp k)) es)) is

-- ---- a level, where the one that a key leads to is written

-- the level with other levels below it
abbrev pub with_below : Level → Option (BTreeMap Key Level) → Level
with_below level below = roll-Level (record { sessions = (out-Level level).sessions; below = below })

pub sessions_with : (level : Level) (below : Option (BTreeMap Key Level)) → sessions_of (with_below level below) ≡ sessions_of level
sessions_with level below = ap (λ (x : Level-F Level). x.sessions) (out-roll-Level (record { sessions = (out-Level level).sessions; below = below }))

pub entries_with : (level : Level) (below : Option (BTreeMap Key Level)) → entries_of (with_below level below) ≡ entries_in below
entries_with level below = ap (λ (x : Level-F Level). entries_in x.below) (out-roll-Level (record { sessions = (out-Level level).sessions; below = below }))

-- child became child', and nothing else changed
pub record Through (k : Key) (child child' old new : Level) : Type 0 where
  pub same : sessions_of new ≡ sessions_of old
  pub was : child_at k old ≡ Some child
  pub sets : SetsChild k (Some child') old new
  pub some : 0 < length (entries_of new)

pub through : (k : Key) (child child' old new : Level) (es es' : List (Key × Level)) → sessions_of new ≡ sessions_of old → es ≡ entries_of old → entries_of new ≡ es' →
    Some child ≡ lookup (is_at (key_cmp k)) es → length es' ≡ length es →
    ((q : Key) → lookup (is_at (key_cmp q)) es' ≡ cond (is_at (key_cmp k) q) (Some child') (lookup (is_at (key_cmp q)) es)) → Through k child child' old new
through k child child' old new es es' same was is found long sets = record {
  same = same;
  was = ap (lookup (is_at (key_cmp k))) (sym was) ∙ sym found;
  sets = sets_child k (Some child') old new es es' was is sets;
  some = omega (arith, some_entry k child es found, long, ap length is);
}

pub heard_through : (op : Bool → Bool → Bool) → ((b : Bool) → op false b ≡ b) → (t : SessionId) (keys : Path) (k : Key) (rest : Path) (child child' old new : Level) →
    keys ≡ k ∷ rest → Through k child child' old new →
    ((p : Path) (s : SessionId) → heard p s child' ≡ op (same_listener (listener_of t rest) (listener_of s p)) (heard p s child)) →
    (p : Path) (s : SessionId) → heard p s new ≡ op (same_listener (listener_of t keys) (listener_of s p)) (heard p s old)
heard_through op neutral t keys k rest child child' old new is change below =
    step_below op neutral t keys k rest old new (Some child') is change.same change.sets
    (λ p s. below p s ∙ ap (λ o. op (same_listener (listener_of t rest) (listener_of s p)) (heard_in p s o)) (sym change.was))

pub tidy_through : (k : Key) (child child' old new : Level) → Through k child child' old new → (IsUsed child → IsUsed child') → (IsTidy child → IsTidy child') → IsTidy old → IsTidy new
tidy_through k child child' old new change used tidy h =
    tidy_below k old new (Some child') change.sets (used (child_used k old child h change.was), tidy (child_tidy k old child h change.was)) h

pub used_through : (k : Key) (child child' old new : Level) → Through k child child' old new → IsUsed new
used_through k child child' old new change = omega (arith, change.some)

-- ---- a level, where a level is put at a key that led to none

pub record Put (k : Key) (child old new : Level) : Type 0 where
  pub same : sessions_of new ≡ sessions_of old
  pub was : child_at k old ≡ None
  pub sets : SetsChild k (Some child) old new

pub heard_put : (t : SessionId) (keys : Path) (k : Key) (rest : Path) (bare child old new : Level) → keys ≡ k ∷ rest → IsBare bare → Put k child old new →
    ((p : Path) (s : SessionId) → heard p s child ≡ (same_listener (listener_of t rest) (listener_of s p) || heard p s bare)) →
    (p : Path) (s : SessionId) → heard p s new ≡ (same_listener (listener_of t keys) (listener_of s p) || heard p s old)
heard_put t keys k rest bare child old new is none change below =
    step_below (λ a b. a || b) (λ b. refl) t keys k rest old new (Some child) is change.same change.sets
    (λ p s. below p s ∙ ap (λ b. same_listener (listener_of t rest) (listener_of s p) || b) (nobody_hears bare none p s ∙ ap (heard_in p s) (sym change.was)))

pub tidy_put : (k : Key) (child old new : Level) → Put k child old new → IsUsed child → IsTidy child → IsTidy old → IsTidy new
tidy_put k child old new change used tidy h = tidy_below k old new (Some child) change.sets (used, tidy) h

-- ---- a level, where the one that a key leads to goes

pub nil_of : {A : Type 0} (xs : List A) → length xs ≡ 0 → xs ≡ []
nil_of [] e = refl
nil_of (x ∷ xs) e = absurd (omega (arith, e))

pub bare_from : (level : Level) → size_of level ≡ 0 → IsBare level
bare_from level e = record { nobody = nil_of (sessions_of level) (omega (arith, e)); nothing = nil_of (entries_of level) (omega (arith, e)) }

-- child was written, and is empty now; it is taken out
pub cut_sets : (k : Key) (child' old new : Level) (es es' es'' : List (Key × Level)) → es ≡ entries_of old → entries_of new ≡ es'' →
    ((q : Key) → lookup (is_at (key_cmp q)) es' ≡ cond (is_at (key_cmp k) q) (Some child') (lookup (is_at (key_cmp q)) es)) →
    ((q : Key) → lookup (is_at (key_cmp q)) es'' ≡ cond (is_at (key_cmp k) q) None (lookup (is_at (key_cmp q)) es')) → SetsChild k None old new
cut_sets k child' old new es es' es'' was is first second = sets_child k None old new es es'' was is (sets_then k (Some child') None es es' es'' first second)

pub heard_cut : (op : Bool → Bool → Bool) → ((b : Bool) → op false b ≡ b) → (t : SessionId) (keys : Path) (k : Key) (rest : Path) (child child' old new : Level) →
    keys ≡ k ∷ rest → sessions_of new ≡ sessions_of old → child_at k old ≡ Some child → SetsChild k None old new → size_of child' ≡ 0 →
    ((p : Path) (s : SessionId) → heard p s child' ≡ op (same_listener (listener_of t rest) (listener_of s p)) (heard p s child)) →
    (p : Path) (s : SessionId) → heard p s new ≡ op (same_listener (listener_of t keys) (listener_of s p)) (heard p s old)
heard_cut op neutral t keys k rest child child' old new is same was sets empty below =
    step_below op neutral t keys k rest old new None is same sets
    (λ p s. sym (nobody_hears child' (bare_from child' empty) p s) ∙ below p s ∙ ap (λ o. op (same_listener (listener_of t rest) (listener_of s p)) (heard_in p s o)) (sym was))

pub tidy_cut : (k : Key) (old new : Level) → SetsChild k None old new → IsTidy old → IsTidy new
tidy_cut k old new sets h = tidy_below k old new None sets tt h

-- ---- what follows on one of two ways

pub on_ok : {T E : Type 0} {P Q : Type 0} (r : Result T E) → (P → Q) → OnOk r P → OnOk r Q
on_ok (Ok x) f h = f h
on_ok (Err e) f h = tt

pub on_err : {T E : Type 0} {P Q : Type 0} (r : Result T E) → (P → Q) → OnErr r P → OnErr r Q
on_err (Ok x) f h = tt
on_err (Err e) f h = f h

pub on_any_err : {T E : Type 0} {P : Type 0} (r : Result T E) → P → OnErr r P
on_any_err (Ok x) h = tt
on_any_err (Err e) h = h

pub on_any : {T E : Type 0} {P : Type 0} (r : Result T E) → P → OnOk r P
on_any (Ok x) h = h
on_any (Err e) h = tt

-- what holds on both ways
pub on_both : {T E : Type 0} {P Q R : Type 0} (r : Result T E) → OnOk r P → OnErr r Q → (P → R) → (Q → R) → R
on_both (Ok x) a b f g = f a
on_both (Err e) a b f g = g b

pub on_ok3 : {T E : Type 0} {A B C D : Type 0} (r : Result T E) → (A → B → C → D) → OnOk r A → OnOk r B → OnOk r C → OnOk r D
on_ok3 (Ok x) f a b c = f a b c
on_ok3 (Err e) f a b c = tt

-- where there is no map there is no level
pub no_entries : (o : Option (BTreeMap Key Level)) → ((below : BTreeMap Key Level) → o ≡ Some below → ⊥) → entries_in o ≡ []
no_entries None none = refl
no_entries (Some below) none = absurd (none below refl)
