-- Values at paths that rise, and their JSON.
use Rattle.std.proofs.Common.{◌≡◌, ℕ, zero, suc, ◌+◌, ◌<◌, Bool, true, false, ◌&&◌, List, [], ◌∷◌, length, map, Some, refl, sym, ap, ◌∙◌, arith}
use native.Mathlib.Nat.{suc-add}
use Rattle.std.specs.Prelude.{slice_index_or}
use Rattle.std.specs.List.{AllAdjacentBelow, IsAllAdjacentAnswer}
use Rattle.std.specs.Ordering.{is_lt}
use Rattle.serde_json.specs.View.{items_of}
use Rattle.pres_tree.specs.Paths.{path_cmp}
use Rattle.pres_wire.specs.declared.values.PathValue.{PathValue}
use Rattle.pres_wire.specs.Values.{rise, Rising}
use Rattle.pres_wire.specs.DownForms.{path_value_json, values_json}
use Rattle.pres_wire.specs.DownReads.{path_value_of, values_of_items, values_of}

-- whether the path of the first is before that of the second
abbrev pub before : PathValue → PathValue → Bool
before v w = is_lt (path_cmp v.path w.path)

neither : (a b : Bool) → b ≡ false → (a && b) ≡ false
neither false b h = refl
neither true b h = h

all_rise : (vs : List PathValue) → AllAdjacentBelow (λ v w. true ≡ before v w) vs (length vs) → rise (map (λ v. v.path) vs) ≡ true
all_rise [] h = refl
all_rise (v ∷ []) h = refl
all_rise (v ∷ w ∷ vs) h = rw (← (h 0 v (omega arith))) (all_rise (w ∷ vs) (λ k d l. simp suc-add at (h (suc k) d (omega arith))))

some_falls : (vs : List PathValue) (k : ℕ) → k + 1 < length vs → ((d : PathValue) → false ≡ before (slice_index_or vs k d) (slice_index_or vs (k + 1) d)) → rise (map (λ v. v.path) vs) ≡ false
some_falls [] k l h = absurd (omega arith)
some_falls (v ∷ []) k l h = absurd (omega arith)
some_falls (v ∷ w ∷ vs) zero l h = rw (← (h v)) refl
some_falls (v ∷ w ∷ vs) (suc k) l h = neither (before v w) _ (some_falls (w ∷ vs) k (omega arith) (λ d. simp suc-add at (h d)))

answered : (vs : List PathValue) (r : Bool) → IsAllAdjacentAnswer (λ v w b. b ≡ before v w) vs r → rise (map (λ v. v.path) vs) ≡ r
answered vs true h = all_rise vs h
answered vs false h = some_falls vs h.0 h.1 h.2

-- what `is_sorted_by` answers is whether the paths rise
pub rising_answer : (vs ws : List PathValue) (r : Bool) → ws ≡ vs → IsAllAdjacentAnswer (λ v w b. b ≡ before v w) ws r → rise (map (λ v. v.path) vs) ≡ r
rising_answer vs ws r is h = ap (λ us. rise (map (λ v. v.path) us)) (sym is) ∙ answered ws r h

-- its JSON is read as it
abbrev pub Reads : PathValue → Type 0
Reads v = path_value_of (path_value_json v) ≡ Some v

-- the first n are read as they are
abbrev pub AllRead : List PathValue → ℕ → Type 0
AllRead vs n = (k : ℕ) (d : PathValue) → k < n → Reads (slice_index_or vs k d)

all_read : (vs : List PathValue) → AllRead vs (length vs) → values_of_items (items_of (map path_value_json vs)) ≡ Some vs
all_read [] h = refl
all_read (v ∷ vs) h = rw (h 0 v (omega arith), all_read vs (λ k d l. h (suc k) d (omega arith))) refl

pub values_read : (vs : List PathValue) → Rising vs → AllRead vs (length vs) → values_of (values_json vs) ≡ Some vs
values_read vs up h = rw (all_read vs h, up) refl
