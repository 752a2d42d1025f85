-- A list of another length than two is no pair.
use Rattle.std.proofs.Common.{◌≡◌, ◌<◌, List, [], ◌∷◌, length, None, refl, arith}
use Rattle.serde_json.specs.View.{items_view}
use Rattle.serde_json.specs.declared.value.Value.{Value}
use Rattle.pres_ids.specs.Forms.{two_items}

pub too_few : (vs : List Value) → length vs < 2 → two_items (items_view vs) ≡ None
too_few [] h = refl
too_few (a ∷ []) h = refl
too_few (a ∷ b ∷ vs) h = absurd (omega arith)

pub too_many : (vs : List Value) → 2 < length vs → two_items (items_view vs) ≡ None
too_many [] h = absurd (omega arith)
too_many (a ∷ []) h = absurd (omega arith)
too_many (a ∷ b ∷ []) h = absurd (omega arith)
too_many (a ∷ b ∷ c ∷ vs) h = refl
