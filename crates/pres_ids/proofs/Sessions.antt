-- A list of another length than three is no session.
use Rattle.std.proofs.Common.{◌≡◌, ◌<◌, List, [], ◌∷◌, length, None, refl, arith}
use Rattle.serde_json.specs.View.{items_view}
use Rattle.serde_json.specs.declared.value.Value.{Value}
use Rattle.pres_ids.specs.Forms.{session_in_items}

pub too_few : (vs : List Value) → length vs < 3 → session_in_items (items_view vs) ≡ None
too_few [] h = refl
too_few (a ∷ []) h = refl
too_few (a ∷ b ∷ []) h = refl
too_few (a ∷ b ∷ c ∷ vs) h = absurd (omega arith)

pub too_many : (vs : List Value) → 3 < length vs → session_in_items (items_view vs) ≡ None
too_many [] h = absurd (omega arith)
too_many (a ∷ []) h = absurd (omega arith)
too_many (a ∷ b ∷ []) h = absurd (omega arith)
too_many (a ∷ b ∷ c ∷ []) h = absurd (omega arith)
too_many (a ∷ b ∷ c ∷ d ∷ vs) h = refl
