-- How deep lists of values at paths nest.
use Rattle.std.proofs.Common.{ℕ, suc, zero, ◌≤◌, ◌<◌, List, [], ◌∷◌, length, map, arith}
use Rattle.std.specs.Prelude.{slice_index_or}
use Rattle.serde_json.specs.Data.{depth, items_depth}
use Rattle.serde_json.specs.View.{items_of}
use Rattle.pres_wire.specs.declared.values.PathValue.{PathValue}
use Rattle.pres_wire.specs.DownForms.{path_value_json, values_json}

-- the JSON of the first n nests few levels
abbrev pub AllLow : List PathValue → ℕ → Type 0
AllLow vs n = (k : ℕ) (d : PathValue) → k < n → depth (path_value_json (slice_index_or vs k d)) ≤ 34

items_low : (vs : List PathValue) → AllLow vs (length vs) → items_depth (items_of (map path_value_json vs)) ≤ 34
items_low [] h = omega arith
items_low (v ∷ vs) h = omega (arith, h zero v (omega arith), items_low vs (λ k d l. h (suc k) d (omega arith)))

pub values_low : (vs : List PathValue) → AllLow vs (length vs) → depth (values_json vs) ≤ 35
values_low vs h = omega (arith, items_low vs h)
