-- Leaves that are changed by what their places hold in another value.
use Rattle.std.specs.Prelude.{[], ◌∷◌, List, map, Option}
use Rattle.pres_tree.specs.Keys.{Key}
use Rattle.pres_tree.specs.Rows.{Rows, leaf_at, value_at}

-- the rows with each leaf changed, by what its place holds in another value
abbrev pub leaves_on : {A B : Type 0} → (Option B → A → B) → Rows B → Rows A → Rows B
leaves_on f held v = map (λ r. (r.0, f (leaf_at held r.0) r.1)) v

abbrev pub children_on : {A B : Type 0} → (Option B → A → B) → Rows B → List (Key × Rows A) → List (Key × Rows B)
children_on f held es = map (λ e. (e.0, leaves_on f (value_at (e.0 ∷ []) held) e.1)) es
