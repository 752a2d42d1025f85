-- Rows that no later row covers.
use Rattle.std.specs.Prelude.{◌&&◌, Bool, true, List, [], ◌∷◌}
use Rattle.pres_plan.specs.declared.row.PlanRow.{PlanRow}
use Rattle.pres_plan.specs.Plans.{is_left}

-- no later row covers one of them
abbrev pub none_covered : List PlanRow → Bool
none_covered [] = true
none_covered (row ∷ later) = is_left later row && none_covered later
