use Rattle.std.proofs.Common.{subst, sym}
use Rattle.pres_keeper.specs.Keepers.{IsFirstIllegalAfter, IsNoLogAfter}
use Rattle.pres_inspect.proofs.Flaws.{first_illegal}
use Rattle.pres_inspect.proofs.found.refused_batch.Goals as goal

pub returns-in-NotLegal : goal.returns-in-NotLegal
returns-in-NotLegal c = λ history illegal.
    first_illegal history _ (subst (IsFirstIllegalAfter history.base history.log) (sym c.up_to.ensures)
    (subst (IsNoLogAfter history.base history.log) c.in-NotLegal.is illegal))
