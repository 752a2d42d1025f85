use Rattle.std.proofs.Common.{subst, sym}
use Rattle.pres_keeper.specs.Keepers.{IsNoServer}
use Rattle.pres_inspect.specs.Copies.{IsFlaw}
use Rattle.pres_inspect.proofs.Flaws.{no_flaw}
use Rattle.pres_inspect.proofs.found.flaw_after.Goals as goal

pub returns-in-BadRow : goal.returns-in-BadRow
returns-in-BadRow g c = λ held shown bad. c.flaw_at.ensures held shown (subst (IsNoServer held) c.in-BadRow.is bad)

pub returns-in_default : goal.returns-in_default
returns-in_default g c = λ held shown bad. subst (IsFlaw held) (sym c.from.ensures) (no_flaw held _)
