use Rattle.std.proofs.Common.{subst, sym}
use Rattle.pres_keeper.specs.Keepers.{IsFirstBad}
use Rattle.pres_inspect.specs.Copies.{IsFlaw}
use Rattle.pres_inspect.proofs.Flaws.{no_flaw, read_same, was_opened}
use Rattle.pres_inspect.proofs.found.flaw_at.Goals as goal

pub returns-in-Ok : goal.returns-in-Ok
returns-in-Ok g c = λ held shown bad.
    let now = c.requires.honest c.in-Ok.keeper.connection in
    let it = shown (was_opened g.S.Store c.args.connection _ (c.in-Ok.ensures.opens now)) in
    let is = read_same g.S.Store c.args.connection c.in-Ok.keeper held it (c.in-Ok.ensures.read now) in
    subst (λ h. IsFlaw h c.flaw_of-flaw.result) is
    (c.flaw_of-flaw.ensures (c.in-Ok.ensures.ready it.0).serves (subst (λ h. IsFirstBad h c.args.row) (sym is) bad))

pub returns-in-Err : goal.returns-in-Err
returns-in-Err g c = λ held shown bad. subst (IsFlaw held) (sym c.from.ensures) (no_flaw held _)
