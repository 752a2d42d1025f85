use Rattle.std.proofs.Common.{subst, sym}
use Rattle.pres_inspect.specs.Copies.{IsFlaw}
use Rattle.pres_inspect.proofs.Flaws.{no_flaw, read_same, was_opened}
use Rattle.pres_inspect.proofs.found.flaw_in.Goals as goal

pub returns-in-Err-server_of : goal.returns-in-Err-server_of
returns-in-Err-server_of g c = λ held shown.
    let now = c.requires.honest c.in-Ok.keeper.connection in
    let it = shown (was_opened g.S.Store c.args.connection _ (c.in-Ok.ensures.opens now)) in
    subst (λ h. IsFlaw h c.in-Err-server_of.flaw) (read_same g.S.Store c.args.connection c.in-Ok.keeper held it (c.in-Ok.ensures.read now))
    (c.in-Err-server_of.ensures.refused (c.in-Ok.ensures.ready it.0).serves)

pub returns-in-Err : goal.returns-in-Err
returns-in-Err g c = λ held shown. subst (IsFlaw held) (sym c.from.ensures) (no_flaw held _)
