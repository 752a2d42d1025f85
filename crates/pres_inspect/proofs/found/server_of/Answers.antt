use Rattle.std.proofs.Common.{subst, sym}
use Rattle.sqlite.specs.Held.{Held, state}
use Rattle.pres_saved.specs.SqlKeepers.{readable_in}
use Rattle.pres_inspect.specs.Copies.{ShowsWhileOpen}
use Rattle.pres_inspect.proofs.Flaws.{shows_left}
use Rattle.pres_inspect.proofs.found.server_of.Goals as goal

pub returns-in-Err-clause-refused : goal.returns-in-Err-clause-refused
returns-in-Err-clause-refused g c = λ serves.
    let held = readable_in g.S.Store c.args.keeper in
    let now = c.replayed.new.keeper in
    c.flaw_after.ensures held
    (subst (λ (h : Held g.row.S.Denot). ShowsWhileOpen (state g.S.Store h) held) (sym c.into_connection.ensures)
    (shows_left g.S.Store c.args.keeper now (c.requires.honest c.args.keeper.connection) serves (c.in-Err.ensures.left serves)))
    (c.in-Err.ensures.refused serves)
