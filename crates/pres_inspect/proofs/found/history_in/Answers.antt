use Rattle.std.proofs.Common.{ap, subst, sym, ◌∙◌}
use Rattle.std.specs.Prelude.{IfErr}
use Rattle.std.proofs.lemmas.Result.{IfOk-weaker}
use Rattle.sqlite.specs.Held.{Held, state}
use Rattle.pres_keeper.specs.Keepers.{whole}
use Rattle.pres_saved.specs.SqlKeepers.{readable_in}
use Rattle.pres_inspect.specs.Copies.{IsFlaw, ShowsWhileOpen, history_of}
use Rattle.pres_inspect.proofs.Flaws.{no_flaw, shows_left}
use Rattle.pres_inspect.proofs.found.history_in.Goals as goal

pub returns-in-Ok-clause-held : goal.returns-in-Ok-clause-held
returns-in-Ok-clause-held g c = λ serves.
    IfOk-weaker c.legal_only.result _ _ (λ legal same. c.in-Ok.ensures.held serves ∙ ap (λ found. whole (history_of found)) (sym same)) c.legal_only.ensures.same

pub returns-in-Ok-clause-refused : goal.returns-in-Ok-clause-refused
returns-in-Ok-clause-refused g c = λ serves.
    subst (λ held. IfErr c.legal_only.result (IsFlaw held)) (sym (c.in-Ok.ensures.held serves)) c.legal_only.ensures.refused

pub returns-in-Err-BadRow-clause-refused : goal.returns-in-Err-BadRow-clause-refused
returns-in-Err-BadRow-clause-refused g c = λ serves.
    let held = readable_in g.S.Store c.args.keeper in
    let now = c.loaded.new.keeper in
    c.flaw_in.ensures held
    (subst (λ (h : Held g.row.S.Denot). ShowsWhileOpen (state g.S.Store h) held) (sym c.into_connection.ensures)
    (shows_left g.S.Store c.args.keeper now (c.requires.honest c.args.keeper.connection) serves (c.in-Err-BadRow.ensures.left serves)))

pub returns-in-Err-clause-refused : goal.returns-in-Err-clause-refused
returns-in-Err-clause-refused g c = λ serves.
    let held = readable_in g.S.Store c.args.keeper in
    subst (IsFlaw held) (sym c.from.ensures) (no_flaw held c.in-Err.fault)
