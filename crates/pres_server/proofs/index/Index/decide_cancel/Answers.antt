use Rattle.std.specs.Prelude.{option_copied}
use Rattle.std.proofs.Common.{◌∙◌, ap, inl, cond, is_some, Bool, Option, Some}
use Rattle.pres_log.specs.declared.entry.Entry.TheVariants as entry
use Rattle.pres_server.specs.Turns.{Decision, quiet}
use Rattle.pres_server.specs.InternalParts.{LivePart, limited_by, leaves_by}
use Rattle.pres_server.specs.InternalSessions.{live_part, open_count}
use Rattle.pres_server.specs.InternalIndex.{live_at}
use Rattle.pres_server.proofs.Checks.{refused_by, decided_as, session_of}
use Rattle.pres_server.proofs.index.Index.decide_cancel.Goals as goal

pub returns-in_err-live : goal.returns-in_err-live
returns-in_err-live c =
    let decision : Option LivePart → Decision = λ l. leaves_by l (entry.Cancelled c.args.session c.args.q c.args.path) c.args.session c.args.q in
    refused_by _ _ c.from_residual.result c.in_err-live.field-0.0 c.from_residual.ensures
    (inl (ap (limited_by c.args.now.number (open_count c.args.self.now.places)) (c.in_err-live.ensures.decides (decision (live_at c.args.self.now c.args.session)))))

pub returns : goal.returns
returns c =
    let decision : Option LivePart → Decision = λ l. leaves_by l (entry.Cancelled c.args.session c.args.q c.args.path) c.args.session c.args.q in
    let live = session_of live_part _ _ c.in-Some.live.now c.in_ok-live.ensures.is (ap option_copied c.in-Some.is) in
    decided_as _ _ _ _ (decision (Some (live_part c.in-Some.live.now))) _
    (c.in_ok-live.ensures.decides (decision (live_at c.args.self.now c.args.session))
    ∙ ap (λ (b : Bool). cond b (decision (live_at c.args.self.now c.args.session)) quiet) (ap is_some c.in-Some.is)
    ∙ ap decision live)
    (c.effect_of.ensures _ _ c.cancel_entries.ensures)
