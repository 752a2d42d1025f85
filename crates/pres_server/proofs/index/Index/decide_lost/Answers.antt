use Rattle.std.proofs.Common.{sym, ◌∙◌, ap, Option, None, Bool, cond, [], ◌∷◌}
use Rattle.pres_server.specs.Turns.{Decision, makes, quiet}
use Rattle.pres_server.specs.InternalParts.{LivePart, end_by}
use Rattle.pres_server.specs.InternalIndex.{live_at}
use Rattle.pres_server.proofs.Checks.{decided_as}
use Rattle.pres_server.proofs.index.Index.decide_lost.Goals as goal

pub returns : goal.returns
returns c =
    let ended : Option LivePart → Decision = λ l. makes (end_by l c.args.self.now.tree c.args.now.moment None c.args.why c.args.session ∷ []) in
    decided_as _ _ _ _ _ _
    (ap (λ (b : Bool). cond b (ended (live_at c.args.self.now c.args.session)) quiet) (sym c.in-Some.ensures.live) ∙ ap ended c.in-Some.ensures.is)
    (c.effect_of.ensures None _ c.end_entries.ensures)
