use Rattle.std.proofs.Common.{◌≡◌, ◌∙◌, ap, inl, cond, is_some, true, rules, [], ◌∷◌}
use Rattle.pres_log.specs.declared.entry.Entry.TheVariants as entry
use Rattle.pres_server.specs.Turns.{Decision, quiet, makes}
use Rattle.pres_server.specs.InternalParts.{limited_by}
use Rattle.pres_server.specs.InternalSessions.{open_count}
use Rattle.pres_server.proofs.Checks.{refused_by, decided_as}
use Rattle.pres_server.proofs.index.Index.decide_off.Goals as goal

pub returns-in_err-next_of : goal.returns-in_err-next_of
returns-in_err-next_of c =
    let accepted : Decision = makes (entry.Off c.args.session c.args.q c.args.path ∷ []) in
    refused_by _ _ c.from_residual.result c.in_err-next_of.field-0.0 c.from_residual.ensures
    (inl (ap (limited_by c.args.now.number (open_count c.args.self.now.places)) (c.in_err-next_of.ensures.decides accepted)))

pub returns : goal.returns
returns c =
    let is : is_some c.in_ok-next_of.field-0 ≡ true = search rules in
    let accepted : Decision = makes (entry.Off c.args.session c.args.q c.args.path ∷ []) in
    decided_as _ _ _ _ accepted _ (c.in_ok-next_of.ensures.decides accepted ∙ ap (λ b. cond b accepted quiet) is) (c.effect_of.ensures _ _ c.off_entries.ensures)
