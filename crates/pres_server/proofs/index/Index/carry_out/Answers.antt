use Rattle.std.proofs.Common.{refl, sym, ◌∙◌, ap, append-nil, ◌++◌}
use Rattle.pres_server.specs.InternalPushes.{after_pushes, pushes}
use Rattle.pres_server.specs.InternalIndex.{session_at}
use Rattle.pres_server.proofs.Pushed.{nobody_touched, no_writes}
use Rattle.pres_server.proofs.index.Index.carry_out.Goals as goal

pub returns-then-is_empty-clause-carried : goal.returns-then-is_empty-clause-carried
returns-then-is_empty-clause-carried c =
    let old = c.args.self.now in
    let nobody = nobody_touched c.args.writes.now old.listeners (no_writes c.args.writes.now (sym c.is_empty.ensures ∙ c.if-is_empty.true)) in
    record {
      live = λ client. sym (ap (λ reached. after_pushes (session_at old) reached client) nobody);
      gone = refl;
      retry = refl;
      listeners = refl;
      tree = c.in-Ok.ensures.ok;
    }

pub returns-then-is_empty-clause-messages : goal.returns-then-is_empty-clause-messages
returns-then-is_empty-clause-messages c =
    let old = c.args.self.now in
    let nobody = nobody_touched c.args.writes.now old.listeners (no_writes c.args.writes.now (sym c.is_empty.ensures ∙ c.if-is_empty.true)) in
    sym (append-nil c.args.outs.now.items) ∙ sym (ap (λ reached. c.args.outs.now.items ++ pushes c.args.z c.apply.new.tree (session_at old) reached) nobody)
