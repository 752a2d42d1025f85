use Rattle.std.proofs.Common.{subst}
use Rattle.std.proofs.lemmas.Result.{on_ok_weaker}
use Rattle.pres_service.specs.ClientRuns.{RunsClient}
use Rattle.pres_service.proofs.client.client_run.Goals as goal

-- nothing was printed before the lines were read
pub returns-clause-visited : goal.returns-clause-visited
returns-clause-visited g c =
    let text = g.W.Write.contents in
    let lines = c.in_ok-lines.lines.items in
    on_ok_weaker c.follow.result
    (λ visits. record {
      lines = lines;
      read = c.in_ok-lines.ensures.lines;
      visits = subst (λ output. RunsClient c.args.visit.id c.args.visit.incarnation lines (text output) (text c.follow.new.output)) c.in_ok-lines.ensures.quiet visits;
    })
    c.follow.ensures.visited
