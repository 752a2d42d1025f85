use Rattle.std.proofs.Common.{◌∙◌, ap, sym, subst}
use Rattle.pres_server.specs.SumStates.{SumState}
use Rattle.pres_server.specs.Histories.{IsSum}
use Rattle.pres_server.specs.Replays.{resumed}
use Rattle.pres_server.proofs.SumServers.{anew_still, heard_is_anew}
use Rattle.pres_server.proofs.server.Server.hear_anew.Goals as goal

pub invariant_of-self : goal.invariant_of-self
invariant_of-self c =
    let i = c.self.inside in
    subst IsSum (sym (anew_still i.batches i.moment i.number i.index i.moment c.hear_anew.new.self c.hear_anew.ensures.live c.hear_anew.ensures.gone)) c.self.invariant

pub returns : goal.returns
returns c =
    let i = c.self.inside in
    let same = anew_still i.batches i.moment i.number i.index i.moment c.hear_anew.new.self c.hear_anew.ensures.live c.hear_anew.ensures.gone in
    let heard = heard_is_anew i.batches i.moment i.number i.index c.hear_anew.new.self c.hear_anew.ensures.live in
    (λ x. record { sum = same x; heard = heard x }) ∙ ap (λ (s : SumState). resumed s.sum) c.self.view_is
