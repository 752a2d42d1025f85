use Rattle.std.proofs.Common.{◌∙◌, ap, refl, sym, subst}
use Rattle.pres_server.specs.declared.index.Index.{Index}
use Rattle.pres_server.specs.ServerStates.{heard_again}
use Rattle.pres_server.specs.SumStates.{SumState}
use Rattle.pres_server.specs.Histories.{IsSum}
use Rattle.pres_server.proofs.Heard.{hears, hear_is}
use Rattle.pres_server.proofs.SumServers.{heard_still, open_in_order}
use Rattle.pres_server.proofs.server.Server.hear.Goals as goal

pub invariant_of-self : goal.invariant_of-self
invariant_of-self c =
    let i = c.self.inside in
    let old = i.index in
    let new : Index = record { places = c.hear.new.self; retry = old.retry; listeners = old.listeners; tree = old.tree } in
    let h = hears c.args.client.now c.args.moment old new c.hear.ensures.known c.hear.ensures.stranger c.hear.ensures.gone refl refl refl in
    subst IsSum (sym (heard_still i.batches i.moment i.number old c.args.client.now c.args.moment new h c.self.invariant c.hear.ensures.ordered)) c.self.invariant

pub returns : goal.returns
returns c =
    let i = c.self.inside in
    let old = i.index in
    let new : Index = record { places = c.hear.new.self; retry = old.retry; listeners = old.listeners; tree = old.tree } in
    let h = hears c.args.client.now c.args.moment old new c.hear.ensures.known c.hear.ensures.stranger c.hear.ensures.gone refl refl refl in
    let same = heard_still i.batches i.moment i.number old c.args.client.now c.args.moment new h c.self.invariant c.hear.ensures.ordered in
    let heard = hear_is c.args.client.now c.args.moment old new h (open_in_order i.batches i.moment i.number old c.self.invariant) c.hear.ensures.ordered in
    (λ x. record { sum = same x; heard = heard x })
    ∙ ap (λ (s : SumState). record { sum = s.sum; heard = heard_again c.args.client.now c.args.moment s.heard }) c.self.view_is
