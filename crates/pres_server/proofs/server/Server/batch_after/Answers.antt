use Rattle.std.proofs.Common.{◌≡◌, ◌∙◌, ◌+◌, ◌++◌, ◌∷◌, [], List, length, ap, sym, subst, rules}
use Rattle.pres_log.specs.declared.entry.Entry.{Entry}
use Rattle.pres_server.specs.Sums.{Sum}
use Rattle.pres_server.specs.SumStates.{SumState}
use Rattle.pres_server.specs.Groups.{state_from}
use Rattle.pres_server.specs.Histories.{IsSum}
use Rattle.pres_server.proofs.Grouped.{state_sum, ahead}
use Rattle.pres_server.proofs.server.Server.batch_after.Goals as goal

pub returns : goal.returns
returns c =
    let i = c.self.inside in
    let state = c.args.self.now in
    let log = c.args.batches.now in
    let group = c.requires.group.1 in
    let holds : IsSum state.sum = subst (λ (x : SumState). IsSum x.sum) c.self.view_is c.self.invariant in
    let first : c.in-Some.first ≡ i.number + length log + 1 = search rules in
    let number : (state_from state log).sum.number ≡ i.number + length log =
    ap (λ (x : Sum). x.number) (state_sum log state) ∙ (ahead log state.sum holds group.follow group.ops).number ∙ ap (λ (x : SumState). x.sum.number + length log) (sym c.self.view_is) in
    let made : c.of.result ≡ c.args.entry ∷ [] = c.of.ensures ∙ c.in-Ok.ensures.items ∙ ap (λ (es : List Entry). es ++ c.args.entry ∷ []) c.requires.room.0 in
    c.new-2.ensures ∙ (λ j. record { first = (first ∙ ap (λ n. n + 1) (sym number)) j; moment = c.args.moment; entries = made j })
