use Rattle.std.proofs.Common.{◌≡◌, ◌∙◌, ◌+◌, ◌↔◌, IsTrue, ap, sym, subst, arith}
use Rattle.std.proofs.lemmas.Result.{IfOk-weaker}
use Rattle.pres_server.specs.InternalFollows.{MayJoinOn}
use Rattle.pres_server.specs.SumStates.{SumState}
use Rattle.pres_server.specs.SumTurns.{FollowsSum}
use Rattle.pres_server.proofs.SumServers.{number_small, open_small, counted, follows_by}
use Rattle.pres_server.proofs.server.Server.may_follow.Goals as goal

pub overflow_add-number : goal.overflow_add-number
overflow_add-number c =
    let i = c.self.inside in
    let small = number_small i.batches i.moment i.number i.index c.self.invariant in
    omega arith

pub may_join-requires : goal.may_join-requires
may_join-requires c =
    let i = c.self.inside in
    let small = number_small i.batches i.moment i.number i.index c.self.invariant in
    record { number = omega arith; sessions = open_small i.batches i.moment i.number i.index c.self.invariant; counted = counted i.batches i.moment i.number i.index }

pub returns : goal.returns
returns c =
    let b = c.args.batch.now in
    let i = c.self.inside in
    let m : c.millis.result ≡ c.moment-moment.result = c.millis.ensures.millis in
    let range = c.millis.ensures.bound in
    let last = c.millis-else-get-number.ensures.millis in
    let later = c.if-millis.false in
    let first : b.first ≡ i.number + 1 = sym c.first.ensures ∙ sym c.get.ensures.value ∙ c.if-get-number.false in
    let join = follows_by i.batches i.moment i.number i.index b i.number c.moment-moment.result c.entries.result.now (λ x. i.number) c.moment-moment.ensures c.entries.ensures.entries first (omega arith) range in
    IfOk-weaker c.may_join.result
    (λ may. IsTrue may ↔ MayJoinOn i.index (record { number = i.number; moment = c.moment-moment.result }) c.entries.result.now)
    (λ may. IsTrue may ↔ FollowsSum c.args.self.now.sum b)
    (λ x h. (λ t. subst (λ (s : SumState). FollowsSum s.sum b) c.self.view_is (join.0 (h.0 t)), λ f. h.1 (join.1 (subst (λ (s : SumState). FollowsSum s.sum b) (sym c.self.view_is) f))))
    c.may_join.ensures
