use Rattle.std.proofs.Common.{◌∙◌, ap, sym, subst, ◌≡◌, ◌+◌, ℕ, List, ◌++◌, length, arith}
use Rattle.pres_log.specs.declared.entry.Batch.{Batch}
use Rattle.pres_log.specs.declared.entry.Entry.{Entry}
use Rattle.pres_server.specs.declared.index.Index.{Index}
use Rattle.pres_server.specs.ServerStates.{heard_after_all}
use Rattle.pres_server.specs.Sums.{Sum, sum_after_all, sum_with}
use Rattle.pres_server.specs.SumStates.{SumState}
use Rattle.pres_server.specs.SumAnswers.{answers_by}
use Rattle.pres_server.specs.SumTurns.{FollowsSum, after_commit}
use Rattle.pres_server.specs.Histories.{IsSum}
use Rattle.pres_server.specs.InternalIndex.{Tells, heard_in}
use Rattle.pres_server.specs.InternalSums.{sum_in, Agrees, MayTakeFrom}
use Rattle.pres_server.proofs.Heard.{heard_tells}
use Rattle.pres_server.proofs.Heard.{heard_done}
use Rattle.pres_server.proofs.KeptSums.{sum_holds}
use Rattle.pres_server.proofs.SumServers.{fits, joined, batch_is, number_after, batches_small, open_in_order}
use Rattle.pres_server.proofs.server.Server.join.Goals as goal

-- the index may take what the readers of the batch give
taken : (sum : Sum) (index : Index) (b : Batch) (first moment : ℕ) (es : List Entry) → first ≡ b.first → moment ≡ b.moment → es ≡ b.entries
    → MayTakeFrom sum b.first b.moment b.entries index → MayTakeFrom sum first moment es index
taken sum index b first moment es f m k h = subst (λ (x : ℕ × ℕ × List Entry). MayTakeFrom sum x.0 x.1 x.2 index) (λ i. (sym f i, sym m i, sym k i)) h

pub take_all-requires : goal.take_all-requires
take_all-requires c =
    let i = c.self.inside in
    let b = c.args.batch in
    let sum = sum_in i.batches i.moment i.number i.index in
    let follows : FollowsSum sum b = subst (λ (s : SumState). FollowsSum s.sum b) (sym c.self.view_is) c.requires in
    (sum, taken sum i.index b _ _ _ c.first.ensures c.moment-moment.ensures c.entries-entries.ensures.entries (fits i.batches i.moment i.number i.index b c.self.invariant follows))

pub overflow_add-server : goal.overflow_add-server
overflow_add-server c =
    let i = c.self.inside in
    let small = batches_small (sum_in i.batches i.moment i.number i.index) c.self.invariant in
    omega arith

pub overflow_add-server-2 : goal.overflow_add-server-2
overflow_add-server-2 c =
    let i = c.self.inside in
    let b = c.args.batch in
    let sum = sum_in i.batches i.moment i.number i.index in
    let follows : FollowsSum sum b = subst (λ (s : SumState). FollowsSum s.sum b) (sym c.self.view_is) c.requires in
    let small = number_after sum b follows in
    let es = ap length c.entries-entries.ensures.entries in
    omega arith

pub invariant_of-server : goal.invariant_of-server
invariant_of-server c =
    let i = c.self.inside in
    let b = c.args.batch in
    let sum = sum_in i.batches i.moment i.number i.index in
    let new = c.take_all.new.index in
    let follows : FollowsSum sum b = subst (λ (s : SumState). FollowsSum s.sum b) (sym c.self.view_is) c.requires in
    let f = taken sum i.index b _ _ _ c.first.ensures c.moment-moment.ensures c.entries-entries.ensures.entries (fits i.batches i.moment i.number i.index b c.self.invariant follows) in
    let a : Agrees new (sum_after_all b.entries sum) = subst (λ es. Agrees new (sum_after_all es sum)) c.entries-entries.ensures.entries (c.in_ok-take_all.ensures.agrees sum f) in
    let count = ap (λ n. i.number + n) (ap length c.entries-entries.ensures.entries) in
    subst IsSum (sym (joined i.batches i.moment i.number i.index new b (i.number + length c.entries-entries.result.now) c.moment-moment.result c.self.invariant follows count c.moment-moment.ensures a c.open_count.ensures.ordered c.open_count.ensures.gone))
    (sum_holds sum b c.self.invariant follows)

pub returns-clause-server : goal.returns-clause-server
returns-clause-server c =
    let i = c.self.inside in
    let b = c.args.batch in
    let sum = sum_in i.batches i.moment i.number i.index in
    let old = i.index in
    let new = c.take_all.new.index in
    let follows : FollowsSum sum b = subst (λ (s : SumState). FollowsSum s.sum b) (sym c.self.view_is) c.requires in
    let f = taken sum old b _ _ _ c.first.ensures c.moment-moment.ensures c.entries-entries.ensures.entries (fits i.batches i.moment i.number old b c.self.invariant follows) in
    let a : Agrees new (sum_after_all b.entries sum) = subst (λ es. Agrees new (sum_after_all es sum)) c.entries-entries.ensures.entries (c.in_ok-take_all.ensures.agrees sum f) in
    let count = ap (λ n. i.number + n) (ap length c.entries-entries.ensures.entries) in
    let same = joined i.batches i.moment i.number old new b (i.number + length c.entries-entries.result.now) c.moment-moment.result c.self.invariant follows count c.moment-moment.ensures a c.open_count.ensures.ordered c.open_count.ensures.gone in
    let is = batch_is sum b follows in
    let tells : Tells (heard_after_all b.moment b.entries (heard_in old)) new = subst (λ (x : ℕ × List Entry). Tells (heard_after_all x.0 x.1 (heard_in old)) new) (λ j. (c.moment-moment.ensures j, c.entries-entries.ensures.entries j)) (c.in_ok-take_all.ensures.heard (heard_in old) (heard_tells old)) in
    let heard = heard_done b.moment b.entries old new (open_in_order i.batches i.moment i.number old c.self.invariant) c.open_count.ensures.ordered tells in
    (λ j. record { sum = (same ∙ ap (sum_with sum) is) j; heard = heard j })
    ∙ ap (λ (s : SumState). after_commit s b.moment b.entries) c.self.view_is

pub returns-clause-answers : goal.returns-clause-answers
returns-clause-answers c =
    let i = c.self.inside in
    let b = c.args.batch in
    let sum = sum_in i.batches i.moment i.number i.index in
    let follows : FollowsSum sum b = subst (λ (s : SumState). FollowsSum s.sum b) (sym c.self.view_is) c.requires in
    let f = taken sum i.index b _ _ _ c.first.ensures c.moment-moment.ensures c.entries-entries.ensures.entries (fits i.batches i.moment i.number i.index b c.self.invariant follows) in
    c.of.ensures
    ∙ c.in_ok-take_all.ensures.answers sum f
    ∙ (λ j. c.new-answers.ensures.items j ++ answers_by sum (c.entries-entries.ensures.entries j))
    ∙ ap (λ (s : SumState). answers_by s.sum b.entries) c.self.view_is
