use Rattle.std.proofs.Common.{sym, subst, ap, ◌∙◌, ◌≡◌, ◌+◌, ℕ, List, length, Result, Ok, Err, OnErr}
use Rattle.pres_log.specs.declared.entry.Batch.{Batch}
use Rattle.pres_log.specs.declared.entry.Entry.{Entry}
use Rattle.pres_server.specs.declared.index.Index.{Index}
use Rattle.pres_server.specs.Sums.{Sum, part_in, paths_in, sum_after_all, sum_with}
use Rattle.pres_server.specs.SumStates.{SumState}
use Rattle.pres_server.specs.SumTurns.{FollowsSum}
use Rattle.pres_server.specs.Histories.{IsSum}
use Rattle.pres_server.specs.InternalFollows.{MayComeTogetherBy}
use Rattle.pres_server.specs.InternalSums.{sum_in, Agrees, MayTakeFrom}
use Rattle.pres_server.proofs.SumServers.{fits, joined, unchanged}
use Rattle.pres_server.proofs.SumSteps.{agrees_in}
use Rattle.pres_server.proofs.KeptSums.{sum_holds}
use Rattle.pres_server.proofs.server.Server.grow.Goals as goal

-- the index may take what the readers of the batch give
taken : (sum : Sum) (index : Index) (b : Batch) (first moment : ℕ) (es : List Entry) → first ≡ b.first → moment ≡ b.moment → es ≡ b.entries
    → MayTakeFrom sum b.first b.moment b.entries index → MayTakeFrom sum first moment es index
taken sum index b first moment es f m k h = subst (λ (x : ℕ × ℕ × List Entry). MayTakeFrom sum x.0 x.1 x.2 index) (λ i. (sym f i, sym m i, sym k i)) h

pub grow-grown-requires : goal.grow-grown-requires
grow-grown-requires c =
    let i = c.self.inside in
    let b = c.args.batch in
    let sum = sum_in i.batches i.moment i.number i.index in
    let follows : FollowsSum sum b = subst (λ (s : SumState). FollowsSum s.sum b) (sym c.self.view_is) c.requires in (
      sum,
      taken sum i.index b _ _ _ c.first.ensures c.moment-moment.ensures c.entries-entries.ensures.entries (fits i.batches i.moment i.number i.index b c.self.invariant follows),
      subst (λ (x : ℕ × List Entry). MayComeTogetherBy (part_in sum) (paths_in sum) (length sum.sessions) sum.tree x.0 x.1) (λ j. (sym c.moment-moment.ensures j, sym c.entries-entries.ensures.entries j)) follows.allowed,
    )

refused : {A E P : Type 0} (r : Result A E) → P → OnErr r P
refused (Ok a) p = tt
refused (Err e) p = p

pub invariant_of-self : goal.invariant_of-self
invariant_of-self c =
    let i = c.self.inside in
    let sum = sum_in i.batches i.moment i.number i.index in
    let a = c.in_err-grown.ensures.unchanged.says sum (agrees_in i.batches i.moment i.number i.index) in
    subst IsSum (sym (unchanged i.batches i.moment i.number i.index c.grow-grown.new.self c.self.invariant a c.open_count.ensures.ordered c.open_count.ensures.gone)) c.self.invariant

pub returns-in_err-grown-clause-unchanged : goal.returns-in_err-grown-clause-unchanged
returns-in_err-grown-clause-unchanged c =
    let i = c.self.inside in
    let sum = sum_in i.batches i.moment i.number i.index in
    let a = c.in_err-grown.ensures.unchanged.says sum (agrees_in i.batches i.moment i.number i.index) in
    refused _ (unchanged i.batches i.moment i.number i.index c.grow-grown.new.self c.self.invariant a c.open_count.ensures.ordered c.open_count.ensures.gone ∙ ap (λ (s : SumState). s.sum) c.self.view_is)

pub invariant_of-self-2 : goal.invariant_of-self-2
invariant_of-self-2 c =
    let i = c.self.inside in
    let b = c.args.batch in
    let sum = sum_in i.batches i.moment i.number i.index in
    let new = c.grow-grown.new.self in
    let follows : FollowsSum sum b = subst (λ (s : SumState). FollowsSum s.sum b) (sym c.self.view_is) c.requires in
    let f = taken sum i.index b _ _ _ c.first.ensures c.moment-moment.ensures c.entries-entries.ensures.entries (fits i.batches i.moment i.number i.index b c.self.invariant follows) in
    let a : Agrees new (sum_after_all b.entries sum) = subst (λ es. Agrees new (sum_after_all es sum)) c.entries-entries.ensures.entries (c.in_ok-grown.ensures.agrees sum f) in
    let count = ap (λ n. i.number + n) (ap length c.entries-entries.ensures.entries) in
    subst IsSum (sym (joined i.batches i.moment i.number i.index new b (i.number + length c.entries-entries.result.now) c.moment-moment.result c.self.invariant follows count c.moment-moment.ensures a c.open_count.ensures.ordered c.open_count.ensures.gone))
    (sum_holds sum b c.self.invariant follows)

pub returns-clause-added : goal.returns-clause-added
returns-clause-added c =
    let i = c.self.inside in
    let b = c.args.batch in
    let sum = sum_in i.batches i.moment i.number i.index in
    let new = c.grow-grown.new.self in
    let follows : FollowsSum sum b = subst (λ (s : SumState). FollowsSum s.sum b) (sym c.self.view_is) c.requires in
    let f = taken sum i.index b _ _ _ c.first.ensures c.moment-moment.ensures c.entries-entries.ensures.entries (fits i.batches i.moment i.number i.index b c.self.invariant follows) in
    let a : Agrees new (sum_after_all b.entries sum) = subst (λ es. Agrees new (sum_after_all es sum)) c.entries-entries.ensures.entries (c.in_ok-grown.ensures.agrees sum f) in
    let count = ap (λ n. i.number + n) (ap length c.entries-entries.ensures.entries) in
    joined i.batches i.moment i.number i.index new b (i.number + length c.entries-entries.result.now) c.moment-moment.result c.self.invariant follows count c.moment-moment.ensures a c.open_count.ensures.ordered c.open_count.ensures.gone
    ∙ ap (λ (s : SumState). sum_with s.sum b) c.self.view_is
