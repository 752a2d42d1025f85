use Rattle.std.proofs.Common.{rules, subst, sym, ◌∙◌, List, leb, of_calls}
use Rattle.std.proofs.lemmas.Fn.{always_returns_same}
use Rattle.std.proofs.lemmas.List.Sorted.{IsPartitionedBy-leb}
use Rattle.pres_log.specs.declared.entry.Batch.{Batch}
use Rattle.pres_log.specs.Logs.{IsNumbered}
use Rattle.pres_log.proofs.Entries.{IsBegun, firsts_rise, begun_before, begun_after}
use Rattle.pres_log.proofs.log.Log.begun.Goals as goal

point : (c : goal.After-partition_point) → IsBegun c.args.self.now c.args.number c.partition_point.result
point c =
    let lent : List Batch = c.as_slice.result.now in
    let is : IsNumbered lent = subst IsNumbered (sym c.as_slice.ensures.value) c.self.invariant in
    let found = c.partition_point.ensures.partitioned (λ b. leb b.first c.args.number) (always_returns_same _ _ _ (λ a r f k. search (rules, of_calls)))
    (IsPartitionedBy-leb (λ (b : Batch). b.first) lent c.args.number (firsts_rise lent is)) in
    subst (λ log. IsBegun log c.args.number c.partition_point.result) (c.as_slice.ensures.value ∙ c.self.view_is) found

pub returns-clause-begun : goal.returns-clause-begun
returns-clause-begun c = begun_before c.args.self.now c.args.number c.partition_point.result (point c)

pub returns-clause-rest : goal.returns-clause-rest
returns-clause-rest c = begun_after c.args.self.now c.args.number c.partition_point.result (point c)
