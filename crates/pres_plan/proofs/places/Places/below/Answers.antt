use Rattle.std.proofs.Common.{rules, ◌≡◌, ◌-◌, ◌∙◌, true, false, ap, sym, subst, length, take, drop}
use Rattle.std.specs.List.{AllByRecursion}
use Rattle.std.specs.List.Sorted.{IsStrictlySortedBy, IsPartitionedBy}
use Rattle.std.specs.Map.{keys_of}
use Rattle.std.proofs.lemmas.List.{take_rest}
use Rattle.std.proofs.lemmas.List.Sorted.{IsPartitionPoint-from_clause}
use Rattle.pres_tree.specs.Paths.{Path, path_cmp, is_prefix}
use Rattle.pres_plan.specs.declared.places.Spot.{Spot}
use Rattle.pres_plan.specs.Places.{Spots}
use Rattle.pres_plan.proofs.Searches.{front, back, run_first, run_is, rise_dropped}
use Rattle.pres_plan.proofs.places.Places.below.Goals as goal

pub returns-clause-entries : goal.returns-clause-entries
returns-clause-entries c =
    let p = c.args.path.now in
    let n = c.count_before.result in
    let m = c.partition_point-end.result in
    let es = c.args.self.now in
    let is = c.deref.ensures.value ∙ c.self.view_is in
    let rise = subst (λ (l : Spots). IsStrictlySortedBy path_cmp (keys_of l)) c.self.view_is c.self.invariant in
    let rest = take_rest c.deref.result.now n ∙ ap (drop n) is in
    let part =
    IsPartitionPoint-from_clause (λ (e : Path × Spot). is_prefix p e.0) (take (length c.deref.result.now - n) (drop n c.deref.result.now)) m c.partition_point-end.ensures.partitioned
    (subst (λ (l : Spots). IsPartitionedBy (λ e. is_prefix p e.0) l) (sym rest) (run_first p (drop n es) (rise_dropped es n rise) c.count_before.ensures.after)) (λ a r f k. search rules) in
    ap (take m) rest
    ∙ run_is p es n m c.count_before.ensures.before
    (subst (λ (l : Spots). AllByRecursion (λ e. is_prefix p e.0 ≡ true) (take m l)) rest (front (λ (e : Path × Spot). is_prefix p e.0 ≡ true) _ m c.partition_point-end.ensures.bound part.0))
    (subst (λ (l : Spots). AllByRecursion (λ e. is_prefix p e.0 ≡ false) (drop m l)) rest (back (λ (e : Path × Spot). is_prefix p e.0 ≡ false) _ m part.1))
