use Rattle.std.proofs.Common.{rules, ◌≡◌, ◌∙◌, true, false, Less, sym, subst, take, drop, is_lt}
use Rattle.std.specs.List.{AllByRecursion}
use Rattle.std.specs.List.Sorted.{IsStrictlySortedBy, IsPartitionPoint}
use Rattle.std.specs.Map.{keys_of}
use Rattle.std.proofs.lemmas.List.Sorted.{IsPartitionPoint-from_clause}
use Rattle.pres_tree.specs.Paths.{Path, path_cmp}
use Rattle.pres_plan.specs.declared.places.Spot.{Spot}
use Rattle.pres_plan.specs.Places.{Spots}
use Rattle.pres_plan.proofs.Numbers.{all_then}
use Rattle.pres_plan.proofs.Searches.{front, back, lower_first, less_is}
use Rattle.pres_plan.proofs.places.Places.count_before.Goals.{After-partition_point}
use Rattle.pres_plan.proofs.places.Places.count_before.Goals as goal

part : (c : After-partition_point) → IsPartitionPoint (λ (e : Path × Spot). is_lt (path_cmp e.0 c.args.path.now) ≡ true) (λ e. is_lt (path_cmp e.0 c.args.path.now) ≡ false) c.deref.result.now c.partition_point.result
part c =
    let p = c.args.path.now in
    let xs = c.deref.result.now in
    IsPartitionPoint-from_clause (λ (e : Path × Spot). is_lt (path_cmp e.0 p)) xs c.partition_point.result c.partition_point.ensures.partitioned
    (lower_first p xs (subst (λ (es : Spots). IsStrictlySortedBy path_cmp (keys_of es)) (sym c.deref.ensures.value) c.self.invariant)) (λ a r f k. search rules)

pub returns-clause-before : goal.returns-clause-before
returns-clause-before c =
    let p = c.args.path.now in
    let i = c.partition_point.result in
    let xs = c.deref.result.now in
    subst (λ (es : Spots). AllByRecursion (λ e. path_cmp e.0 p ≡ Less) (take i es)) (c.deref.ensures.value ∙ c.self.view_is)
    (all_then (λ (e : Path × Spot). is_lt (path_cmp e.0 p) ≡ true) (λ e. path_cmp e.0 p ≡ Less) (λ e h. less_is (path_cmp e.0 p) h) (take i xs)
    (front (λ (e : Path × Spot). is_lt (path_cmp e.0 p) ≡ true) xs i c.partition_point.ensures.bound (part c).0))

pub returns-clause-after : goal.returns-clause-after
returns-clause-after c =
    let p = c.args.path.now in
    let i = c.partition_point.result in
    subst (λ (es : Spots). AllByRecursion (λ e. is_lt (path_cmp e.0 p) ≡ false) (drop i es)) (c.deref.ensures.value ∙ c.self.view_is)
    (back (λ (e : Path × Spot). is_lt (path_cmp e.0 p) ≡ false) c.deref.result.now i (part c).1)
