use Rattle.std.proofs.Common.{◌≡◌, ◌<◌, ℕ, All, Less, subst, sym}
use Rattle.std.specs.List.Sorted.{IsStrictlySortedBy}
use Rattle.std.specs.Map.{keys_of}
use Rattle.std.specs.Ordering.{nat_cmp}
use Rattle.pres_plan.specs.declared.row.PlanRow.{PlanRow}
use Rattle.pres_plan.specs.Standing.{Entries}
use Rattle.pres_plan.proofs.Numbers.{all_then, by_recursion}
use Rattle.pres_plan.proofs.Searches.{rise_pushed, less_from_lt}
use Rattle.pres_plan.proofs.numbered.Numbered.push.Goals as goal

pub invariant_of-self-2 : goal.invariant_of-self-2
invariant_of-self-2 c =
    let n = c.args.number in
    let xs = c.self.inside.list.items in
    let low = subst (λ (es : Entries). All (λ e. e.0 < n) es) (sym c.self.view_is) c.requires in
    subst (λ (es : Entries). IsStrictlySortedBy nat_cmp (keys_of es)) (sym c.in_ok-push.ensures.items)
    (rise_pushed nat_cmp xs (n, c.args.row) c.self.invariant (all_then (λ (e : ℕ × PlanRow). e.0 < n) (λ e. nat_cmp e.0 n ≡ Less) (λ e l. less_from_lt e.0 n l) xs (by_recursion (λ (e : ℕ × PlanRow). e.0 < n) xs low)))
