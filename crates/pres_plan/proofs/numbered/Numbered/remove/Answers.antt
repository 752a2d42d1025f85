use Rattle.std.proofs.Common.{rules, ◌≡◌, ◌<◌, ◌∙◌, ℕ, true≢false, Some, None, ap, sym, subst, length, filter, not, eqb, ltb}
use Rattle.std.specs.Option.{is_some}
use Rattle.std.specs.List.{remove, slice_index_or}
use Rattle.std.specs.List.Sorted.{IsStrictlySortedBy}
use Rattle.std.specs.Map.{keys_of, lookup}
use Rattle.std.specs.BTreeMap.{is_at}
use Rattle.std.specs.Ordering.{nat_cmp}
use Rattle.std.proofs.lemmas.Bool.{ltb-true, lt-ltb, ne_eqb}
use Rattle.std.proofs.lemmas.List.Sorted.{IsPartitionPoint-from_clause}
use Rattle.pres_plan.specs.declared.row.PlanRow.{PlanRow}
use Rattle.pres_plan.specs.Standing.{Entries}
use Rattle.pres_plan.proofs.Searches.{sides, lower_numbers, row_taken, row_missing, rise_removed, same_item}
use Rattle.pres_plan.proofs.numbered.Numbered.remove.Goals.{After-remove, In_default, in_default-via-in-Some+else-entry-number, in_default-via-in_default}
use Rattle.pres_plan.proofs.numbered.Numbered.remove.Goals as goal

taken : (c : After-remove) → (Some c.remove.result.1 ≡ lookup (is_at (nat_cmp c.args.number)) c.self.inside.list.items)
    × (remove c.self.inside.list.items c.partition_point-at.result ≡ filter (λ e. not (eqb c.args.number e.0)) c.self.inside.list.items)
taken c =
    let n = c.args.number in
    let i = c.partition_point-at.result in
    let xs = c.self.inside.list.items in
    let is = c.deref-2.ensures.value in
    let rise = subst (λ (es : Entries). IsStrictlySortedBy nat_cmp (keys_of es)) (sym c.deref.ensures.value) c.self.invariant in
    let parts =
    sides n c.deref.result.now xs i c.deref.ensures.value c.partition_point-at.ensures.bound
    (IsPartitionPoint-from_clause (λ (e : ℕ × PlanRow). ltb e.0 n) c.deref.result.now i c.partition_point-at.ensures.partitioned (lower_numbers n c.deref.result.now rise) (λ a r f k. search rules)) in
    let less = subst (λ (es : Entries). i < length es) is (ltb-true i (length c.deref-2.result.now) (sym c.in-Some.ensures.lookup.0)) in
    let entry = c.in-Some.ensures.lookup.1 ∙ ap (λ (es : Entries). slice_index_or es i c.in-Some.entry.now) is in
    let same = same_item xs i c.remove.result c.in-Some.entry.now less c.remove.ensures.value entry in
    row_taken n xs i c.remove.result c.self.invariant parts.0 less c.remove.ensures.value (ap (λ (e : ℕ × PlanRow). e.0) same ∙ c.if-entry-number.true)

missing : (c : In_default) → (None ≡ lookup (is_at (nat_cmp c.args.number)) c.self.inside.list.items) × (c.self.inside.list.items ≡ filter (λ e. not (eqb c.args.number e.0)) c.self.inside.list.items)
missing c =
    let n = c.args.number in
    let i = c.partition_point-at.result in
    let xs = c.self.inside.list.items in
    let is = c.deref-2.ensures.value in
    let rise = subst (λ (es : Entries). IsStrictlySortedBy nat_cmp (keys_of es)) (sym c.deref.ensures.value) c.self.invariant in
    let parts =
    sides n c.deref.result.now xs i c.deref.ensures.value c.partition_point-at.ensures.bound
    (IsPartitionPoint-from_clause (λ (e : ℕ × PlanRow). ltb e.0 n) c.deref.result.now i c.partition_point-at.ensures.partitioned (lower_numbers n c.deref.result.now rise) (λ a r f k. search rules)) in
    row_missing n xs i c.self.invariant parts.0 parts.1
    (λ d less at. elim c.in_default.branch [
      | in_default-via-in-Some+else-entry-number w ↦
          let entry = w.in-Some.ensures.lookup.1 ∙ ap (λ (es : Entries). slice_index_or es i w.in-Some.entry.now) is in
          let same = same_item xs i d w.in-Some.entry.now less at entry in
          ne_eqb n d.0 (λ q. w.if-entry-number.false (sym (q ∙ ap (λ (e : ℕ × PlanRow). e.0) same)))
      | in_default-via-in_default w ↦ absurd (true≢false (sym (lt-ltb i (length c.deref-2.result.now) (subst (λ (es : Entries). i < length es) (sym is) less)) ∙ sym c.get.ensures.lookup.0 ∙ ap is_some w.in_default.is))
    ])

pub invariant_of-self : goal.invariant_of-self
invariant_of-self c = subst (λ (es : Entries). IsStrictlySortedBy nat_cmp (keys_of es)) (sym c.remove.ensures.items) (rise_removed nat_cmp c.self.inside.list.items c.partition_point-at.result c.self.invariant)

pub returns-in-Some-clause-row : goal.returns-in-Some-clause-row
returns-in-Some-clause-row c = (taken c).0 ∙ ap (lookup (is_at (nat_cmp c.args.number))) c.self.view_is

pub returns-in-Some-clause-left : goal.returns-in-Some-clause-left
returns-in-Some-clause-left c = c.remove.ensures.items ∙ (taken c).1 ∙ ap (filter (λ e. not (eqb c.args.number e.0))) c.self.view_is

pub returns-in_default-clause-row : goal.returns-in_default-clause-row
returns-in_default-clause-row c = (missing c).0 ∙ ap (lookup (is_at (nat_cmp c.args.number))) c.self.view_is

pub returns-in_default-clause-left : goal.returns-in_default-clause-left
returns-in_default-clause-left c = sym c.self.view_is ∙ (missing c).1 ∙ ap (filter (λ e. not (eqb c.args.number e.0))) c.self.view_is
