use Rattle.std.proofs.Common.{refl, sym, ap, subst, ◌∙◌, ◌&&◌, not, Some, None, IsSome, true≢false}
use Rattle.std.specs.Map.{lookup}
use Rattle.std.specs.BTreeMap.{is_at}
use Rattle.pres_tree.specs.Keys.{key_cmp}
use Rattle.pres_fan.specs.Levels.{entries_in, size_of}
use Rattle.pres_fan.proofs.Levels.{with_below, sessions_with, entries_with, through, heard_through, tidy_through, cut_sets, heard_cut, nil_of, size_positive}
use Rattle.pres_fan.proofs.level.Level.+remove.Goals as goal

pub returns-then-is_empty-2-clause-left : goal.returns-then-is_empty-2-clause-left
returns-then-is_empty-2-clause-left t c =
    let k = c.in-Some.key.now in
    let old = c.args.self.now in
    let child = c.in-Some-get_mut.child.now in
    let new = c.remove-2.new.self in
    let written = c.get_mut.follows.holds new in
    let was = sym (ap entries_in c.in-Some-below.is) in
    let sets = (written.3 (subst IsSome c.in-Some-get_mut.ensures.value refl)).0 in
    let gone = with_below (with_below old (Some c.remove-then-is_empty.new.self)) None in
    heard_cut (λ a b. not a && b) (λ b. refl) c.args.session.now c.args.keys.now k c.in-Some.rest.now child new old gone c.in-Some.ensures.cases.0
    (sessions_with (with_below old (Some c.remove-then-is_empty.new.self)) None ∙ sessions_with old (Some c.remove-then-is_empty.new.self))
    (ap (lookup (is_at (key_cmp k))) (sym was) ∙ sym c.in-Some-get_mut.ensures.value)
    (cut_sets k new old gone c.in-Some-below.below.entries (c.get_mut.follows.lender new).entries c.remove-then-is_empty.new.self.entries was (entries_with (with_below old (Some c.remove-then-is_empty.new.self)) None ∙ sym (nil_of c.remove-then-is_empty.new.self.entries (c.if-is_empty-2.ensures.none.0 refl))) sets c.remove-then-is_empty.ensures.updates.0)
    (c.if-is_empty.ensures.0 refl) c.remove-2.ensures.left

pub returns-else-is_empty-2-clause-left : goal.returns-else-is_empty-2-clause-left
returns-else-is_empty-2-clause-left t c =
    let k = c.in-Some.key.now in
    let old = c.args.self.now in
    let child = c.in-Some-get_mut.child.now in
    let new = c.remove-2.new.self in
    let written = c.get_mut.follows.holds new in
    let was = sym (ap entries_in c.in-Some-below.is) in
    let sets = (written.3 (subst IsSome c.in-Some-get_mut.ensures.value refl)).0 in
    let gone = with_below old (Some c.remove-then-is_empty.new.self) in
    heard_cut (λ a b. not a && b) (λ b. refl) c.args.session.now c.args.keys.now k c.in-Some.rest.now child new old gone c.in-Some.ensures.cases.0 (sessions_with old (Some c.remove-then-is_empty.new.self))
    (ap (lookup (is_at (key_cmp k))) (sym was) ∙ sym c.in-Some-get_mut.ensures.value)
    (cut_sets k new old gone c.in-Some-below.below.entries (c.get_mut.follows.lender new).entries c.remove-then-is_empty.new.self.entries was (entries_with old (Some c.remove-then-is_empty.new.self)) sets c.remove-then-is_empty.ensures.updates.0)
    (c.if-is_empty.ensures.0 refl) c.remove-2.ensures.left

pub returns-else-is_empty-clause-left : goal.returns-else-is_empty-clause-left
returns-else-is_empty-clause-left t c =
    let k = c.in-Some.key.now in
    let old = c.args.self.now in
    let child = c.in-Some-get_mut.child.now in
    let new = c.remove-2.new.self in
    let written = c.get_mut.follows.holds new in
    let was = sym (ap entries_in c.in-Some-below.is) in
    let sets = (written.3 (subst IsSome c.in-Some-get_mut.ensures.value refl)).0 in
    let change = through k child new old (with_below old (Some (c.get_mut.follows.lender new))) c.in-Some-below.below.entries (c.get_mut.follows.lender new).entries (sessions_with old (Some (c.get_mut.follows.lender new))) was (entries_with old (Some (c.get_mut.follows.lender new))) c.in-Some-get_mut.ensures.value written.2 sets in
    heard_through (λ a b. not a && b) (λ b. refl) c.args.session.now c.args.keys.now k c.in-Some.rest.now child new old (with_below old (Some (c.get_mut.follows.lender new))) c.in-Some.ensures.cases.0 change c.remove-2.ensures.left

pub returns-else-is_empty-clause-tidy : goal.returns-else-is_empty-clause-tidy
returns-else-is_empty-clause-tidy t c =
    let k = c.in-Some.key.now in
    let old = c.args.self.now in
    let child = c.in-Some-get_mut.child.now in
    let new = c.remove-2.new.self in
    let written = c.get_mut.follows.holds new in
    let was = sym (ap entries_in c.in-Some-below.is) in
    let sets = (written.3 (subst IsSome c.in-Some-get_mut.ensures.value refl)).0 in
    let change = through k child new old (with_below old (Some (c.get_mut.follows.lender new))) c.in-Some-below.below.entries (c.get_mut.follows.lender new).entries (sessions_with old (Some (c.get_mut.follows.lender new))) was (entries_with old (Some (c.get_mut.follows.lender new))) c.in-Some-get_mut.ensures.value written.2 sets in
    tidy_through k child new old (with_below old (Some (c.get_mut.follows.lender new))) change
    (λ used. size_positive (size_of new) (λ e. true≢false (sym (c.if-is_empty.ensures.1 e)))) c.remove-2.ensures.tidy
