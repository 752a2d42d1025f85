use Rattle.std.proofs.Common.{◌≡◌, ◌≤◌, ◌||◌, length, Less, Greater, sym, ap, subst, ◌∙◌}
use Rattle.std.specs.List.{list_any, insert}
use Rattle.std.specs.List.Sorted.{IsStrictlySortedBy, IsSearchInRange, IsBinarySearchResult, IsPartitionPoint}
use Rattle.std.specs.BTreeSet.{insert_key}
use Rattle.pres_ids.specs.Ids.{same_session}
use Rattle.pres_fan.specs.Listeners.{session_cmp}
use Rattle.pres_fan.proofs.Ordered.{searchable, put_at, put_sorted, any_put, added_there, found_by}
use Rattle.pres_fan.proofs.sessions.Sessions.add.Goals as goal

pub returns-in_default-clause-added : goal.returns-in_default-clause-added
returns-in_default-clause-added c = λ s.
    let x = c.args.session.now in
    let searched = subst (λ ys. IsSearchInRange c.binary_search.result (length ys) × IsBinarySearchResult (λ y. session_cmp y x) ys c.binary_search.result) (c.deref.ensures.value ∙ c.self.view_is) (c.binary_search.ensures.bound, c.binary_search.ensures.position) in
    added_there x s c.args.self.now (found_by x c.args.self.now c.binary_search.result c.in_default.not-Err searched.0 searched.1)

-- the list has the session in its place
new_is : (c : goal.In_ok-insert) → c.insert.new.self.items ≡ insert_key session_cmp c.self.inside.list.items c.args.session.now
new_is c =
    let x = c.args.session.now in
    let xs = c.self.inside.list.items in
    let at = c.in-Err.at in
    let searched = subst (λ ys. (at ≤ length ys) × IsPartitionPoint (λ y. session_cmp y x ≡ Less) (λ y. session_cmp y x ≡ Greater) ys at) c.deref.ensures.value
    (c.in-Err.ensures.bound, c.in-Err.ensures.position (searchable c.deref.result.now x (subst (IsStrictlySortedBy session_cmp) (sym c.deref.ensures.value) c.self.invariant))) in
    c.in_ok-insert.ensures.items
    ∙ (λ i. insert (c.in_ok-make_room.ensures i) at (c.in_ok-session.ensures i))
    ∙ put_at x xs at searched.0 searched.1.0 searched.1.1

pub invariant_of-self-2 : goal.invariant_of-self-2
invariant_of-self-2 c = subst (IsStrictlySortedBy session_cmp) (sym (new_is c)) (put_sorted c.args.session.now c.self.inside.list.items c.self.invariant)

pub returns-clause-added : goal.returns-clause-added
returns-clause-added c = λ s.
    ap (list_any (same_session s)) (new_is c)
    ∙ any_put c.args.session.now s c.self.inside.list.items
    ∙ ap (λ ys. same_session c.args.session.now s || list_any (same_session s) ys) c.self.view_is
