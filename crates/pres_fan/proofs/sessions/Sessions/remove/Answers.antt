use Rattle.std.proofs.Common.{◌≡◌, ◌<◌, ◌&&◌, not, length, get_or, Equal, sym, ap, subst, ◌∙◌}
use Rattle.std.specs.List.{list_any}
use Rattle.std.specs.List.Sorted.{IsStrictlySortedBy, IsSearchInRange, IsBinarySearchResult}
use Rattle.pres_ids.specs.Ids.{same_session}
use Rattle.pres_ids.specs.declared.id.SessionId.{SessionId}
use Rattle.pres_fan.specs.Listeners.{session_cmp}
use Rattle.pres_fan.proofs.Ordered.{remove_at, left_sorted, any_left, not_found_by}
use Rattle.pres_fan.proofs.sessions.Sessions.remove.Goals as goal

pub invariant_of-self : goal.invariant_of-self
invariant_of-self c =
    let x = c.args.session.now in
    let xs = c.self.inside.list.items in
    let at = subst (λ ys. (c.in-Ok.at < length ys) × ((d : SessionId) → session_cmp (get_or ys c.in-Ok.at d) x ≡ Equal)) c.deref.ensures.value (c.in-Ok.ensures.bound, c.in-Ok.ensures.position) in
    subst (IsStrictlySortedBy session_cmp) (sym (c.remove.ensures.items ∙ remove_at x xs c.in-Ok.at c.self.invariant at.0 at.1)) (left_sorted x xs c.self.invariant)

pub returns-in-Ok : goal.returns-in-Ok
returns-in-Ok c = λ s.
    let x = c.args.session.now in
    let xs = c.self.inside.list.items in
    let at = subst (λ ys. (c.in-Ok.at < length ys) × ((d : SessionId) → session_cmp (get_or ys c.in-Ok.at d) x ≡ Equal)) c.deref.ensures.value (c.in-Ok.ensures.bound, c.in-Ok.ensures.position) in
    ap (list_any (same_session s)) (c.remove.ensures.items ∙ remove_at x xs c.in-Ok.at c.self.invariant at.0 at.1)
    ∙ any_left x s xs
    ∙ ap (λ ys. not (same_session x s) && list_any (same_session s) ys) c.self.view_is

pub returns-in_default : goal.returns-in_default
returns-in_default c = λ s.
    let x = c.args.session.now in
    let searched = subst (λ ys. IsSearchInRange c.binary_search.result (length ys) × IsBinarySearchResult (λ y. session_cmp y x) ys c.binary_search.result) (c.deref.ensures.value ∙ c.self.view_is) (c.binary_search.ensures.bound, c.binary_search.ensures.position) in
    not_found_by x s c.args.self.now c.binary_search.result c.in_default.not-Ok (subst (IsStrictlySortedBy session_cmp) c.self.view_is c.self.invariant) searched.0 searched.1
