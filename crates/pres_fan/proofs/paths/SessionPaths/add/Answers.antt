use Rattle.std.proofs.Common.{refl, sym, ◌∙◌, ap, subst, cond, ◌≡◌, true, None}
use Rattle.std.specs.List.{list_any}
use Rattle.std.specs.BTreeMap.{is_at}
use Rattle.std.specs.Option.{IsSome}
use Rattle.std.proofs.lemmas.Result.{err_from_is_err_and}
use Rattle.pres_tree.specs.Paths.{path_cmp}
use Rattle.pres_fan.specs.Listeners.{with_listener}
use Rattle.pres_fan.specs.Sets.{AreInOrder, listeners_in}
use Rattle.pres_fan.proofs.Sets.{in_found, found, with_path, same_paths, set_in_order, put_in_order}
use Rattle.pres_fan.proofs.paths.SessionPaths.add.Goals as goal
use Rattle.std.proofs.Common.{arith}
use Rattle.std.proofs.lemmas.Grind.{common_steps}

pub invariant_of-self : goal.invariant_of-self
invariant_of-self c =
    let through = c.get_mut.follows.holds c.insert.new.self in
    set_in_order c.args.session.now c.insert.new.self c.self.inside.sets.entries _ c.self.invariant c.in_err-insert.ensures.ordered through.4 through.0

pub returns-in_err-insert-clause-unchanged : goal.returns-in_err-insert-clause-unchanged
returns-in_err-insert-clause-unchanged c =
    let through = c.get_mut.follows.holds c.insert.new.self in
    let failed = err_from_is_err_and c.from_residual.result c.from_residual.ensures.1 in
    rw failed.1
    (same_paths c.args.session.now c.insert.new.self c.self.inside.sets.entries _ c.self.invariant (invariant_of-self c) (through.3 (subst IsSome c.in-Some.ensures.value refl)).0
    (λ q. ap (list_any (is_at (path_cmp q))) c.in_err-insert.ensures.err ∙ ap (λ x. in_found x q) c.in-Some.ensures.value)
    ∙ c.self.view_is)

pub invariant_of-self-in-Some : goal.invariant_of-self-in-Some
invariant_of-self-in-Some c =
    let through = c.get_mut.follows.holds c.insert.new.self in
    set_in_order c.args.session.now c.insert.new.self c.self.inside.sets.entries _ c.self.invariant c.in_ok-insert.ensures.ordered through.4 through.0

pub returns-in-Some-clause-added : goal.returns-in-Some-clause-added
returns-in-Some-clause-added c =
    let through = c.get_mut.follows.holds c.insert.new.self in
    with_path c.args.session.now c.args.path c.insert.new.self c.self.inside.sets.entries _ c.self.invariant (invariant_of-self-in-Some c) (through.3 (subst IsSome c.in-Some.ensures.value refl)).0
    (λ q. c.in_ok-insert.ensures.updates.0 q ∙ ap (λ x. cond (is_at (path_cmp c.args.path) q) true (in_found x q)) c.in-Some.ensures.value)
    ∙ ap (with_listener c.args.session.now c.args.path) c.self.view_is

-- the map that has no set of the session
as_it_was : (c : goal.After-drop-2) → c.get_mut.follows.lender-at-none.entries ≡ c.self.inside.sets.entries
as_it_was c = λ i. (c.get_mut.follows.holds-at-none i).entries

pub invariant_of-self-2 : goal.invariant_of-self-2
invariant_of-self-2 c =
    put_in_order c.in_ok-session.session c.insert-2.new.self c.get_mut.follows.lender-at-none.entries _ (subst AreInOrder (sym (as_it_was c)) c.self.invariant)
    c.in_ok-insert-2.ensures.ordered c.in_ok-insert-3.ensures.ordered c.in_ok-insert-3.ensures.entries

pub returns-clause-added : goal.returns-clause-added
returns-clause-added c =
    let p = c.args.path in
    let none : None ≡ found c.in_ok-session.session c.get_mut.follows.lender-at-none.entries =
    c.in_default.ensures.value ∙ (λ i. found (sym c.in_ok-session.ensures i) (sym (as_it_was c) i)) in
    with_path c.in_ok-session.session p c.insert-2.new.self c.get_mut.follows.lender-at-none.entries _ (subst AreInOrder (sym (as_it_was c)) c.self.invariant) (invariant_of-self-2 c)
    c.in_ok-insert-3.ensures.updates.0
    (λ q. c.in_ok-insert-2.ensures.updates.0 q ∙ ap (cond (is_at (path_cmp p) q) true) (ap (list_any (is_at (path_cmp q))) c.new-paths.ensures.empty ∙ ap (λ x. in_found x q) none))
    ∙ (λ i. with_listener (c.in_ok-session.ensures i) p (listeners_of c i))
  where
    listeners_of : (c : goal.After-drop-2) → listeners_in c.get_mut.follows.lender-at-none.entries ≡ c.args.self.now
    listeners_of c = ap listeners_in (as_it_was c) ∙ c.self.view_is

pub returns-in_err-insert-3-clause-unchanged : goal.returns-in_err-insert-3-clause-unchanged
returns-in_err-insert-3-clause-unchanged c = grind (arith, common_steps)

pub invariant_of-self-in_err-insert-3 : goal.invariant_of-self-in_err-insert-3
invariant_of-self-in_err-insert-3 c = grind (arith, common_steps)

pub invariant_of-self-in_err-insert-2 : goal.invariant_of-self-in_err-insert-2
invariant_of-self-in_err-insert-2 c = grind (arith, common_steps)

pub returns-in_err-insert-2-clause-added : goal.returns-in_err-insert-2-clause-added
returns-in_err-insert-2-clause-added c = grind (arith, common_steps)

pub returns-in_err-insert-2-clause-unchanged : goal.returns-in_err-insert-2-clause-unchanged
returns-in_err-insert-2-clause-unchanged c = grind (arith, common_steps)

pub invariant_of-self-in_err-session : goal.invariant_of-self-in_err-session
invariant_of-self-in_err-session c = grind (arith, common_steps)
