use Rattle.std.proofs.Common.{refl, sym, ◌∙◌, ap, subst, cond, false, Option, Some, None, ◌≡◌, Equal, is_some, IfSome}
use Rattle.std.specs.List.{list_any}
use Rattle.std.specs.BTreeMap.{is_at}
use Rattle.std.specs.Option.{IsSome}
use Rattle.pres_tree.specs.Paths.{Path, path_cmp}
use Rattle.pres_tree.specs.Falls.{path_same as path_apart}
use Rattle.pres_fan.specs.Listeners.{listener_of, same_listener, without}
use Rattle.pres_fan.specs.Sets.{AreInOrder, listeners_in}
use Rattle.pres_fan.proofs.Sets.{in_found, member, without_path, no_path, set_in_order}
use Rattle.pres_fan.proofs.paths.SessionPaths.remove.Goals.{in-Some, in-None}
use Rattle.pres_fan.proofs.paths.SessionPaths.remove.Goals as goal

-- what compares equal to the path is the path
tied : (p : Path) (taken : Option Path) → IfSome taken (λ q. path_cmp p q ≡ Equal) → IfSome taken (λ q. q ≡ p)
tied p None h = tt
tied p (Some q) h = sym (path_apart p q h)

pub invariant_of-self : goal.invariant_of-self
invariant_of-self c = elim c.match-get_mut.branch [
  | in-Some w ↦
      let through = c.get_mut.follows.holds w.take.new.self in
      subst AreInOrder (sym (λ i. (w.self-inside-is i).sets.entries))
      (set_in_order c.args.session.now w.take.new.self c.self.inside.sets.entries _ c.self.invariant w.take.ensures.ordered through.4 through.0)
  | in-None w ↦ subst AreInOrder (sym ((λ i. (w.self-inside-is i).sets.entries) ∙ (λ i. (c.get_mut.follows.holds-at-none i).entries))) c.self.invariant
]

pub returns-clause-left : goal.returns-clause-left
returns-clause-left c = elim c.match-get_mut.branch [
  | in-Some w ↦
      let through = c.get_mut.follows.holds w.take.new.self in
      (λ i. listeners_in ((w.self-inside-is i).sets.entries))
      ∙ without_path c.args.session.now c.args.path.now w.take.new.self c.self.inside.sets.entries _ c.self.invariant
      (set_in_order c.args.session.now w.take.new.self c.self.inside.sets.entries _ c.self.invariant w.take.ensures.ordered through.4 through.0)
      (through.3 (subst IsSome w.in-Some.ensures.value refl)).0
      (λ q. w.take.ensures.updates.0 q ∙ ap (λ x. cond (is_at (path_cmp c.args.path.now) q) false (in_found x q)) w.in-Some.ensures.value)
      ∙ ap (without c.args.session.now c.args.path.now) c.self.view_is
  | in-None w ↦
      (λ i. listeners_in ((w.self-inside-is i).sets.entries))
      ∙ (λ i. listeners_in ((c.get_mut.follows.holds-at-none i).entries))
      ∙ no_path c.args.session.now c.args.path.now c.self.inside.sets.entries c.self.invariant (sym w.in-None.ensures.value)
      ∙ ap (without c.args.session.now c.args.path.now) c.self.view_is
]

pub returns-clause-path : goal.returns-clause-path
returns-clause-path c = elim c.match-get_mut.branch [
  | in-Some w ↦ subst (λ (r : Option Path). IfSome r (λ q. q ≡ c.args.path.now)) (sym w.result-is) (tied c.args.path.now w.take.result w.take.ensures.same_key)
  | in-None w ↦ subst (λ (r : Option Path). IfSome r (λ q. q ≡ c.args.path.now)) (sym w.result-is) tt
]

pub returns-clause-listened : goal.returns-clause-listened
returns-clause-listened c =
    let k = listener_of c.args.session.now c.args.path.now in
    elim c.match-get_mut.branch [
      | in-Some w ↦
          ap is_some w.result-is
          ∙ w.take.ensures.variant
          ∙ ap (λ x. in_found x c.args.path.now) w.in-Some.ensures.value
          ∙ sym (member k c.self.inside.sets.entries c.self.invariant.0)
          ∙ ap (list_any (same_listener k)) c.self.view_is
      | in-None w ↦
          ap is_some w.result-is
          ∙ ap (λ x. in_found x c.args.path.now) w.in-None.ensures.value
          ∙ sym (member k c.self.inside.sets.entries c.self.invariant.0)
          ∙ ap (list_any (same_listener k)) c.self.view_is
    ]
