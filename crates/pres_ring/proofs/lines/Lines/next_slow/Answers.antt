use Rattle.std.proofs.Common.{◌≡◌, ◌<◌, ◌∙◌, ap, subst, sym, is_some, None, IfSome, option_map}
use Rattle.pres_ids.specs.declared.id.Why.TheVariants.{Slow}
use Rattle.pres_ring.specs.Lines.{Lines, marked, first_slow, unmarked, IsFirstSlow, ChangesAt}
use Rattle.pres_ring.proofs.Firsts.{none_of, slow_is_first, slow_marked, slow_fewer, none_slow, if_some, if_none}
use Rattle.pres_ring.proofs.lines.Lines.next_slow.Goals as goal
use Rattle.std.proofs.Common.{arith}
use Rattle.std.proofs.lemmas.Grind.{common_steps}

-- where the lines say that none is slow
none_known : (new now : Lines) → new ≡ now → first_slow new ≡ None → first_slow now ≡ None
none_known new now is none = ap first_slow (sym is) ∙ none

pub returns-then-self-clause-found : goal.returns-then-self-clause-found
returns-then-self-clause-found c = sym (ap is_some (none_known _ _ c.self.view_is (c.self.invariant.1 c.if-self.true)))

pub returns-then-self-clause-first : goal.returns-then-self-clause-first
returns-then-self-clause-first c =
    subst (λ o. IfSome o (λ s. IsFirstSlow s c.args.self.now)) (sym (none_known _ _ c.self.view_is (c.self.invariant.1 c.if-self.true))) tt

pub returns-then-self-clause-marked : goal.returns-then-self-clause-marked
returns-then-self-clause-marked c =
    subst (λ o. IfSome o (λ s. ChangesAt s (option_map (marked Slow)) c.args.self.now c.args.self.now)) (sym (none_known _ _ c.self.view_is (c.self.invariant.1 c.if-self.true))) tt

pub returns-then-self-clause-none_slow : goal.returns-then-self-clause-none_slow
returns-then-self-clause-none_slow c = none_slow c.args.self.now (ap is_some (none_known _ _ c.self.view_is (c.self.invariant.1 c.if-self.true)))

pub invariant_of-self : goal.invariant_of-self
invariant_of-self c = (
  c.self.invariant.0,
  λ _. ap first_slow c.self.view_is ∙ none_of (first_slow c.args.self.now) (sym c.first_slow-found.ensures.found ∙ sym c.is_some.ensures ∙ c.if-is_some.false),
)

pub returns-then-is_some-clause-first : goal.returns-then-is_some-clause-first
returns-then-is_some-clause-first c = slow_is_first c.args.self.now c.mark_first_slow.ensures.ordered

pub returns-then-is_some-clause-marked : goal.returns-then-is_some-clause-marked
returns-then-is_some-clause-marked c =
    subst (λ (new : Lines). IfSome (first_slow c.args.self.now) (λ s. ChangesAt s (option_map (marked Slow)) c.args.self.now new)) (sym c.mark_first_slow.ensures.marked)
    (slow_marked c.args.self.now c.mark_first_slow.ensures.ordered)

pub returns-then-is_some-clause-fewer : goal.returns-then-is_some-clause-fewer
returns-then-is_some-clause-fewer c =
    if_some _ _
    (subst (λ (new : Lines). unmarked new < unmarked c.args.self.now) (sym c.mark_first_slow.ensures.marked)
    (slow_fewer c.args.self.now (sym c.first_slow-found.ensures.found ∙ sym c.is_some.ensures ∙ c.if-is_some.true)))

pub returns-else-is_some-clause-none_slow : goal.returns-else-is_some-clause-none_slow
returns-else-is_some-clause-none_slow c = if_none _ _ (none_slow c.args.self.now (sym c.first_slow-found.ensures.found ∙ sym c.is_some.ensures ∙ c.if-is_some.false))

pub returns-then-is_some-clause-none_slow : goal.returns-then-is_some-clause-none_slow
returns-then-is_some-clause-none_slow c = grind (arith, common_steps)

pub returns-else-is_some-clause-first : goal.returns-else-is_some-clause-first
returns-else-is_some-clause-first c = grind (arith, common_steps)
