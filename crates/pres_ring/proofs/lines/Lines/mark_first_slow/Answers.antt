use Rattle.std.proofs.Common.{rules, ◌∙◌, ap, subst, sym, true, true≢false, IfSome}
use Rattle.std.specs.List.Sorted.{IsStrictlySortedBy}
use Rattle.std.specs.Map.{lookup, keys_of}
use Rattle.std.specs.BTreeMap.{is_at}
use Rattle.pres_fan.specs.Listeners.{session_cmp}
use Rattle.pres_ring.specs.Lines.{mark_first_slow}
use Rattle.pres_ring.specs.InternalFeeds.{lines_of, IsOwn}
use Rattle.pres_ring.proofs.Firsts.{lines_in_order, places_marked, places_own, from_retain}
use Rattle.pres_ring.proofs.lines.Lines.mark_first_slow.Goals as goal

pub returns-clause-marked : goal.returns-clause-marked
returns-clause-marked c =
    ap lines_of (from_retain _ (λ f. f.0) (λ f k v b w g t. search rules) _ _ _ c.retain.ensures.filtered)
    ∙ places_marked c.self.inside.by_session.entries ∙ ap mark_first_slow c.self.view_is

pub invariant_of-self : goal.invariant_of-self
invariant_of-self c = (
  λ s. subst (λ es. IfSome (lookup (is_at (session_cmp s)) es) (IsOwn s)) (sym (from_retain _ (λ f. f.0) (λ f k v b w g t. search rules) _ _ _ c.retain.ensures.filtered))
      (places_own true c.self.inside.by_session.entries s (c.self.invariant.0 s)),
  λ h. absurd (true≢false (sym h)),
)

pub returns-clause-ordered : goal.returns-clause-ordered
returns-clause-ordered c = subst (λ lines. IsStrictlySortedBy session_cmp (keys_of lines)) c.self.view_is (lines_in_order c.self.inside.by_session.entries c.retain.ensures.was_ordered)
