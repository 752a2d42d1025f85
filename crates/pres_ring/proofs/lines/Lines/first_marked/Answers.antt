use Rattle.std.proofs.Common.{rules, subst}
use Rattle.std.specs.List.Sorted.{IsStrictlySortedBy}
use Rattle.std.specs.Map.{keys_of}
use Rattle.pres_fan.specs.Listeners.{session_cmp}
use Rattle.pres_ring.proofs.Firsts.{lines_in_order, marked_is_first, none_marked}
use Rattle.pres_ring.proofs.lines.Lines.first_marked.Goals as goal
use Rattle.std.proofs.Common.{arith}
use Rattle.std.proofs.lemmas.Grind.{common_steps}

pub returns-in-Some-mark-clause-first : goal.returns-in-Some-mark-clause-first
returns-in-Some-mark-clause-first c =
    marked_is_first c.args.self.now
    (subst (λ lines. IsStrictlySortedBy session_cmp (keys_of lines)) c.self.view_is (lines_in_order c.self.inside.by_session.entries c.iter-session-items.ensures.ordered))

pub returns-clause-none : goal.returns-clause-none
returns-clause-none c = none_marked c.args.self.now (search rules)

pub returns-in-Some-mark-clause-ordered : goal.returns-in-Some-mark-clause-ordered
returns-in-Some-mark-clause-ordered c =
    subst (λ lines. IsStrictlySortedBy session_cmp (keys_of lines)) c.self.view_is (lines_in_order c.self.inside.by_session.entries c.iter-session-items.ensures.ordered)

pub returns-clause-ordered : goal.returns-clause-ordered
returns-clause-ordered c =
    subst (λ lines. IsStrictlySortedBy session_cmp (keys_of lines)) c.self.view_is (lines_in_order c.self.inside.by_session.entries c.iter-session-items.ensures.ordered)

pub returns-in-Some-mark-clause-session : goal.returns-in-Some-mark-clause-session
returns-in-Some-mark-clause-session c = grind (arith, common_steps)
