use Rattle.std.proofs.Common.{◌≡◌, ◌∙◌, ap, subst, sym, not, false, true≢false, is_some, Some, IfSome}
use Rattle.pres_ring.specs.Lines.{line_at, has_line, kept_or_blank, ChangesAt}
use Rattle.pres_ring.specs.InternalFeeds.{line_of, lines_of}
use Rattle.pres_ring.proofs.Changes.{some_line, stays, kept_line, new_line, changes, own_after}
use Rattle.pres_ring.proofs.lines.Lines.reserve.Goals as goal
use Rattle.std.proofs.Common.{arith}
use Rattle.std.proofs.lemmas.Grind.{common_steps}

pub returns-then-contains_key-clause-new : goal.returns-then-contains_key-clause-new
returns-then-contains_key-clause-new c =
    let t = c.args.session.now in
    ap not (sym c.if-contains_key.true ∙ c.contains_key.ensures ∙ some_line t c.self.inside.by_session.entries ∙ ap (has_line t) c.self.view_is)

pub returns-then-contains_key-clause-line : goal.returns-then-contains_key-clause-line
returns-then-contains_key-clause-line c =
    let t = c.args.session.now in
    stays t kept_or_blank c.args.self.now
    (kept_line (line_at t c.args.self.now) (sym (sym c.if-contains_key.true ∙ c.contains_key.ensures ∙ some_line t c.self.inside.by_session.entries ∙ ap (has_line t) c.self.view_is)))

pub invariant_of-self-2 : goal.invariant_of-self-2
invariant_of-self-2 c = (
  own_after c.in_ok-session.session c.self.inside.by_session c.insert.new.self (Some c.new.result) c.in_ok-insert.ensures.updates
      (subst (λ feed. IfSome feed (λ f. f.session ≡ c.in_ok-session.session)) (sym c.new.ensures.feed) tt) c.self.invariant.0,
  λ h. absurd (true≢false (sym h)),
)

pub returns-clause-new : goal.returns-clause-new
returns-clause-new c =
    let t = c.args.session.now in
    ap not (sym c.if-contains_key.false ∙ c.contains_key.ensures ∙ some_line t c.self.inside.by_session.entries ∙ ap (has_line t) c.self.view_is)

pub returns-clause-line : goal.returns-clause-line
returns-clause-line c =
    let t = c.args.session.now in
    let es = c.self.inside.by_session.entries in
    let n = c.insert.new.self in
    let k = c.in_ok-session.session in
    let none = sym (sym c.if-contains_key.false ∙ c.contains_key.ensures ∙ some_line t es) in
    subst (λ old. ChangesAt t kept_or_blank old (lines_of n.entries)) c.self.view_is
    (subst (λ u. ChangesAt u kept_or_blank (lines_of es) (lines_of n.entries)) c.in_ok-session.ensures
    (changes k c.self.inside.by_session n (Some c.new.result) kept_or_blank c.in_ok-insert.ensures.updates
    (new_line (line_at k (lines_of es)) (line_of c.new.result) (subst (λ u. is_some (line_at u (lines_of es)) ≡ false) (sym c.in_ok-session.ensures) none) c.new.ensures.line)))

pub invariant_of-self : goal.invariant_of-self
invariant_of-self c = grind (arith, common_steps)
