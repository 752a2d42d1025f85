use Rattle.std.proofs.Common.{refl, ◌≡◌, ◌∙◌, ap, subst, sym, true≢false, is_some, Some, IfSome}
use Rattle.std.specs.Prelude.{IsSome}
use Rattle.pres_ring.specs.Lines.{has_line, fed, ChangesAt}
use Rattle.pres_ring.specs.InternalFeeds.{lines_of}
use Rattle.pres_ring.proofs.Changes.{some_line, changes, own_after}
use Rattle.pres_ring.proofs.lines.Lines.attach.Goals as goal

pub unreachable-requires : goal.unreachable-requires
unreachable-requires c =
    let t = c.session.result.now in
    let es = c.self.inside.by_session.entries in
    absurd (true≢false (sym c.requires ∙ ap (λ u. has_line u c.args.self.now) (sym c.session.ensures) ∙ sym (ap (has_line t) c.self.view_is) ∙ sym (some_line t es) ∙ sym (ap is_some c.in_default.ensures.value)))

pub invariant_of-self : goal.invariant_of-self
invariant_of-self c =
    let t = c.session.result.now in
    let w = c.get_mut.follows.holds c.attach.new.self in (
      own_after t c.self.inside.by_session (c.get_mut.follows.lender c.attach.new.self) (Some c.attach.new.self) (w.3 (subst IsSome c.in-Some.ensures.value refl))
          (subst (λ feed. IfSome feed (λ f. f.session ≡ t)) (sym c.attach.ensures.feed) (sym c.session.ensures)) c.self.invariant.0,
      λ h. absurd (true≢false (sym h)),
    )

pub returns : goal.returns
returns c =
    let t = c.session.result.now in
    let w = c.get_mut.follows.holds c.attach.new.self in
    let n = c.get_mut.follows.lender c.attach.new.self in
    subst (λ old. ChangesAt c.args.feed.session (λ line. Some (fed c.args.feed)) old (lines_of n.entries)) c.self.view_is
    (subst (λ u. ChangesAt u (λ line. Some (fed c.args.feed)) (lines_of c.self.inside.by_session.entries) (lines_of n.entries)) c.session.ensures
    (changes t c.self.inside.by_session n (Some c.attach.new.self) (λ line. Some (fed c.args.feed)) (w.3 (subst IsSome c.in-Some.ensures.value refl)) (ap Some c.attach.ensures.line)))
