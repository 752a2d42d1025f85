use Rattle.std.proofs.Common.{refl, ◌≡◌, ◌≤◌, ◌∙◌, ap, subst, sym, not, is_some, Some, None, IfSome, option_map}
use Rattle.std.specs.Prelude.{IsSome}
use Rattle.std.specs.BTreeMap.{is_at}
use Rattle.pres_fan.specs.Listeners.{session_cmp}
use Rattle.pres_ring.specs.Lines.{SessionLine, is_slow, first_slow, struck, unmarked, ChangesAt}
use Rattle.pres_ring.specs.InternalFeeds.{line_of, lines_of}
use Rattle.pres_ring.proofs.Changes.{line_at_place, stays, changes, own_after}
use Rattle.pres_ring.proofs.Firsts.{none_changed}
use Rattle.pres_ring.proofs.Marks.{changed_fewer}
use Rattle.pres_ring.proofs.lines.Lines.strike.Goals as goal

pub returns-in_default-clause-line : goal.returns-in_default-clause-line
returns-in_default-clause-line c =
    let t = c.args.session.now in
    let es = c.self.inside.by_session.entries in
    let none = line_at_place t es ∙ ap (option_map line_of) (sym c.in_default.ensures.value) in
    subst (λ m. ChangesAt t (option_map (struck c.args.why)) c.args.self.now (lines_of m.entries)) (sym c.get_mut.follows.holds-at-none)
    (subst (λ old. ChangesAt t (option_map (struck c.args.why)) old (lines_of es)) c.self.view_is
    (stays t (option_map (struck c.args.why)) (lines_of es) (none ∙ sym (ap (option_map (struck c.args.why)) none))))

pub invariant_of-self-2 : goal.invariant_of-self-2
invariant_of-self-2 c =
    let t = c.args.session.now in
    let w = c.get_mut.follows.holds c.strike.new.self in
    let updates = w.3 (subst IsSome c.in-Some.ensures.value refl) in (
      own_after t c.self.inside.by_session (c.get_mut.follows.lender c.strike.new.self) (Some c.strike.new.self) updates
          (subst (λ feed. IfSome feed (λ f. f.session ≡ t)) (sym c.strike.ensures.feed) tt) c.self.invariant.0,
      λ fast. subst (λ es. first_slow (lines_of es) ≡ None) (sym w.0)
          (none_changed (is_at (session_cmp t)) c.self.inside.by_session.entries c.strike.new.self (ap is_slow c.strike.ensures.line) (c.self.invariant.1 fast)),
    )

pub returns-clause-line : goal.returns-clause-line
returns-clause-line c =
    let t = c.args.session.now in
    let es = c.self.inside.by_session.entries in
    let w = c.get_mut.follows.holds c.strike.new.self in
    let n = c.get_mut.follows.lender c.strike.new.self in
    subst (λ old. ChangesAt t (option_map (struck c.args.why)) old (lines_of n.entries)) c.self.view_is
    (changes t c.self.inside.by_session n (Some c.strike.new.self) (option_map (struck c.args.why)) (w.3 (subst IsSome c.in-Some.ensures.value refl))
    (ap Some c.strike.ensures.line ∙ sym (ap (option_map (struck c.args.why)) (line_at_place t es ∙ ap (option_map line_of) (sym c.in-Some.ensures.value)))))

pub returns-clause-fewer : goal.returns-clause-fewer
returns-clause-fewer c =
    let es = c.self.inside.by_session.entries in
    let w = c.get_mut.follows.holds c.strike.new.self in
    let n = c.get_mut.follows.lender c.strike.new.self in
    subst (λ old. unmarked (lines_of n.entries) ≤ unmarked old) c.self.view_is
    (subst (λ new. unmarked (lines_of new) ≤ unmarked (lines_of es)) (sym w.0)
    (changed_fewer (is_at (session_cmp c.args.session.now)) es c.in-Some.place.now c.strike.new.self (sym c.in-Some.ensures.value) (λ h. ap (λ (l : SessionLine). not (is_some l.mark)) c.strike.ensures.line)))
