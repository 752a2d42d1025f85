use Rattle.std.proofs.Common.{◌≡◌, ◌≤◌, ◌∷◌, [], ◌∙◌, ap, subst, sym, refl, Bool, true, false, true≢false, not, is_some, Some, None, IfSome, option_map}
use Rattle.std.specs.Prelude.{IsSome}
use Rattle.std.specs.BTreeMap.{BTreeMap, is_at}
use Rattle.std.proofs.lemmas.Bool.{and_parts}
use Rattle.pres_ids.specs.declared.id.SessionId.{SessionId}
use Rattle.pres_fan.specs.Listeners.{session_cmp}
use Rattle.pres_ring.specs.declared.session_feed.SessionFeed.{SessionFeed}
use Rattle.pres_ring.specs.Lines.{Lines, line_at, first_slow, unmarked, ChangesAt}
use Rattle.pres_ring.specs.Deliveries.{FitsTranscript, LineAfter, LineFits}
use Rattle.pres_ring.specs.InternalFeeds.{line_of, lines_of, IsOwn}
use Rattle.pres_ring.proofs.Changes.{line_at_place, changes, own_after}
use Rattle.pres_ring.proofs.Firsts.{none_changed}
use Rattle.pres_ring.proofs.Marks.{changed_fewer}
use Rattle.pres_ring.proofs.Sends.{unsent, unsent_fits, sent_one, sent_fits, put_told, none_at}
use Rattle.pres_ring.proofs.lines.Lines.put.Goals as goal
use Rattle.std.proofs.Common.{arith}
use Rattle.std.proofs.lemmas.Grind.{common_steps}

pub returns-in_default-get_mut-clause-sent : goal.returns-in_default-get_mut-clause-sent
returns-in_default-get_mut-clause-sent c s =
    let t = c.in-Some.session.now in
    let m = c.args.message in
    let old = c.args.self.now in
    let none = sym (ap (line_at t) c.self.view_is) ∙ line_at_place t c.self.inside.by_session.entries ∙ ap (option_map line_of) (sym c.in_default-get_mut.ensures.value) in
    subst (λ (new : Lines). LineAfter s (m ∷ []) (line_at s old) (line_at s new)) (sym (ap (λ (b : BTreeMap SessionId SessionFeed). lines_of b.entries) c.get_mut.follows.holds-at-none ∙ c.self.view_is))
    (unsent s m (Some t) old (sym c.in-Some.ensures) (none_at t old none))

pub returns-in_default-get_mut-clause-fits : goal.returns-in_default-get_mut-clause-fits
returns-in_default-get_mut-clause-fits c s =
    let t = c.in-Some.session.now in
    let m = c.args.message in
    let old = c.args.self.now in
    let none = sym (ap (line_at t) c.self.view_is) ∙ line_at_place t c.self.inside.by_session.entries ∙ ap (option_map line_of) (sym c.in_default-get_mut.ensures.value) in
    subst (λ (new : Lines). LineFits s (m ∷ []) (line_at s old) (line_at s new)) (sym (ap (λ (b : BTreeMap SessionId SessionFeed). lines_of b.entries) c.get_mut.follows.holds-at-none ∙ c.self.view_is))
    (unsent_fits s m (Some t) old (sym c.in-Some.ensures) (none_at t old none))

pub put-requires : goal.put-requires
put-requires c =
    let t = c.in-Some.session.now in
    let es = c.self.inside.by_session.entries in
    let at = sym (ap (line_at t) c.self.view_is) ∙ line_at_place t es ∙ ap (option_map line_of) (sym c.in-Some-get_mut.ensures.value) in
    record {
      told = put_told t c.args.message c.in-Some-get_mut.place.now.feed (sym c.in-Some.ensures) (subst (FitsTranscript t (c.args.message ∷ [])) at (c.requires.told t))
          (subst (λ o. IfSome o (IsOwn t)) (sym c.in-Some-get_mut.ensures.value) (c.self.invariant.0 t));
    }

untrue : (b : Bool) → not b ≡ true → b ≡ false
untrue true h = absurd (true≢false (sym h))
untrue false h = refl

pub invariant_of-self-2 : goal.invariant_of-self-2
invariant_of-self-2 c =
    let t = c.in-Some.session.now in
    let w = c.get_mut.follows.holds c.put.new.self in
    let updates = w.3 (subst IsSome c.in-Some-get_mut.ensures.value refl) in (
      own_after t c.self.inside.by_session (c.get_mut.follows.lender c.put.new.self) (Some c.put.new.self) updates
          (c.put.ensures.own t (subst (λ o. IfSome o (IsOwn t)) (sym c.in-Some-get_mut.ensures.value) (c.self.invariant.0 t))) c.self.invariant.0,
      λ fast.
          let both = and_parts c.self.inside.none_slow (not c.is_slow.result) fast in
          subst (λ es. first_slow (lines_of es) ≡ None) (sym w.0)
          (none_changed (is_at (session_cmp t)) c.self.inside.by_session.entries c.put.new.self (sym c.is_slow.ensures ∙ untrue c.is_slow.result both.1) (c.self.invariant.1 both.0)),
    )

pub returns-clause-sent : goal.returns-clause-sent
returns-clause-sent c =
    let t = c.in-Some.session.now in
    let k = c.put.new.self in
    let w = c.get_mut.follows.holds k in
    let n = c.get_mut.follows.lender k in
    let at = sym (ap (line_at t) c.self.view_is) ∙ line_at_place t c.self.inside.by_session.entries ∙ ap (option_map line_of) (sym c.in-Some-get_mut.ensures.value) in
    sent_one t c.args.message c.args.self.now (lines_of n.entries) (sym c.in-Some.ensures) (line_of c.in-Some-get_mut.place.now) (line_of k) at
    (subst (λ old. ChangesAt t (λ line. Some (line_of k)) old (lines_of n.entries)) c.self.view_is
    (changes t c.self.inside.by_session n (Some k) (λ line. Some (line_of k)) (w.3 (subst IsSome c.in-Some-get_mut.ensures.value refl)) refl))
    c.requires.stays c.put.ensures.mark c.put.ensures.puts

pub returns-clause-fits : goal.returns-clause-fits
returns-clause-fits c =
    let t = c.in-Some.session.now in
    let k = c.put.new.self in
    let w = c.get_mut.follows.holds k in
    let n = c.get_mut.follows.lender k in
    let at = sym (ap (line_at t) c.self.view_is) ∙ line_at_place t c.self.inside.by_session.entries ∙ ap (option_map line_of) (sym c.in-Some-get_mut.ensures.value) in
    sent_fits t c.args.message c.args.self.now (lines_of n.entries) (sym c.in-Some.ensures) (line_of c.in-Some-get_mut.place.now) (line_of k) at
    (subst (λ old. ChangesAt t (λ line. Some (line_of k)) old (lines_of n.entries)) c.self.view_is
    (changes t c.self.inside.by_session n (Some k) (λ line. Some (line_of k)) (w.3 (subst IsSome c.in-Some-get_mut.ensures.value refl)) refl))
    c.put.ensures.fits

pub returns-clause-fewer : goal.returns-clause-fewer
returns-clause-fewer c =
    let es = c.self.inside.by_session.entries in
    let k = c.put.new.self in
    let w = c.get_mut.follows.holds k in
    let n = c.get_mut.follows.lender k in
    subst (λ old. unmarked (lines_of n.entries) ≤ unmarked old) c.self.view_is
    (subst (λ new. unmarked (lines_of new) ≤ unmarked (lines_of es)) (sym w.0)
    (changed_fewer (is_at (session_cmp c.in-Some.session.now)) es c.in-Some-get_mut.place.now k (sym c.in-Some-get_mut.ensures.value) (λ h. ap (λ o. not (is_some o)) c.put.ensures.mark ∙ h)))

pub invariant_of-self : goal.invariant_of-self
invariant_of-self c = grind (arith, common_steps)
