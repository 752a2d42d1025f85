use Rattle.std.proofs.Common.{◌≡◌, ◌≤◌, ◌∷◌, [], ◌∙◌, ap, subst, sym, refl, None, IfSome, option_map}
use Rattle.std.specs.BTreeMap.{is_at}
use Rattle.pres_fan.specs.Listeners.{session_cmp}
use Rattle.pres_ring.specs.Lines.{line_at, first_slow, unmarked, ChangesAt}
use Rattle.pres_ring.specs.Deliveries.{FitsTranscript}
use Rattle.pres_ring.specs.InternalFeeds.{line_of, lines_of, IsOwn}
use Rattle.pres_ring.proofs.Changes.{line_at_place, changes, own_after}
use Rattle.pres_ring.proofs.Firsts.{none_removed}
use Rattle.pres_ring.proofs.Marks.{removed_fewer}
use Rattle.pres_ring.proofs.Sends.{parted, parted_fits, put_told}
use Rattle.pres_ring.proofs.lines.Lines.part.Goals as goal
use Rattle.std.proofs.Common.{arith}
use Rattle.std.proofs.lemmas.Grind.{common_steps}

pub returns-in_default-remove-clause-sent : goal.returns-in_default-remove-clause-sent
returns-in_default-remove-clause-sent c =
    let t = c.in-Some.session.now in
    parted t c.args.message c.args.self.now (lines_of c.remove.new.self.entries) (sym c.in-Some.ensures) c.requires.gone
    (subst (λ old. ChangesAt t (λ line. None) old (lines_of c.remove.new.self.entries)) c.self.view_is
    (changes t c.self.inside.by_session c.remove.new.self None (λ line. None) c.remove.ensures.updates refl))

pub returns-in_default-remove-clause-fits : goal.returns-in_default-remove-clause-fits
returns-in_default-remove-clause-fits c =
    let t = c.in-Some.session.now in
    parted_fits t c.args.message c.args.self.now (lines_of c.remove.new.self.entries) (sym c.in-Some.ensures)
    (subst (λ old. ChangesAt t (λ line. None) old (lines_of c.remove.new.self.entries)) c.self.view_is
    (changes t c.self.inside.by_session c.remove.new.self None (λ line. None) c.remove.ensures.updates refl))

pub put-requires : goal.put-requires
put-requires c =
    let t = c.in-Some.session.now in
    let es = c.self.inside.by_session.entries in
    let at = sym (ap (line_at t) c.self.view_is) ∙ line_at_place t es ∙ ap (option_map line_of) (sym c.in-Some-remove.ensures.value) in
    record {
      told = put_told t c.args.message c.in-Some-remove.place.feed (sym c.in-Some.ensures) (subst (FitsTranscript t (c.args.message ∷ [])) at (c.requires.told t))
          (subst (λ o. IfSome o (IsOwn t)) (sym c.in-Some-remove.ensures.value) (c.self.invariant.0 t));
    }

pub invariant_of-self-2 : goal.invariant_of-self-2
invariant_of-self-2 c = (
  own_after c.in-Some.session.now c.self.inside.by_session c.remove.new.self None c.remove.ensures.updates tt c.self.invariant.0,
  λ fast. subst (λ es. first_slow (lines_of es) ≡ None) (sym c.remove.ensures.entries) (none_removed (is_at (session_cmp c.in-Some.session.now)) c.self.inside.by_session.entries (c.self.invariant.1 fast)),
)

pub returns-clause-sent : goal.returns-clause-sent
returns-clause-sent c =
    let t = c.in-Some.session.now in
    parted t c.args.message c.args.self.now (lines_of c.remove.new.self.entries) (sym c.in-Some.ensures) c.requires.gone
    (subst (λ old. ChangesAt t (λ line. None) old (lines_of c.remove.new.self.entries)) c.self.view_is
    (changes t c.self.inside.by_session c.remove.new.self None (λ line. None) c.remove.ensures.updates refl))

pub returns-clause-fits : goal.returns-clause-fits
returns-clause-fits c =
    let t = c.in-Some.session.now in
    parted_fits t c.args.message c.args.self.now (lines_of c.remove.new.self.entries) (sym c.in-Some.ensures)
    (subst (λ old. ChangesAt t (λ line. None) old (lines_of c.remove.new.self.entries)) c.self.view_is
    (changes t c.self.inside.by_session c.remove.new.self None (λ line. None) c.remove.ensures.updates refl))

pub returns-clause-fewer : goal.returns-clause-fewer
returns-clause-fewer c =
    subst (λ old. unmarked (lines_of c.remove.new.self.entries) ≤ unmarked old) c.self.view_is
    (subst (λ es. unmarked (lines_of es) ≤ unmarked (lines_of c.self.inside.by_session.entries)) (sym c.remove.ensures.entries)
    (removed_fewer (is_at (session_cmp c.in-Some.session.now)) c.self.inside.by_session.entries))

pub invariant_of-self : goal.invariant_of-self
invariant_of-self c = grind (arith, common_steps)
