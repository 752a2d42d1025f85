use Rattle.std.proofs.Common.{◌≡◌, subst, sym, ◌≤◌, refl, None}
use Rattle.std.specs.BTreeMap.{is_at}
use Rattle.pres_fan.specs.Listeners.{session_cmp}
use Rattle.pres_ring.specs.Lines.{first_slow, unmarked, ChangesAt}
use Rattle.pres_ring.specs.InternalFeeds.{lines_of}
use Rattle.pres_ring.proofs.Changes.{changes, own_after}
use Rattle.pres_ring.proofs.Firsts.{none_removed}
use Rattle.pres_ring.proofs.Marks.{removed_fewer}
use Rattle.pres_ring.proofs.lines.Lines.remove.Goals as goal

pub invariant_of-self : goal.invariant_of-self
invariant_of-self c = (
  own_after c.args.session.now c.self.inside.by_session c.remove.new.self None c.remove.ensures.updates tt c.self.invariant.0,
  λ fast. subst (λ es. first_slow (lines_of es) ≡ None) (sym c.remove.ensures.entries) (none_removed (is_at (session_cmp c.args.session.now)) c.self.inside.by_session.entries (c.self.invariant.1 fast)),
)

pub returns-clause-line : goal.returns-clause-line
returns-clause-line c =
    subst (λ old. ChangesAt c.args.session.now (λ line. None) old (lines_of c.remove.new.self.entries)) c.self.view_is
    (changes c.args.session.now c.self.inside.by_session c.remove.new.self None (λ line. None) c.remove.ensures.updates refl)

pub returns-clause-fewer : goal.returns-clause-fewer
returns-clause-fewer c =
    subst (λ old. unmarked (lines_of c.remove.new.self.entries) ≤ unmarked old) c.self.view_is
    (subst (λ es. unmarked (lines_of es) ≤ unmarked (lines_of c.self.inside.by_session.entries)) (sym c.remove.ensures.entries)
    (removed_fewer (is_at (session_cmp c.args.session.now)) c.self.inside.by_session.entries))
