use Rattle.std.proofs.Common.{rules, ◌≡◌, ◌||◌, List, sym, ap, subst, ◌∙◌}
use Rattle.std.specs.List.Sorted.{IsStrictlySortedBy}
use Rattle.pres_tree.specs.Paths.{Path}
use Rattle.pres_ids.specs.declared.id.SessionId.{SessionId}
use Rattle.pres_fan.specs.declared.listeners.Listener.{Listener}
use Rattle.pres_fan.specs.Levels.{heard, AreHeard}
use Rattle.pres_fan.specs.Listeners.{listener_cmp, listener_of, same_listener, with_listener, without}
use Rattle.pres_fan.proofs.Orders.{listener_total, listener_same}
use Rattle.pres_fan.proofs.Lists.{put_again}
use Rattle.pres_fan.proofs.Places.{with_listeners}
use Rattle.pres_fan.proofs.Members.{taken_back}
use Rattle.pres_fan.proofs.Sets.{put_ordered}
use Rattle.pres_fan.proofs.Held.{AreHeld, heard_with, heard_same}
use Rattle.pres_fan.proofs.listeners.Listeners.on.Goals as goal

pub returns-then-has-clause-ok : goal.returns-then-has-clause-ok
returns-then-has-clause-ok c =
    let k = listener_of c.args.session.now c.args.path in
    subst (λ ls. ls ≡ with_listener c.args.session.now c.args.path ls) c.self.view_is
    (sym (put_again listener_cmp k same_listener listener_total (listener_same k) c.self.inside.paths c.self.invariant.0.ordered (sym c.has.ensures ∙ c.if-has.true)))

pub invariant_of-self-in-Err : goal.invariant_of-self-in-Err
invariant_of-self-in-Err c =
    let t = c.args.session.now in
    let ls = c.self.inside.paths in
    let new = c.add-2.new.self in
    let as_before : without t c.args.path c.add.new.self ≡ ls =
    ap (without t c.args.path) (c.in_ok-add.ensures.added ∙ ap (λ q. with_listener t q ls) c.in_ok-copy.ensures) ∙ taken_back (listener_of t c.args.path) ls (sym c.has.ensures ∙ c.if-has.false) in
    subst (λ (ms : List Listener). AreHeld ms new) (sym (c.remove.ensures.left ∙ as_before))
    (c.self.invariant.0, heard_same ls c.self.inside.root new c.self.invariant.1 c.in-Err.ensures.unchanged c.add-2.ensures.tidy)

pub returns-in-Err-clause-unchanged : goal.returns-in-Err-clause-unchanged
returns-in-Err-clause-unchanged c =
    let t = c.args.session.now in
    let ls = c.self.inside.paths in
    let as_before : without t c.args.path c.add.new.self ≡ ls =
    ap (without t c.args.path) (c.in_ok-add.ensures.added ∙ ap (λ q. with_listener t q ls) c.in_ok-copy.ensures) ∙ taken_back (listener_of t c.args.path) ls (sym c.has.ensures ∙ c.if-has.false) in
    c.remove.ensures.left ∙ as_before ∙ c.self.view_is

pub invariant_of-self-in_default : goal.invariant_of-self-in_default
invariant_of-self-in_default c =
    let t = c.args.session.now in
    let q = c.args.path in
    let ls = c.self.inside.paths in
    let old = c.self.inside.root in
    let new = c.add-2.new.self in
    let is : c.add.new.self ≡ with_listener t q ls = c.in_ok-add.ensures.added ∙ ap (λ p. with_listener t p ls) c.in_ok-copy.ensures in
    let added = subst (λ ks. (p : Path) (s : SessionId) → heard p s new ≡ (same_listener (listener_of t ks) (listener_of s p) || heard p s old)) c.keys.ensures.keys c.in_default.ensures.added in (
      with_listeners t q ls c.add.new.self c.self.invariant.0 (search rules) is (subst (IsStrictlySortedBy listener_cmp) (sym is) (put_ordered (listener_of t q) ls c.self.invariant.0.ordered)),
      subst (λ (ms : List Listener). AreHeard ms new) (sym is) (heard_with t q ls old new c.self.invariant.1 added c.add-2.ensures.tidy),
    )
