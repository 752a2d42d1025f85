use Rattle.std.proofs.Common.{◌∙◌, ap, sym, subst, not, refl, Bool, true, false, ◌≡◌}
use Rattle.std.specs.List.{AllByRecursion}
use Rattle.pres_ids.specs.Ids.{same_session}
use Rattle.pres_hub.specs.CoreCalls.{IsTaken}
use Rattle.pres_hub.specs.CoreGroups.{RequestState}
use Rattle.pres_hub.specs.InternalGroups.{WaitingState}
use Rattle.pres_hub.proofs.Booked.{none_any}
use Rattle.pres_hub.proofs.center.Core.fits.Goals as goal

is_false : (b : Bool) → not b ≡ true → b ≡ false
is_false true h = absurd (cc h)
is_false false h = refl

pub returns-clause-taken : goal.returns-clause-taken
returns-clause-taken g c = λ h.
    subst (λ (x : RequestState). AllByRecursion (λ m. IsTaken x.seat m c.args.self.now.run.server c.args.self.now.run.number) x.messages) c.request.view_is (c.takes.ensures c.if-not-takes.false)

pub returns-clause-apart : goal.returns-clause-apart
returns-clause-apart g c = λ h.
    subst (λ s. AllByRecursion (λ (w : WaitingState). same_session s w.seat.session ≡ false) c.args.waiting.now) (c.session.ensures ∙ ap (λ x. x.seat.session) c.request.view_is)
    (none_any (λ (w : WaitingState). same_session c.session.result.now w.seat.session) c.args.waiting.now (sym c.is_seated.ensures ∙ is_false c.is_seated.result h))
