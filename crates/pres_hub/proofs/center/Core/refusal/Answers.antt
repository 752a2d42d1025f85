use Rattle.std.proofs.Common.{rules, ◌≡◌, ◌≢◌, ◌≤◌, ◌+◌, ◌∙◌, ap, subst, Some, IfSome}
use Rattle.std.specs.Prelude.{IsSomeAnd}
use Rattle.pres_wire.specs.Messages.{session_in}
use Rattle.pres_server.specs.Sums.{accepted_in}
use Rattle.pres_faults.specs.declared.hub_fault.HubFault.TheVariants.{Apart}
use Rattle.pres_hub.specs.CoreCalls.{IsOwnMessage, IsHeldBack, HasSameCount}
use Rattle.pres_hub.proofs.center.Core.refusal.Goals as goal

pub returns-then-is_apart-clause-refused : goal.returns-then-is_apart-clause-refused
returns-then-is_apart-clause-refused g c =
    let sum = c.in-Some.server.now.sum in
    let session = c.session-3.ensures in
    let runs : Some c.in-Some.server.now ≡ c.args.self.now.run.server = c.in-Some.ensures ∙ ap (λ x. x.run.server) c.self.view_is in
    let own : IsOwnMessage c.args.seat.now c.args.up.now = search rules in
    let fresh : c.args.seat.now.seen ≤ c.args.self.now.run.number = search rules in
    subst (λ o. IsHeldBack c.args.seat.now c.args.up.now o c.args.self.now.run.number (Apart (c.get.result + 1))) runs (
      own,
      fresh,
      ap (λ n. n + 1) (c.get.ensures.value ∙ c.q-mine.ensures),
      subst (λ n. IsSomeAnd (accepted_in (session_in c.args.up.now) sum) (λ count. count ≢ n)) c.q-mine.ensures (subst (λ t. IsSomeAnd (accepted_in t sum) (λ count. count ≢ c.q-mine.result)) session (c.is_apart.ensures.apart c.if-is_apart.true)),
    )

pub returns-clause-abreast : goal.returns-clause-abreast
returns-clause-abreast g c =
    let sum = c.in-Some.server.now.sum in
    let session = c.session-3.ensures in
    let runs : Some c.in-Some.server.now ≡ c.args.self.now.run.server = c.in-Some.ensures ∙ ap (λ x. x.run.server) c.self.view_is in
    subst (HasSameCount c.args.up.now c.args.seat.now.q) runs
    (subst (λ n. IfSome (accepted_in (session_in c.args.up.now) sum) (λ count. count ≡ n)) c.q-mine.ensures (subst (λ t. IfSome (accepted_in t sum) (λ count. count ≡ c.q-mine.result)) session (c.is_apart.ensures.abreast c.if-is_apart.false)))
