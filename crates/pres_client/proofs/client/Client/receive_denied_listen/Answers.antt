use Rattle.std.proofs.Common.{◌≡◌, true, false, drop, Some, sym, ap, ◌∙◌, rules}
use Rattle.std.specs.List.{list_any}
use Rattle.pres_client_state.specs.Watches.{without_watch}
use Rattle.pres_client_state.specs.Queues.{is_on}
use Rattle.pres_client.specs.Clients.{ClientState}
use Rattle.pres_client.specs.ReceivedMessages.{bring, fits, answered, first_listen}
use Rattle.pres_client.proofs.Denials.{denied_again, denied_last}
use Rattle.pres_client.proofs.client.Client.receive_denied_listen.Goals as goal
use Rattle.std.proofs.Common.{arith}
use Rattle.std.proofs.lemmas.Grind.{common_steps}

pub returns-then-is_later-clause-ok : goal.returns-then-is_later-clause-ok
returns-then-is_later-clause-ok c =
    let s = c.args.self.now in
    let p = c.in_ok-path.path in
    let first : first_listen s.queue ≡ Some (c.in-Some.request, p) = c.in-Some.ensures ∙ ap (λ x. Some (c.in-Some.request, x)) (sym c.in_ok-path.ensures) in
    let fit : fits s c.args.q ≡ true = search rules in
    let later : list_any (is_on p) (drop 1 s.queue) ≡ true = search rules in
    c.settle.ensures
    ∙ ap (λ (n : ClientState). answered (bring n c.args.z) (drop 1 n.queue)) c.in_ok-note.ensures.ok
    ∙ denied_again s c.args.z c.args.q c.in-Some.request p first fit later

pub returns-clause-ok : goal.returns-clause-ok
returns-clause-ok c =
    let s = c.args.self.now in
    let p = c.in_ok-path.path in
    let first : first_listen s.queue ≡ Some (c.in-Some.request, p) = c.in-Some.ensures ∙ ap (λ x. Some (c.in-Some.request, x)) (sym c.in_ok-path.ensures) in
    let fit : fits s c.args.q ≡ true = search rules in
    let later : list_any (is_on p) (drop 1 s.queue) ≡ false = search rules in
    rw (c.remove.ensures)
    (ap (λ (n : ClientState). record n { watches = without_watch p n.watches }) (c.self-2.view_is ∙ c.settle.ensures ∙ ap (λ (n : ClientState). answered (bring n c.args.z) (drop 1 n.queue)) c.in_ok-note.ensures.ok)
    ∙ denied_last s c.args.z c.args.q c.in-Some.request p first fit later)

pub returns-then-not-fits-clause-ok : goal.returns-then-not-fits-clause-ok
returns-then-not-fits-clause-ok c = grind (arith, common_steps)

pub settle-requires-clause-taken : goal.settle-requires-clause-taken
settle-requires-clause-taken c = grind (arith, common_steps)
