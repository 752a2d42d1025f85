use Rattle.std.proofs.Common.{◌≡◌, true, ◌++◌, map, sym, ap, ◌∙◌, arith, rules, unwrap_or}
use Rattle.pres_client_state.specs.Queues.{count_writes}
use Rattle.pres_client.specs.Clients.{InRange}
use Rattle.pres_client_state.specs.Watches.{on_of}
use Rattle.pres_client.specs.ReceivedMessages.{is_fit}
use Rattle.pres_client.proofs.Welcomes.{count-ons, numbers-opened, in_range-opened}
use Rattle.pres_client.proofs.client.Client.receive_welcome.Goals as goal
use Rattle.std.proofs.lemmas.Grind.{common_steps}

pub open-requires-clause-first : goal.open-requires-clause-first
open-requires-clause-first c = ap count_writes c.in_ok-listens.ensures ∙ count-ons c.self.inside.watches

pub open-requires-clause-n : goal.open-requires-clause-n
open-requires-clause-n c =
    let s = c.args.self.now in
    let fit : is_fit s c.args.ops ≡ true = search rules in
    let h : InRange s.base s.made s.sent s.answered s.heard s.queue = rw (sym c.self.view_is) c.self.invariant in
    let base : c.unwrap_or-base.result ≡ unwrap_or c.self.inside.base c.args.ops = c.unwrap_or-base.ensures ∙ ap (unwrap_or c.self.inside.base) c.get.ensures.value in
    rw (c.in_ok-listens.ensures, base) (omega arith, (rw (sym c.self.view_is) at (numbers-opened s c.args.ops h fit)))

pub invariant_of-self-2 : goal.invariant_of-self-2
invariant_of-self-2 c =
    let s = c.args.self.now in
    let fit : is_fit s c.args.ops ≡ true = search rules in
    let h : InRange s.base s.made s.sent s.answered s.heard s.queue = rw (sym c.self.view_is) c.self.invariant in
    let base : c.unwrap_or-base.result ≡ unwrap_or c.self.inside.base c.args.ops = c.unwrap_or-base.ensures ∙ ap (unwrap_or c.self.inside.base) c.get.ensures.value in
    let queue : c.open.new.self.queue ≡ map on_of c.self.inside.watches ++ c.self.inside.mail.queue = c.in_ok-open.ensures.queue ∙ ap (λ l. l ++ c.self.inside.mail.queue) c.in_ok-listens.ensures in
    rw (queue, base) (rw (sym c.self.view_is) at (in_range-opened s c.args.ops h fit))

pub returns-clause-ok : goal.returns-clause-ok
returns-clause-ok c = grind (arith, common_steps)

pub overflow_add-base-2 : goal.overflow_add-base-2
overflow_add-base-2 c = grind (arith, common_steps)

pub returns-then-not-is_fit-clause-ok : goal.returns-then-not-is_fit-clause-ok
returns-then-not-is_fit-clause-ok c = grind (arith, common_steps)

pub open-requires-clause-q : goal.open-requires-clause-q
open-requires-clause-q c = grind (arith, common_steps)

pub invariant_of-self-in_err-open : goal.invariant_of-self-in_err-open
invariant_of-self-in_err-open c = grind (arith, common_steps)

pub overflow_add-base : goal.overflow_add-base
overflow_add-base c = grind (arith, common_steps)
