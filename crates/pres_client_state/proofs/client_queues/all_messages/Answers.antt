use Rattle.std.proofs.Common.{ℕ, ◌∙◌, ap, sym, ◌≡◌, ◌+◌, ◌++◌, length, arith, rules}
use Rattle.pres_client_state.specs.Queues.{messages, count_writes}
use Rattle.pres_client_state.proofs.Queues.{count-append, messages-append}
use Rattle.pres_client_state.proofs.client_queues.all_messages.Goals as goal

pub add_messages-requires-2-clause-n : goal.add_messages-requires-2-clause-n
add_messages-requires-2-clause-n c =
    let e = count-append c.args.first.now.items c.args.rest.now.items in
    (c.requires.n.0, omega (arith, e, c.requires.n.1))

pub returns : goal.returns
returns c =
    let s = c.args.session.now in
    let first = c.args.first.now.items in
    let rest = c.args.rest.now.items in
    let len : c.len.result ≡ length first = search rules in
    c.in_ok-add_messages-2.ensures
    ∙ ap (λ l. l ++ messages s (1 + c.len.result) c.args.n rest) (c.in_ok-add_messages.ensures ∙ ap (λ l. l ++ messages s 1 c.args.n first) c.new-sends.ensures.items)
    ∙ ap (λ k. messages s 1 c.args.n first ++ messages s (1 + k) c.args.n rest) len
    ∙ sym (messages-append s 1 c.args.n first rest ∙ ap (λ k. messages s 1 c.args.n first ++ messages s (1 + length first) k rest) (zero c.args.n (count_writes first) c.requires.first)) where
      zero : (n k : ℕ) → k ≡ 0 → n + k ≡ n
      zero n k e = omega arith
