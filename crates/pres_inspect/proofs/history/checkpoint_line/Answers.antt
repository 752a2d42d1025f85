use Rattle.std.proofs.Common.{◌≡◌, ◌≤◌, ◌<◌, ◌++◌, codes, subst, sym, ◌∙◌, ℕ}
use Rattle.std.specs.Prelude.{IfOk, decimal, string_bytes}
use Rattle.std.proofs.lemmas.Result.{IfOk-weaker}
use Rattle.pres_inspect.specs.declared.checkpoint.Checkpoint.{Checkpoint}
use Rattle.pres_inspect.specs.Reports.{checkpoint_line}
use Rattle.pres_inspect.proofs.Printing.{checkpoint_hidden, checkpoint_shown, line_of_checkpoint}
use Rattle.pres_inspect.proofs.history.checkpoint_line.Goals as goal

pub returns-then-number-from : goal.returns-then-number-from
returns-then-number-from c =
    let it : Checkpoint = c.in-Some.checkpoint in
    let early : it.number < c.args.from = subst (λ n. n < c.args.from) c.get-number.ensures.value c.if-number-from.true in
    c.new-then-number-from.ensures.bytes ∙ checkpoint_hidden c.args.from it early ∙ (λ i. checkpoint_line c.args.from (sym c.in-Some.is i))

pub returns : goal.returns
returns c =
    let it : Checkpoint = c.in-Some.checkpoint in
    let low : c.args.from ≤ it.number = subst (λ n. c.args.from ≤ n) c.get-number.ensures.value c.if-number-from.false in
    let number : c.get-number.result ≡ it.number = c.get-number.ensures.value in
    let batches : c.get-batches.result ≡ it.batches = c.get-batches.ensures.value in
    let moment : c.millis-moment.result ≡ it.moment = c.millis-moment.ensures.millis in
    IfOk-weaker c.format.result _ _ (λ line is. is ∙ line_of_checkpoint it ∙ checkpoint_shown c.args.from it low ∙ (λ i. checkpoint_line c.args.from (sym c.in-Some.is i)))
    (subst (λ (t : ℕ × (ℕ × ℕ)). IfOk c.format.result (λ line. string_bytes line
    ≡ codes "{\"checkpoint\":{\"batches\":" ++ (decimal t.0 ++ (codes "},\"moment\":" ++ (decimal t.1.0 ++ (codes ",\"number\":" ++ (decimal t.1.1 ++ codes "}\n")))))))
    (λ j. (batches j, (moment j, number j))) c.format.ensures.ok)
