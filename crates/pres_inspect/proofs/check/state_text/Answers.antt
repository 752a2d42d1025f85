use Rattle.std.proofs.Common.{◌≡◌, ◌++◌, ap, append_assoc, codes, length, subst, ◌∙◌, ℕ, List}
use Rattle.std.specs.Prelude.{IfOk, decimal, string_bytes}
use Rattle.std.proofs.lemmas.Result.{IfOk-weaker}
use Rattle.pres_inspect.specs.Reports.{checkpoint_lines}
use Rattle.pres_inspect.proofs.check.state_text.Goals as goal

pub returns : goal.returns
returns c =
    let sum = c.args.found.now.server.sum in
    let number : c.number-number.result ≡ sum.number = c.number-number.ensures.number in
    let batches : c.batches-batches.result ≡ sum.batches = c.batches-batches.ensures ∙ ap (λ l. l.batches) c.log.ensures.counts in
    let sessions : c.in_ok-sessions.sessions ≡ length sum.sessions = c.in_ok-sessions.ensures in
    let lines : string_bytes c.in_ok-lines.lines ≡ checkpoint_lines c.args.found.now.checkpoint = c.in_ok-lines.ensures in
    IfOk-weaker c.format.result _ _ (λ text is. simp append_assoc is)
    (subst (λ (t : ℕ × (ℕ × (ℕ × List ℕ))). IfOk c.format.result (λ text. string_bytes text
    ≡ codes "number " ++ (decimal t.0 ++ (codes "\nbatches " ++ (decimal t.1.0 ++ (codes "\nopen sessions " ++ (decimal t.1.1.0 ++ (codes "\n" ++ (t.1.1.1 ++ codes "legal\n")))))))))
    (λ j. (number j, (batches j, (sessions j, lines j)))) c.format.ensures.ok)
