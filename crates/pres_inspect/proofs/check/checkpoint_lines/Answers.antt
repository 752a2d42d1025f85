use Rattle.std.proofs.Common.{◌≡◌, ◌++◌, append_assoc, codes, subst, sym, ℕ}
use Rattle.std.specs.Prelude.{IfOk, decimal, string_bytes}
use Rattle.std.proofs.lemmas.Result.{IfOk-weaker}
use Rattle.pres_inspect.specs.Reports.{checkpoint_lines}
use Rattle.pres_inspect.proofs.check.checkpoint_lines.Goals as goal

pub returns : goal.returns
returns c =
    let it = c.in-Some.checkpoint in
    let number : c.get-number.result ≡ it.number = c.get-number.ensures.value in
    let batches : c.get-batches.result ≡ it.batches = c.get-batches.ensures.value in
    let moment : c.millis-moment.result ≡ it.moment = c.millis-moment.ensures.millis in
    subst (λ o. IfOk c.format.result (λ lines. string_bytes lines ≡ checkpoint_lines o)) (sym c.in-Some.is)
    (IfOk-weaker c.format.result _ _ (λ lines is. simp append_assoc is)
    (subst (λ (t : ℕ × (ℕ × ℕ)). IfOk c.format.result (λ lines. string_bytes lines
    ≡ codes "checkpoint number " ++ (decimal t.0 ++ (codes "\ncheckpoint batches " ++ (decimal t.1.0 ++ (codes "\ncheckpoint moment " ++ (decimal t.1.1 ++ codes "\n")))))))
    (λ j. (number j, (batches j, moment j))) c.format.ensures.ok))
