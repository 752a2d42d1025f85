use Rattle.std.proofs.Common.{◌≡◌, ◌+◌, ◌++◌, ◌∷◌, suc, drop, drop-cons, sym, ap, ◌∙◌, arith}
use Rattle.pres_inspect.specs.Reports.{lines_text}
use Rattle.pres_inspect.proofs.Printing.{line_more, no_line}
use Rattle.pres_inspect.proofs.history.batch_lines.Goals as goal
use Rattle.pres_inspect.proofs.history.batch_lines.Goals.{then-number-from+in_ok-add_line, else-number-from}

pub loop-entry-preserved : goal.loop-entry-preserved
loop-entry-preserved c =
    let l = c.loop-entry in
    let i = l.entry-index in
    let entries = c.entries-entries.result.now in
    let more : suc i ≡ i + 1 = omega arith in
    let step : drop i entries ≡ c.entry-item.result ∷ drop (i + 1) entries = drop-cons entries i c.entry-item.result c.loop-entry-test.true ∙ (λ k. sym c.entry-item.is k ∷ drop (more k) entries) in
    let from = c.args.from in
    let moment = c.millis-moment.result in
    let was = ap (λ es. l.lines.items ++ lines_text from l.number moment es) (sym step) ∙ l.invariant.lines in
    record {
      lines = elim c.if-number-from.branch [
        | then-number-from+in_ok-add_line w ↦
            line_more from l.number moment c.entry-item.result (drop (i + 1) entries) l.lines.items c.if-number-from.lines.items w.if-number-from.true
            (ap (λ v. v.items) w.lines-is ∙ w.in_ok-add_line.ensures) ∙ was
        | else-number-from w ↦
            ap (λ v. v.items ++ lines_text from (l.number + 1) moment (drop (i + 1) entries)) w.lines-is
            ∙ no_line from l.number moment c.entry-item.result (drop (i + 1) entries) l.lines.items w.if-number-from.false ∙ was
      ];
      number = omega (arith, l.invariant.number);
    }
