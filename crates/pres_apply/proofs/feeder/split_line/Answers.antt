use Rattle.std.proofs.Common.{◌+◌, ◌-◌, ◌∷◌, ◌++◌, arith, sym, ap, subst, length, take, drop, length-drop, take_all, ◌∙◌}
use Rattle.pres_apply.specs.Lines.{IsFeedless}
use Rattle.pres_apply.proofs.Split.{feedless_before, cut_at_feed}
use Rattle.pres_apply.proofs.feeder.split_line.Goals as goal

pub returns-in_err-end : goal.returns-in_err-end
returns-in_err-end c =
    let all = c.args.bytes.now in
    let none = feedless_before all (length all) (λ j m l. c.in_err-end.ensures j (omega arith) l) in
    rw c.from_residual.ensures (subst IsFeedless (take_all (length all) all (omega arith)) none)

pub returns : goal.returns
returns c =
    let all = c.args.bytes.now in
    let end = c.in_ok-end.end in
    let found = c.in_ok-end.ensures in
    let rest = drop (end + 1) all in (
      feedless_before all end (λ j m l. found.0.before j (omega arith) m),
      cut_at_feed all end found.0.high found.1 ∙ ap (λ t. take end all ++ 10 ∷ t) (sym (take_all (length all - (end + 1)) rest (omega (arith, length-drop (end + 1) all)))),
    )
