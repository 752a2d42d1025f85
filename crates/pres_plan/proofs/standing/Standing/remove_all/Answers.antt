use Rattle.std.proofs.Common.{sym, ◌∙◌, ap, eqb, not, filter, take, get_or}
use Rattle.std.specs.List.{list_any}
use Rattle.std.proofs.lemmas.List.{take_more}
use Rattle.pres_plan.proofs.Spots.{none_gone, one_more_gone}
use Rattle.pres_plan.proofs.standing.Standing.remove_all.Goals as goal

pub loop-number-init : goal.loop-number-init
loop-number-init c = record { tells = c.requires.tells; tops = λ rows h. h; rows = none_gone c.args.self.now.rows }

pub loop-number-preserved : goal.loop-number-preserved
loop-number-preserved c =
    let ns = c.args.numbers.now in
    let i = c.loop-number.number-index in
    let old = c.args.self.now.rows in
    record {
      tells = c.remove.ensures.tells;
      tops = λ rows h. c.remove.ensures.tops rows (c.loop-number.invariant.tops rows h);
      rows = c.remove.ensures.rows
          ∙ ap (filter (λ e. not (eqb (get_or ns i 0) e.0))) c.loop-number.invariant.rows
          ∙ one_more_gone (get_or ns i 0) (take i ns) old
          ∙ ap (λ l. filter (λ e. not (list_any (λ n. eqb n e.0) l)) old) (sym (take_more ns i 0 c.loop-number-test.true));
    }
