use Rattle.std.proofs.Common.{◌≡◌, unwrap_or, subst, sym, ◌<◌, ◌^◌, rules}
use Rattle.sqlite.specs.Order.{column}
use Rattle.sqlite.specs.declared.types.Value.TheVariants.{Int}
use Rattle.pres_batch_rows.specs.RowContents.{whole_of}
use Rattle.pres_batch_rows.proofs.Finding.{number_facts, number_bound}
use Rattle.pres_batch_rows.proofs.last.number_in.Goals as goal

pub returns-in-Ok-Int : goal.returns-in-Ok-Int
returns-in-Ok-Int c =
    let is = (rw c.in-Ok-Int.field-0-is at c.in-Ok-Int.ensures.ok).1 in
    let value : c.unwrap_or.result ≡ unwrap_or (whole_of (Int c.in-Ok-Int.number)) 0 = search rules in
    let facts = number_facts c.in-Ok-Int.number (column c.args.row.now 0) c.unwrap_or.result is value in
    (facts.0, facts.1, subst (λ n. n < 2 ^ 63) (sym c.unwrap_or.ensures) (number_bound c.whole.result c.whole.ensures.bound))
