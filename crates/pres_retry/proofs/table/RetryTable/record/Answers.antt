-- one more row is the client's own alone, and keeps the numbers in turn
use Rattle.std.proofs.Common.{◌+◌, length, sym, ◌∙◌, ap, subst}
use Rattle.pres_retry.specs.Tables.{AreNumbered, row, rows_of, with_row}
use Rattle.pres_retry.proofs.Records.{own_rows, other_rows, numbered_further}
use Rattle.pres_retry.proofs.table.RetryTable.record.Goals as goal

pub invariant_of-self-2 : goal.invariant_of-self-2
invariant_of-self-2 c =
    let own = row c.args.done c.args.kept in
    let table = c.self.inside.clients.entries in
    subst AreNumbered (sym c.in_ok-push.ensures.pushed)
    (numbered_further c.args.client c.args.n own table c.get.ensures.number (c.requires ∙ ap (λ t. length (rows_of c.args.client t) + 1) (sym c.self.view_is)) c.self.invariant)

pub returns-clause-own : goal.returns-clause-own
returns-clause-own c =
    let own = row c.args.done c.args.kept in
    ap (rows_of c.args.client) (c.in_ok-push.ensures.pushed ∙ ap (with_row c.args.client own) c.self.view_is) ∙ own_rows c.args.client own c.args.self.now

pub returns-clause-others : goal.returns-clause-others
returns-clause-others c other differs =
    let own = row c.args.done c.args.kept in
    ap (rows_of other) (c.in_ok-push.ensures.pushed ∙ ap (with_row c.args.client own) c.self.view_is) ∙ other_rows c.args.client own c.args.self.now other differs
