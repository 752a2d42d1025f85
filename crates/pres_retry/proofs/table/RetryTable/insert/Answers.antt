-- the client's rows are put at its place, and their number is one
use Rattle.std.proofs.Common.{◌≡◌, sym, ◌∙◌, ap, subst, arith}
use Rattle.std.specs.FinMap.Entries.{put}
use Rattle.pres_ids.specs.Ids.{client_cmp}
use Rattle.pres_retry.specs.Tables.{AreNumbered, rows_of}
use Rattle.pres_retry.proofs.Puts.{put_insert}
use Rattle.pres_retry.proofs.Records.{put_rows, numbered_put}
use Rattle.pres_retry.proofs.table.RetryTable.insert.Goals.{After-drop}
use Rattle.pres_retry.proofs.table.RetryTable.insert.Goals as goal

put_is : (c : After-drop) → c.insert.new.self.entries ≡ put client_cmp c.args.client c.args.answers c.self.inside.clients.entries
put_is c = c.in_ok-insert.ensures.entries ∙ put_insert client_cmp c.args.client c.args.answers c.self.inside.clients.entries

pub invariant_of-self-2 : goal.invariant_of-self-2
invariant_of-self-2 c =
    subst AreNumbered (sym (put_is c))
    (numbered_put c.args.client c.args.answers c.self.inside.clients.entries (omega (arith, c.requires.some), omega (arith, c.count.ensures, c.get.ensures.bound)) c.self.invariant)

pub returns-clause-inserted : goal.returns-clause-inserted
returns-clause-inserted c = put_is c ∙ ap (put client_cmp c.args.client c.args.answers) c.self.view_is

pub returns-clause-own : goal.returns-clause-own
returns-clause-own c = ap (rows_of c.args.client) (put_is c) ∙ put_rows c.args.client c.args.answers c.self.inside.clients.entries
