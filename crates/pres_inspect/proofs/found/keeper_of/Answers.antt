use Rattle.std.proofs.Common.{ap₂, subst, ◌∙◌}
use Rattle.std.specs.Prelude.{IfErr, IfNone, IfOk, IfSome}
use Rattle.sqlite.specs.Files.{over_files}
use Rattle.sqlite_pool.specs.Opening.{IsBlankFile}
use Rattle.sqlite_wal.specs.Recovery.{Image}
use Rattle.pres_file.specs.FileOpening.{new_page_size}
use Rattle.pres_inspect.specs.Copies.{IsFoundKeeper, IsRefusal}
use Rattle.pres_inspect.proofs.found.keeper_of.Goals as goal

pub returns : goal.returns
returns c =
    let same = ap₂ (λ a b. let i : Image = record { log = a; db = b } in i) (c.in_ok-log.ensures.bytes ∙ c.deref.ensures.value) (c.in_ok-db.ensures.bytes ∙ c.deref-2.ensures.value) in
    record {
      none = subst (λ image. IfOk c.keeper_in.result (λ found. IfNone found (IsBlankFile new_page_size image))) same c.keeper_in.ensures.none;
      found = subst (λ image. IfOk c.keeper_in.result (λ found. IfSome found (IsFoundKeeper over_files image))) same c.keeper_in.ensures.found;
      refused = subst (λ image. IfErr c.keeper_in.result (IsRefusal image)) same c.keeper_in.ensures.refused;
    }
