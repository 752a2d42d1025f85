use Rattle.std.proofs.Common.{sym, ap, subst, ◌∙◌, arith}
use Rattle.sqlite.proofs.OpenLemmas.{pool_files}
use Rattle.sqlite.specs.Files.{IsEmpty}
use Rattle.sqlite_store.specs.FileStore.{view}
use Rattle.sqlite_store.specs.Listed.{catalog_rows}
use Rattle.sqlite_store.specs.Listing.{listed_from}
use Rattle.sqlite_trees.proofs.Doubt.{clean_of}
use Rattle.sqlite_wal.specs.Reads.{are_clean}
use Rattle.pres_file.proofs.Successes.{from_one, from_three}
use Rattle.pres_file.proofs.open.make.Goals as goal

pub returns-in-Ok-clause-clean : goal.returns-in-Ok-clause-clean
returns-in-Ok-clause-clean g c = from_one c.connection_over.result (λ it clean now.
    let files = c.in_ok-unopened.ensures.files ∙ c.in_ok-pager.ensures.files in
    let made = clean_of (view c.in-Ok.store).is_clean (omega (arith, clean, now)) in
    sym ((pool_files c.in_ok-unopened.unopened.pool).1 ∙ ap (λ f. are_clean g.D.Disk f.0 f.1) files) ∙ c.in-Ok.ensures.honest made)
    c.connection_over.ensures.clean

pub returns-in-Ok-clause-empty : goal.returns-in-Ok-clause-empty
returns-in-Ok-clause-empty g c = from_three c.connection_over.result (λ it clean opens held now.
    let made = clean_of (view c.in-Ok.store).is_clean (omega (arith, clean, now)) in
    let new = c.in-Ok.ensures in
    let trees = sym (ap (λ d. d.trees) (opens now).0.clean) ∙ held now in
    subst IsEmpty (sym trees) (
      λ tree low. ap (λ d. d tree) new.ready.clean ∙ new.empty made tree low,
      rw made (catalog_rows _ _ _ ∙ ap (listed_from 0) (new.schema ∙ c.in_ok-unopened.ensures.schema)),
    ))
    c.connection_over.ensures.clean c.connection_over.ensures.opens c.connection_over.ensures.trees
