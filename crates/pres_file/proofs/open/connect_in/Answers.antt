use Rattle.std.proofs.Common.{sym, subst, ◌∙◌, arith, true≢false}
use Rattle.sqlite.specs.Files.{HoldsDatabase, image_of}
use Rattle.sqlite.proofs.FileLemmas.{same_image}
use Rattle.sqlite_pool.specs.Opening.{IsBlankFile}
use Rattle.pres_file.specs.FileOpening.{new_page_size}
use Rattle.pres_file.proofs.Blank.{holds_nothing}
use Rattle.pres_file.proofs.Successes.{from_three}
use Rattle.pres_file.proofs.open.connect_in.Goals as goal

pub returns-in-Ok-true-clause-finds : goal.returns-in-Ok-true-clause-finds
returns-in-Ok-true-clause-finds g c =
    from_three c.make.result (λ it clean opened empty now.
    let is_blank = c.in-Ok-true.ensures.ok (clean now) in
    let blank : IsBlankFile new_page_size (image_of g.D.Disk c.args.files) = subst (λ size. IsBlankFile size (image_of g.D.Disk c.args.files)) c.in-Some.ensures.value (is_blank.0 c.in-Ok-true.field-0-test) in
    record { opens = (opened now).0; sound = (opened now).1; holds = λ db held. absurd (holds_nothing new_page_size (image_of g.D.Disk c.args.files) db (omega arith) held blank); nothing = λ _. empty now })
    c.make.ensures.clean c.make.ensures.opened c.make.ensures.empty

pub returns-in-Ok-false-clause-finds : goal.returns-in-Ok-false-clause-finds
returns-in-Ok-false-clause-finds g c =
    from_three c.find.result (λ it clean opened holds now.
    let is_blank = c.in-Ok-false.ensures.ok (clean now) in
    let same = same_image c.in-Ok-false.ensures.log c.in-Ok-false.ensures.db in
    record { opens = (opened now).0; sound = (opened now).1; holds = λ db held. holds now db (subst (λ i. HoldsDatabase i db) (sym same) held); nothing = λ blank. absurd (let yes = is_blank.1 (subst (λ size. IsBlankFile size (image_of g.D.Disk c.args.files)) (sym c.in-Some.ensures.value) blank) in true≢false (sym yes ∙ c.in-Ok-false.field-0-test)) })
    c.find.ensures.clean c.find.ensures.opened c.find.ensures.holds
