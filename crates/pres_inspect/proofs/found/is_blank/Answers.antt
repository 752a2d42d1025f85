use Rattle.std.proofs.Common.{ap₂, subst}
use Rattle.std.specs.Prelude.{◌&&◌}
use Rattle.sqlite.specs.Files.{image_of}
use Rattle.sqlite.proofs.FileLemmas.{same_image}
use Rattle.sqlite_pool.specs.Opening.{IsBlankFile}
use Rattle.pres_inspect.proofs.found.is_blank.Goals as goal

pub returns-in-Ok-clause-blank : goal.returns-in-Ok-clause-blank
returns-in-Ok-clause-blank g c = λ yes.
    subst (λ size. IsBlankFile size (image_of g.D.Disk c.args.files.now)) c.in-Some.ensures.value
    ((c.in-Ok.ensures.ok (ap₂ ◌&&◌ (c.requires.honest _) (c.requires.honest _))).0 yes)

pub returns-in-Ok-clause-image : goal.returns-in-Ok-clause-image
returns-in-Ok-clause-image g c = same_image c.probe_blank.ensures.log c.probe_blank.ensures.db
