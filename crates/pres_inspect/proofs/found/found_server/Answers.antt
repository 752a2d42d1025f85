use Rattle.std.proofs.Common.{inl, refl, subst}
use Rattle.std.specs.Prelude.{IfNone, IfSome}
use Rattle.std.proofs.lemmas.Result.{IfOk-weaker}
use Rattle.sqlite.specs.Files.{over_files}
use Rattle.sqlite_pool.specs.Opening.{IsBlankFile}
use Rattle.pres_file.specs.FileOpening.{new_page_size}
use Rattle.pres_inspect.specs.Copies.{IsFlaw, IsFoundKeeper, image_of}
use Rattle.pres_inspect.proofs.Finding.{found_by, found_new, found_of, inside_refusal, is_clean}
use Rattle.pres_inspect.proofs.Flaws.{refusal}
use Rattle.pres_inspect.proofs.found.found_server.Goals as goal

pub server_of-requires : goal.server_of-requires
server_of-requires c = record { honest = is_clean _ (λ file. refl) }

pub returns-in-Some-clause-held : goal.returns-in-Some-clause-held
returns-in-Some-clause-held c =
    let image = image_of c.args.copied in
    let it = subst (λ found. IfSome found (IsFoundKeeper over_files image)) c.in-Some.is c.in_ok-keeper.ensures.found in
    IfOk-weaker c.server_of.result _ _ (found_of _ image _ it) c.server_of.ensures.held

pub returns-in-Some-clause-refused : goal.returns-in-Some-clause-refused
returns-in-Some-clause-refused c =
    let image = image_of c.args.copied in
    let it = subst (λ found. IfSome found (IsFoundKeeper over_files image)) c.in-Some.is c.in_ok-keeper.ensures.found in
    inside_refusal c.server_of.result c.server_of.ensures.refused
    (λ e flaw. refusal image e (found_by _ image _ it (λ held. IsFlaw held e) flaw))

pub returns-in-None-clause-held : goal.returns-in-None-clause-held
returns-in-None-clause-held c =
    let blank = subst (λ found. IfNone found (IsBlankFile new_page_size (image_of c.args.copied))) c.in-None.is c.in_ok-keeper.ensures.none in
    found_new _ refl c.new.ensures (inl (blank, refl))
