use Rattle.std.proofs.Common.{◌≡◌, inl, refl, ap, sym, subst}
use Rattle.std.specs.Prelude.{IfNone, IfSome}
use Rattle.sqlite.specs.Files.{over_files}
use Rattle.sqlite_pool.specs.Opening.{IsBlankFile}
use Rattle.pres_file.specs.FileOpening.{new_page_size}
use Rattle.pres_keeper.specs.Keepers.{whole}
use Rattle.pres_keeper.proofs.Behind.{leads_all}
use Rattle.pres_server.specs.Sums.{nothing}
use Rattle.pres_server.specs.SumTurns.{FollowAll}
use Rattle.pres_server.specs.Histories.{History}
use Rattle.pres_server.proofs.SumServers.{nothing_holds}
use Rattle.pres_inspect.specs.Copies.{IsFlaw, IsFoundKeeper, history_of, image_of}
use Rattle.pres_inspect.proofs.Finding.{found_by, inside, inside_refusal, is_clean}
use Rattle.pres_inspect.proofs.Flaws.{refusal}
use Rattle.pres_inspect.proofs.found.found_history.Goals as goal

pub history_in-requires : goal.history_in-requires
history_in-requires c = record { honest = is_clean _ (λ file. refl) }

pub returns-in-Some-clause-held : goal.returns-in-Some-clause-held
returns-in-Some-clause-held c =
    let image = image_of c.args.copied in
    let it = subst (λ found. IfSome found (IsFoundKeeper over_files image)) c.in-Some.is c.in_ok-keeper.ensures.found in
    inside c.history_in.result c.history_in.ensures.held
    (λ found so. found_by _ image _ it (λ held. held ≡ whole (history_of found)) so)

pub returns-in-Some-clause-refused : goal.returns-in-Some-clause-refused
returns-in-Some-clause-refused c =
    let image = image_of c.args.copied in
    let it = subst (λ found. IfSome found (IsFoundKeeper over_files image)) c.in-Some.is c.in_ok-keeper.ensures.found in
    inside_refusal c.history_in.result c.history_in.ensures.refused
    (λ e flaw. refusal image e (found_by _ image _ it (λ held. IsFlaw held e) flaw))

pub returns-in-None-clause-held : goal.returns-in-None-clause-held
returns-in-None-clause-held c =
    let blank = subst (λ found. IfNone found (IsBlankFile new_page_size (image_of c.args.copied))) c.in-None.is c.in_ok-keeper.ensures.none in
    inl (blank, ap (λ log. let history : History = record { base = nothing; log = log } in whole history) (sym c.new.ensures.items))

pub returns-in-None-clause-leads : goal.returns-in-None-clause-leads
returns-in-None-clause-leads c = leads_all nothing _ nothing_holds (subst (FollowAll nothing) (sym c.new.ensures.items) tt)
