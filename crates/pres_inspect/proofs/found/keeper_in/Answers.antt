use Rattle.std.proofs.Common.{subst, sym}
use Rattle.sqlite.specs.Files.{HoldsDatabase, file_state, image_of}
use Rattle.pres_inspect.specs.Copies.{IsFoundIn}
use Rattle.pres_inspect.proofs.Finding.{is_clean}
use Rattle.pres_inspect.proofs.found.keeper_in.Goals as goal

pub returns-in_ok-keeper-in-Ok-clause-found : goal.returns-in_ok-keeper-in-Ok-clause-found
returns-in_ok-keeper-in-Ok-clause-found g c =
    let clean = is_clean g.D.Disk c.requires.honest c.in-Ok.connection in
    let found : IsFoundIn (image_of g.D.Disk c.args.files) (file_state c.in-Ok.connection) = record {
      opens = (c.in-Ok.ensures.opened clean).0;
      sound = (c.in-Ok.ensures.opened clean).1;
      holds = λ trees held. (c.in-Ok.ensures.found clean).holds trees (subst (λ i. HoldsDatabase i trees) (sym c.in_ok-is_blank.ensures.image) held);
    } in
    record {
      connection = c.in-Ok.connection;
      is_new = c.in_ok-keeper-in-Ok.field-0.is_new;
      finds = found;
      keeps = c.in_ok-keeper-in-Ok.ensures.keeps;
      clean = is_clean g.D.Disk c.requires.honest c.in_ok-keeper-in-Ok.field-0.keeper.connection;
    }
