use Rattle.std.proofs.Common.{sym, ◌∙◌, codes}
use Rattle.clap.specs.Words.{found_of}
use Rattle.clap.proofs.WalkLemmas.{first_value-rows}
use Rattle.pres_command.proofs.words.viewing_of.Goals as goal

pub returns : goal.returns
returns c =
    let found = found_of c.args.given.now in (
      c.in_ok-file_of.ensures,
      sym (first_value-rows found (codes "PATH")) ∙ sym c.get_str.ensures,
    )
