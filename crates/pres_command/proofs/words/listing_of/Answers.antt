use Rattle.std.proofs.Common.{subst, codes}
use Rattle.std.specs.Str.Parse.{ParsesUnsigned, ExplainsUnsignedError, HasUnsignedDigitsIfOk}
use Rattle.clap.specs.Matches.{one_text}
use Rattle.clap.specs.Words.{found_of}
use Rattle.clap.proofs.WalkLemmas.{one_text-rows}
use Rattle.pres_command.specs.Words.{IsReadAs}
use Rattle.pres_command.proofs.Numbers.{read_of}
use Rattle.pres_command.proofs.words.listing_of.Goals as goal

pub returns : goal.returns
returns c =
    let found = found_of c.args.given.now in (
      c.in_ok-file_of.ensures,
      subst (λ text. IsReadAs 64 text c.get_one.result) (one_text-rows found (codes "from"))
          (read_of 64 _ c.get_one.result (one_text found (codes "from"))
          (λ t r (h : ParsesUnsigned 64 10 t r × ExplainsUnsignedError 10 t r × HasUnsignedDigitsIfOk t r). h.0) c.get_one.ensures.none c.get_one.ensures.value),
    )
