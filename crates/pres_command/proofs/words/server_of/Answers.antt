use Rattle.std.proofs.Common.{sym, subst, ◌∙◌, codes}
use Rattle.std.specs.Str.Parse.{ParsesUnsigned, ExplainsUnsignedError, HasUnsignedDigitsIfOk}
use Rattle.clap.specs.Matches.{one_text}
use Rattle.clap.specs.Words.{found_of}
use Rattle.clap.proofs.WalkLemmas.{first_value-rows, one_text-rows}
use Rattle.pres_command.specs.Words.{IsReadAs}
use Rattle.pres_command.proofs.Numbers.{read_of}
use Rattle.pres_command.proofs.words.server_of.Goals as goal

pub returns : goal.returns
returns c =
    let found = found_of c.args.given.now in (
      sym (first_value-rows found (codes "ADDRESS")) ∙ sym c.in_ok-get_str.ensures,
      sym (first_value-rows found (codes "FILE")) ∙ sym c.in_ok-get_str-2.ensures,
      subst (λ text. IsReadAs 32 text c.get_one.result) (one_text-rows found (codes "connections"))
          (read_of 32 _ c.get_one.result (one_text found (codes "connections"))
          (λ t r (h : ParsesUnsigned 32 10 t r × ExplainsUnsignedError 10 t r × HasUnsignedDigitsIfOk t r). h.0) c.get_one.ensures.none c.get_one.ensures.value),
      (
        λ given. c.get_flag.ensures.value (one_text-rows found (codes "until-stdin-ends") ∙ given),
        λ given. c.get_flag.ensures.other (one_text-rows found (codes "until-stdin-ends") ∙ given),
      ),
    )
