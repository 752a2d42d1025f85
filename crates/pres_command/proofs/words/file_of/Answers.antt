use Rattle.std.proofs.Common.{◌≡◌, ℕ, List, Option, Some, None, IfSome, sym, subst, codes, option_map}
use Rattle.clap.specs.Matches.{first_value}
use Rattle.clap.specs.Words.{found_of}
use Rattle.clap.proofs.WalkLemmas.{first_value-rows}
use Rattle.pres_command.proofs.words.file_of.Goals as goal

-- the value that there is
there : {A : Type 0} (text : A → List ℕ) (found : Option A) (value : Option (List ℕ)) → option_map text found ≡ value → IfSome found (λ x. value ≡ Some (text x))
there text None value is = tt
there text (Some x) value is = sym is

pub returns : goal.returns
returns c =
    let found = found_of c.args.given.now in
    subst (λ value. IfSome c.get_str.result (λ file. value ≡ Some file.now)) (first_value-rows found (codes "FILE"))
    (there (λ file. file.now) c.get_str.result (first_value found (codes "FILE")) c.get_str.ensures)
