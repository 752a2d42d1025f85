-- Numbers among the words.
use Rattle.std.proofs.Common.{◌≡◌, ℕ, List, Option, Some, None, Result, Ok, Err, refl}
use Rattle.std.specs.Str.Parse.{ParsesUnsigned}
use Rattle.clap.specs.Walk.{Text}
use Rattle.clap.specs.Words.{ReadsOne}
use Rattle.pres_command.specs.Words.{IsReadAs}

-- what is read of a text by its digits
pub read_of : {E : Type 0} (bits : ℕ) (gives : List ℕ → Result ℕ E → Type 0) (number : Option ℕ) (text : Option Text)
    → ((t : List ℕ) (r : Result ℕ E) → gives t r → ParsesUnsigned bits 10 t r)
    → (text ≡ None → number ≡ None) → ((t : List ℕ) → text ≡ Some t → ReadsOne gives t number) → IsReadAs bits text number
read_of bits gives number None parses none value = none refl
read_of bits gives (Some n) (Some t) parses none value = parses t (Ok n) (value t refl)
read_of bits gives None (Some t) parses none value = let e = value t refl in parses t (Err e.0) e.1
