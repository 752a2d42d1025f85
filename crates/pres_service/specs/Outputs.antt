-- What a server prints.
use Rattle.std.specs.Prelude.{ℕ, List, [], ◌∷◌, ◌++◌, codes}
use Rattle.std.specs.Fmt.{decimal}

-- once it listens: where
abbrev pub listening_line : List ℕ → List ℕ
listening_line address = codes "listening " ++ address ++ 10 ∷ []

-- at its end: the number of the last entry
abbrev pub number_line : ℕ → List ℕ
number_line number = codes "number " ++ decimal number ++ 10 ∷ []
