-- What a client that is driven prints: a line for each notice, and one for each call that is refused.
use Rattle.std.specs.Prelude.{ℕ, Bool, true, false, List, [], ◌∷◌, ◌++◌, codes, decimal, Option, Some, None}
use Rattle.serde_json.specs.Written.{compact_text}
use Rattle.pres_tree.specs.declared.scalar.Scalar.{Scalar}
use Rattle.pres_tree.specs.Rows.{Rows}
use Rattle.pres_tree.specs.Paths.{Path, path_text}
use Rattle.pres_tree.specs.JsonPrinting.{json_of}
use Rattle.pres_tree.specs.Scalars.{scalar_printing}
use Rattle.pres_wire.specs.DownForms.{code_number, limit_number}
use Rattle.pres_client_state.specs.declared.notice.Notice.{Notice}
use Rattle.pres_client_state.specs.declared.notice.Notice.TheVariants as notice
use Rattle.pres_client.specs.declared.fault.ClientFault.{ClientFault}
use Rattle.pres_client.specs.Faults.{number_of}

abbrev pub Text : Type 0
Text = List ℕ

abbrev pub connected_text : Bool → Text
connected_text true = codes "connected true"
connected_text false = codes "connected false"

-- one text, a space, and another
abbrev pub spaced : Text → Text → Text
spaced text behind = text ++ 32 ∷ behind

-- where a value stands, and at which number
abbrev pub place_text : Path → ℕ → Text
place_text p z = codes "value " ++ spaced (path_text p) (spaced (decimal z) [])

-- what a notice tells before its value
abbrev pub words_of : Notice → Text
words_of (notice.Done k z) = codes "done " ++ spaced (decimal k) (decimal z)
words_of (notice.Ask k attempt v) = codes "ask " ++ spaced (decimal k) (spaced (decimal attempt) [])
words_of (notice.TooManyTries k) = codes "toomany " ++ decimal k
words_of (notice.Aborted k) = codes "aborted " ++ decimal k
words_of (notice.Armed k) = codes "armed " ++ decimal k
words_of (notice.ActionLost k) = codes "lost " ++ decimal k
words_of (notice.Value p z v) = place_text p z
words_of (notice.Connected is_open) = connected_text is_open
words_of (notice.Denied k why) = codes "denied " ++ spaced (decimal k) (decimal (limit_number why))
words_of (notice.Faulted code) = codes "faulted " ++ decimal (code_number code)

-- the value that a notice shows
abbrev pub value_in : Notice → Option (Rows Scalar)
value_in (notice.Ask k attempt v) = Some v
value_in (notice.Value p z v) = Some v
value_in n = None

-- its JSON, where there is one
abbrev pub shown : Option (Rows Scalar) → Text
shown None = []
shown (Some value) = compact_text (json_of scalar_printing value)

abbrev pub notice_text : Notice → Text
notice_text n = words_of n ++ shown (value_in n)

abbrev pub refusal_text : ℕ → Text
refusal_text number = codes "refused " ++ decimal number

abbrev pub line_of : Text → Text
line_of text = text ++ 10 ∷ []

-- the notices' lines, in their order
abbrev pub notice_lines : List Notice → Text
notice_lines [] = []
notice_lines (n ∷ notices) = line_of (notice_text n) ++ notice_lines notices

-- the line of a call that is refused, and none of one that is made
abbrev pub refusal_line : Option ClientFault → Text
refusal_line None = []
refusal_line (Some fault) = line_of (refusal_text (number_of fault))
