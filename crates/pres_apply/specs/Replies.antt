-- What a line does, and what is answered to it.
use Rattle.std.specs.Prelude.{◌==◌, ◌+◌, ℕ, Bool, true, false, if◌then◌else◌, nat_lt, List, [], ◌++◌, length, codes, decimal, Option, Some, None, option_and_then, Result, Ok, Err}
use Rattle.std.specs.Str.{is_utf8}
use Rattle.serde_json.specs.Data.{Data}
use Rattle.serde_json.specs.Find.{get, as_number, as_u64}
use Rattle.serde_json.specs.Read.{read}
use Rattle.serde_json.specs.Written.{compact_text}
use Rattle.pres_tree.specs.declared.scalar.Scalar.{Scalar}
use Rattle.pres_tree.specs.Rows.{Rows, rows_in}
use Rattle.pres_tree.specs.JsonPrinting.{json_of}
use Rattle.pres_tree.specs.Scalars.{scalar_printing}
use Rattle.pres_write.specs.declared.fault.WriteFault.{WriteFault}
use Rattle.pres_write.specs.declared.outcome.Kept.{Kept}
use Rattle.pres_write.specs.declared.outcome.Kept.TheVariants.{Wrote, Stale}
use Rattle.pres_write.specs.declared.op.Op.{Op}
use Rattle.pres_write.specs.Moments.{last_moment}
use Rattle.pres_write.specs.OpForms.{op_read}
use Rattle.pres_wire.specs.UpForms.{longest_text}
use Rattle.pres_log.specs.Plains.{PlainState, fresh, state_after, kept_after}
use Rattle.pres_apply.specs.declared.faults.LineFault.{LineFault}
use Rattle.pres_apply.specs.declared.faults.LineFault.TheVariants.{Write, NotJson, NoMoment, TooLong}
use Rattle.pres_apply.specs.Faults.{number_of, name_of}

-- the log that the lines so far have made, and whether one of them was refused
pub record ApplyState : Type 0 where
  pub log : PlainState
  pub refused : Bool

-- before the first line
abbrev pub start : ApplyState
start = record { log = fresh; refused = false }

-- what is answered, and the state then
abbrev pub Replied : Type 0
Replied = List ℕ × ApplyState

abbrev pub refused_line : LineFault → List ℕ
refused_line e = codes "refused " ++ decimal (number_of e) ++ codes " " ++ name_of e ++ codes "\n"

abbrev pub after_refusal : ApplyState → ApplyState
after_refusal s = record s { refused = true }

abbrev pub refuse : ApplyState → LineFault → Replied
refuse s e = (refused_line e, after_refusal s)

-- the JSON text of a value
abbrev pub value_text : Rows Scalar → List ℕ
value_text tree = compact_text (json_of scalar_printing tree)

-- the outcome of an operation: it wrote, or it was stale with the value that the place held
abbrev pub kept_line : ℕ → Kept → List ℕ
kept_line n Wrote = decimal n ++ codes " wrote\n"
kept_line n (Stale held) = decimal n ++ codes " stale " ++ value_text (rows_in held) ++ codes "\n"

-- the log carries the operation out, under its next number
abbrev pub carry_out : ApplyState → Op → ℕ → Replied
carry_out s op now = (kept_line (s.log.number + 1) (kept_after s.log op now), record s { log = state_after s.log op now })

abbrev pub on_op : ApplyState → ℕ → Result Op WriteFault → Replied
on_op s now (Ok op) = carry_out s op now
on_op s now (Err e) = refuse s (Write e)

abbrev pub on_moment : ApplyState → Data → Option ℕ → Replied
on_moment s d None = refuse s NoMoment
on_moment s d (Some now) = on_op s now (op_read d)

abbrev pub as_moment : ℕ → Option ℕ
as_moment n = if nat_lt last_moment n then None else Some n

-- the moment that a line names: a whole number from 0 to 2^53 - 1
abbrev pub moment_in : Data → Option ℕ
moment_in d = option_and_then as_moment (option_and_then as_u64 (option_and_then as_number (get (codes "now") d)))

abbrev pub on_data : ApplyState → Option Data → Replied
on_data s None = refuse s NotJson
on_data s (Some d) = on_moment s d (moment_in d)

-- the JSON value that a line is, if it is one, in UTF-8
unfoldable pub data_of : List ℕ → Option Data
data_of line = if is_utf8 line then read line else None

-- a line that has bytes and isn't too long
abbrev pub taken : ApplyState → List ℕ → Replied
taken s line = on_data s (data_of line)

-- any line: one without bytes is skipped, and one that is longer than a message may be is refused
abbrev pub on_line : ApplyState → List ℕ → Replied
on_line s line = if length line == 0 then ([], s) else (if nat_lt longest_text (length line) then refuse s TooLong else taken s line)

unfoldable pub reply : ApplyState → List ℕ → List ℕ
reply s line = (on_line s line).0

unfoldable pub next : ApplyState → List ℕ → ApplyState
next s line = (on_line s line).1

-- the last line of the output
abbrev pub tree_line : ApplyState → List ℕ
tree_line s = codes "tree " ++ value_text s.log.tree ++ codes "\n"
