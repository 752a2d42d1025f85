-- What is printed of a history.
use Rattle.std.specs.Prelude.{ℕ, ◌+◌, nat_le, if◌then◌else◌, List, [], ◌∷◌, ◌++◌, length, codes, decimal, Option, Some, None}
use Rattle.std.specs.Io.KnownBytes.{Appends}
use Rattle.std.specs.List.{flat_map}
use Rattle.serde_json.specs.Data.{Data, object, no_members, member}
use Rattle.serde_json.specs.Written.{compact_text}
use Rattle.sqlite_wal.specs.Recovery.{Image}
use Rattle.pres_tree.specs.Paths.{Path}
use Rattle.pres_tree.specs.JsonPrinting.{json_of}
use Rattle.pres_tree.specs.Rows.{value_at}
use Rattle.pres_tree.specs.Scalars.{scalar_printing}
use Rattle.pres_ids.specs.Forms.{whole as whole_json}
use Rattle.pres_log.specs.declared.entry.Batch.{Batch}
use Rattle.pres_log.specs.declared.entry.Entry.{Entry}
use Rattle.pres_log.specs.Logs.{Log}
use Rattle.pres_batch_json.specs.Entries.{entry_json}
use Rattle.pres_server.specs.Sums.{Sum}
use Rattle.pres_server.specs.Histories.{History, LeadsTo}
use Rattle.pres_inspect.specs.Copies.{HoldsHistory, checkpoint_in}
use Rattle.pres_inspect.specs.declared.checkpoint.Checkpoint.{Checkpoint}
use Rattle.pres_inspect.specs.declared.fault.InspectFault.{InspectFault}
use Rattle.pres_inspect.specs.declared.fault.InspectFault.TheVariants as fault

abbrev pub Text : Type 0
Text = List ℕ

-- the files hold a history that leads to this sum, and this text of both is printed
pub record PrintsHistory (image : Image) (text : History → Sum → Text) (old new : Option Text) : Type 0 where
  pub history : History
  pub sum : Sum
  pub held : HoldsHistory image history
  pub leads : LeadsTo history sum
  pub printed : Appends old new (text history sum)

-- so is it of some history that leads to the sum
pub record PrintsSomeHistory (text : History → Sum → Text) (old new : Option Text) : Type 0 where
  pub history : History
  pub sum : Sum
  pub leads : LeadsTo history sum
  pub printed : Appends old new (text history sum)

-- ---- check

-- the checkpoint at which the history begins: how many entries and batches come before it, and its moment
abbrev pub checkpoint_lines : Option Checkpoint → Text
checkpoint_lines None = []
checkpoint_lines (Some c) =
    codes "checkpoint number " ++ decimal c.number ++ codes "\ncheckpoint batches " ++ decimal c.batches
    ++ codes "\ncheckpoint moment " ++ decimal c.moment ++ codes "\n"

-- how many entries, batches and open sessions there are, the checkpoint, and that each batch may follow those before it
abbrev pub state_text : Option Checkpoint → Sum → Text
state_text checkpoint sum =
    codes "number " ++ decimal sum.number ++ codes "\nbatches " ++ decimal sum.batches
    ++ codes "\nopen sessions " ++ decimal (length sum.sessions) ++ codes "\n" ++ checkpoint_lines checkpoint ++ codes "legal\n"

abbrev pub check_text : History → Sum → Text
check_text history sum = state_text (checkpoint_in history.base) sum

-- which row is the first bad one, or that the checkpoint is, and why
abbrev pub flaw_text : InspectFault → Text
flaw_text fault.BadCheckpoint = codes "checkpoint unreadable\n"
flaw_text (fault.Unreadable k) = codes "row " ++ decimal k ++ codes " unreadable\n"
flaw_text (fault.NotLegal k) = codes "row " ++ decimal k ++ codes " not legal\n"
flaw_text e = []

-- ---- tree

-- the value at the path of the tree
abbrev pub value_text : Path → Sum → Text
value_text path sum = codes "tree " ++ compact_text (json_of scalar_printing (value_at path sum.tree)) ++ codes "\n"

abbrev pub tree_text : Path → History → Sum → Text
tree_text path history sum = value_text path sum

-- ---- history

-- what has a number and a moment, under its name, as JSON
abbrev pub numbered_json : Text → Data → ℕ → ℕ → Data
numbered_json name what number moment =
    object (member name what (member (codes "moment") (whole_json moment) (member (codes "number") (whole_json number) no_members)))

-- a checkpoint, with how many batches come before it
abbrev pub checkpoint_text : Checkpoint → Text
checkpoint_text c =
    compact_text (numbered_json (codes "checkpoint") (object (member (codes "batches") (whole_json c.batches) no_members)) c.number c.moment) ++ codes "\n"

abbrev pub entry_text : ℕ → ℕ → Entry → Text
entry_text number moment e = compact_text (numbered_json (codes "entry") (entry_json e) number moment) ++ codes "\n"

-- the line of a checkpoint with the number `from` or a later one
abbrev pub checkpoint_line : ℕ → Option Checkpoint → Text
checkpoint_line from None = []
checkpoint_line from (Some c) = if nat_le from c.number then checkpoint_text c else []

-- the lines of entries of one moment whose first has this number: of those with the number `from` or a later one
abbrev pub lines_text : ℕ → ℕ → ℕ → List Entry → Text
lines_text from number moment [] = []
lines_text from number moment (e ∷ es) =
    (if nat_le from number then entry_text number moment e else []) ++ lines_text from (number + 1) moment es

abbrev pub batch_text : ℕ → Batch → Text
batch_text from b = lines_text from b.first b.moment b.entries

-- the lines of all batches, in their order
abbrev pub log_text : ℕ → Log → Text
log_text from log = flat_map (batch_text from) log

-- the checkpoint first, and then the entries since
abbrev pub listed_text : ℕ → History → Text
listed_text from history = checkpoint_line from (checkpoint_in history.base) ++ log_text from history.log

abbrev pub history_text : ℕ → History → Sum → Text
history_text from history sum = listed_text from history
