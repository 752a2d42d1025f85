-- What is kept of a server, and why no server is made of it.
use Rattle.std.specs.Prelude.{◌≡◌, ◌⊎◌, ℕ, ◌+◌, Bool, true, false, List, [], ◌∷◌, ◌++◌, All, length, map, Option, Some, None}
use Rattle.pres_ids.specs.Ids.{ClientId}
use Rattle.pres_wire.specs.DownReads.{one_null}
use Rattle.pres_retry.specs.Tables.{rows_of}
use Rattle.pres_base.specs.declared.parts.BaseParts.{BaseParts}
use Rattle.pres_log.specs.declared.entry.Batch.{Batch}
use Rattle.pres_log.specs.declared.entry.Entry.{Entry}
use Rattle.pres_log.specs.Logs.{Log, number}
use Rattle.pres_batch_json.specs.Reads.{with_one_null}
use Rattle.pres_faults.specs.declared.saved_fault.SavedFault.{SavedFault}
use Rattle.pres_faults.specs.declared.saved_fault.SavedFault.TheVariants.{Memory, Database, BadRow}
use Rattle.pres_server.specs.declared.replay.ReplayFault.{ReplayFault}
use Rattle.pres_server.specs.declared.replay.ReplayFault.TheVariants.{Memory as OutOfMemory, NotLegal}
use Rattle.pres_server.specs.Sums.{Sum, nothing, sum_from}
use Rattle.pres_server.specs.SumTurns.{FollowsSum, FollowAll}
use Rattle.pres_server.specs.Histories.{IsSum, History, LeadsTo, with_batch, with_batches}
use Rattle.pres_server.specs.BaseSums.{sum_for}

-- ---- histories

-- how many entries there are, before its base and since
abbrev pub number_in : History → ℕ
number_in history = history.base.number + number history.log

-- some history leads to the sum, and this holds of it
pub record SomeHistory (holds : History → Type 0) (sum : Sum) : Type 0 where
  pub history : History
  pub leads : LeadsTo history sum
  pub held : holds history

-- this holds of a history with these batches since its base
abbrev pub HoldsSince : (History → Type 0) → Log → Type 0
HoldsSince holds log = (base : Sum) × holds (record { base = base; log = log })

-- ---- one null

-- no value is held as null and not as none; so it is with what a turn makes
abbrev pub HasOneNull : List Entry → Type 0
HasOneNull es = map with_one_null es ≡ es

-- so it is with the kept answers of each client
abbrev pub KeepsOneNull : Sum → Type 0
KeepsOneNull sum = (client : ClientId) → All (λ row. one_null row.kept ≡ row.kept) (rows_of client sum.rows)

-- batches that may be kept after the history, one after another: each is numbered from where the one before it ends
abbrev pub FollowOn : History → Log → Type 0
FollowOn history [] = Unit {0}
FollowOn history (batch ∷ later) = (batch.first ≡ number_in history + 1) × HasOneNull batch.entries × FollowOn (with_batch history batch) later

-- ---- faults

-- a batch that may not follow is a bad row
abbrev pub bad_batch : ReplayFault → SavedFault
bad_batch OutOfMemory = Memory
bad_batch (NotLegal k) = BadRow k

-- the fault is a failed allocation, or the database's
abbrev pub IsOfStore : SavedFault → Type 0
IsOfStore e = (e ≡ Memory) ⊎ (e ≡ Database)

-- ---- what can be read

-- the sum of a base, or that of the log without batches
abbrev pub base_sum : Option BaseParts → Sum
base_sum None = nothing
base_sum (Some base) = sum_for base

-- What can be read of what is held: the sum at which it begins, none where its checkpoint is no base; the batches since,
-- before the first row that is none; and whether there is no such row.
pub record Readable : Type 0 where
  pub base : Option Sum
  pub batches : Log
  pub is_all : Bool

-- a history that is read to its end
abbrev pub whole : History → Readable
whole history = record { base = Some history.base; batches = history.log; is_all = true }

-- it begins as the history does, with its batches
pub record HasBatches (history : History) (held : Readable) : Type 0 where
  pub more : Log
  pub base : held.base ≡ Some history.base
  pub batches : held.batches ≡ history.log ++ more

-- it begins at a sum to which the history and later batches lead
pub record BeginsLater (history : History) (held : Readable) : Type 0 where
  pub more : Log
  pub sum : Sum
  pub base : held.base ≡ Some sum
  pub leads : LeadsTo (with_batches history more) sum

-- what can be read goes on from the history
abbrev pub BeginsWith : History → Readable → Type 0
BeginsWith history held = HasBatches history held ⊎ BeginsLater history held

-- ---- why it is not read, and why no server is made

-- The first row that is none is that of the checkpoint, which counts as row 0. Batches are numbered on from the base's.
abbrev pub IsUnreadAfter : Option Sum → Readable → ℕ → Type 0
IsUnreadAfter None held k = k ≡ 0
IsUnreadAfter (Some base) held k = (held.is_all ≡ false) × (k ≡ base.batches + length held.batches + 1)

-- row k is the first that is none
abbrev pub IsFirstUnread : Readable → ℕ → Type 0
IsFirstUnread held k = IsUnreadAfter held.base held k

-- batch number k is the first that may not follow those before it, which begin at the sum
pub record IsFirstIllegalAfter (base : Sum) (batches : List Batch) (k : ℕ) : Type 0 where
  pub before : Log
  pub batch : Batch
  pub later : List Batch
  pub parts : batches ≡ before ++ batch ∷ later
  pub number : k ≡ base.batches + length before + 1
  pub legal : FollowAll base before
  pub refused : FollowsSum (sum_from base before) batch → ⊥

-- why batches after the sum are refused
abbrev pub IsNoLogAfter : Sum → List Batch → ReplayFault → Type 0
IsNoLogAfter base batches OutOfMemory = Unit {0}
IsNoLogAfter base batches (NotLegal k) = IsFirstIllegalAfter base batches k

-- the same of rows after a checkpoint
abbrev pub IsBadAfter : Option Sum → Readable → ℕ → Type 0
IsBadAfter None held k = k ≡ 0
IsBadAfter (Some base) held k = IsFirstIllegalAfter base held.batches k ⊎ (FollowAll base held.batches × IsUnreadAfter (Some base) held k)

-- row k is the first that is none, or no batch that may follow those before it
abbrev pub IsFirstBad : Readable → ℕ → Type 0
IsFirstBad held k = IsBadAfter held.base held k

-- why the base isn't read: it is none, or memory or the database refused
abbrev pub IsNoBase : Readable → SavedFault → Type 0
IsNoBase held (BadRow k) = (held.base ≡ None) × (k ≡ 0)
IsNoBase held e = IsOfStore e

-- why the batches aren't read: that row is the first that is none, or memory or the database refused
abbrev pub IsUnread : Readable → SavedFault → Type 0
IsUnread held (BadRow k) = IsFirstUnread held k
IsUnread held e = IsOfStore e

-- why no server is made: that row is the first bad one, or memory or the database refused
abbrev pub IsNoServer : Readable → SavedFault → Type 0
IsNoServer held (BadRow k) = IsFirstBad held k
IsNoServer held e = IsOfStore e

-- ---- a keeper in memory

-- what holds of the base of what it holds
pub record HoldsBase (base : Sum) : Type 0 where
  pub sum : IsSum base
  pub nulls : KeepsOneNull base
