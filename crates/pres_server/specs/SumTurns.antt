-- What may follow, and what a turn makes, by the sum.
use Rattle.std.specs.Prelude.{ℕ, ◌+◌, ◌≡◌, ◌≤◌, min, max, List, [], ◌∷◌, length}
use Rattle.pres_write.specs.Moments as moments
use Rattle.pres_log.specs.declared.entry.Batch.{Batch}
use Rattle.pres_log.specs.declared.entry.Entry.{Entry}
use Rattle.pres_log.specs.Logs.{Log}
use Rattle.pres_server.specs.declared.input.Input.{Input}
use Rattle.pres_server.specs.declared.server.Turn.{Turn}
use Rattle.pres_server.specs.declared.server.Turn.TheVariants as turn_is
use Rattle.pres_server.specs.ServerStates.{heard_from, heard_of, heard_after_all}
use Rattle.pres_server.specs.SumStates.{SumState}
use Rattle.pres_server.specs.Turns.{Decision, quiet, makes}
use Rattle.pres_server.specs.InternalParts.{wanted_by, limited_by}
use Rattle.pres_server.specs.InternalFollows.{MayComeTogetherBy, LeavesRoomBy}
use Rattle.pres_server.specs.Sums.{Sum, part_in, paths_in, sum_with}

-- the batch may follow
pub record FollowsSum (sum : Sum) (batch : Batch) : Type 0 where
  pub first : batch.first ≡ sum.number + 1
  pub not_earlier : sum.moment ≤ batch.moment
  pub in_range : batch.moment ≤ moments.last_moment
  pub allowed : MayComeTogetherBy (part_in sum) (paths_in sum) (length sum.sessions) sum.tree batch.moment batch.entries
  pub room : LeavesRoomBy sum.number (length sum.sessions) batch.entries

-- the batches may follow, one after another
abbrev pub FollowAll : Sum → Log → Type 0
FollowAll sum [] = Unit {0}
FollowAll sum (batch ∷ later) = FollowsSum sum batch × FollowAll (sum_with sum batch) later

-- the moment that counts: within range, and never before an earlier one
abbrev pub moment_by : Sum → ℕ → ℕ
moment_by sum now = max (min now moments.last_moment) sum.moment

abbrev pub turn_by : SumState → Input → ℕ → Decision
turn_by state input now =
    let sum = state.sum in
    limited_by sum.number (length sum.sessions) (wanted_by (part_in sum) (paths_in sum) state.heard sum.tree (moment_by sum now) input)

abbrev pub batch_by : Sum → ℕ → List Entry → Batch
batch_by sum moment es = record { first = sum.number + 1; moment = moment; entries = es }

-- the sum after a turn whose batch, if there is one, is committed
abbrev pub sum_after_turn : Sum → ℕ → Decision → Sum
sum_after_turn sum moment (makes es) = sum_with sum (batch_by sum moment es)
sum_after_turn sum moment other = sum

-- ---- what the calls of a server answer

-- the server after a turn that makes nothing
abbrev pub after_hearing : SumState → ℕ → Input → SumState
after_hearing state moment input = record { sum = state.sum; heard = heard_of moment (heard_from input) state.heard }

-- the server after the commit
abbrev pub after_commit : SumState → ℕ → List Entry → SumState
after_commit state moment es = record { sum = sum_with state.sum (batch_by state.sum moment es); heard = heard_after_all moment es state.heard }

-- a quiet turn answers nothing, and one that waits for its commit is the one that the input asks for
abbrev pub IsTurn : SumState → Input → ℕ → Turn → Type 0
IsTurn state input now (turn_is.Quiet server outs) = (turn_by state input now ≡ quiet) × (server ≡ after_hearing state (moment_by state.sum now) input) × (outs ≡ [])
IsTurn state input now (turn_is.Busy busy) = (turn_by state input now ≡ makes busy.made) × (busy.state ≡ state) × (busy.moment ≡ moment_by state.sum now)
