-- A history that leads to a server's sum: what a turn makes leads on.
use Rattle.std.proofs.Common.{◌≡◌, ℕ, ◌+◌, List, [], ◌∷◌, length, Option, Some, None, arith}
use Rattle.pres_log.specs.declared.entry.Entry.{Entry}
use Rattle.pres_server.specs.declared.input.Input.{Input}
use Rattle.pres_server.specs.Turns.{makes}
use Rattle.pres_server.specs.Sums.{Sum, sum_after, sum_after_all, sum_with}
use Rattle.pres_server.specs.SumStates.{SumState}
use Rattle.pres_server.specs.SumTurns.{FollowsSum, turn_by, moment_by, batch_by}
use Rattle.pres_server.specs.Histories.{IsSum, History, LeadsTo, with_batch}
use Rattle.pres_server.proofs.Turning.{turn_follows}
use Rattle.pres_history.proofs.Histories.{history_holds, history_grows}
use Rattle.pres_keeper.specs.Engines.{Runs}
use Rattle.pres_dispatch.specs.Dispatches.{Histories, Explains}

-- what holds for each server holds of one that runs
pub runs_map : (P Q : SumState → Type 0) → ((s : SumState) → P s → Q s) → (server : Option SumState) → Runs P server → Runs Q server
runs_map P Q f None h = tt
runs_map P Q f (Some s) h = f s h

-- this many entries more
pub number_after : (es : List Entry) (sum : Sum) → (sum_after_all es sum).number ≡ sum.number + length es
number_after [] sum = let none : sum.number ≡ sum.number + 0 = omega arith in none
number_after (e ∷ es) sum = let rest = number_after es (sum_after e sum) in omega (arith, rest)

-- what holds of every server's sum holds of one that histories explain
pub summed_by : (histories : Histories) (sum : Sum) → Explains histories sum → IsSum sum
summed_by histories sum explains = history_holds histories.kept sum explains.kept

-- what a turn makes may follow
pub follows_by : (s : SumState) → IsSum s.sum → (i : Input) (now : ℕ) (es : List Entry) → turn_by s i now ≡ makes es → FollowsSum s.sum (batch_by s.sum (moment_by s.sum now) es)
follows_by s summed i now es k = turn_follows s i now summed es k

-- the history with the turn's batch leads to the sum with it
pub leads_by : (history : History) (s : SumState) → LeadsTo history s.sum → (i : Input) (now : ℕ) (es : List Entry) → turn_by s i now ≡ makes es
    → LeadsTo (with_batch history (batch_by s.sum (moment_by s.sum now) es)) (sum_with s.sum (batch_by s.sum (moment_by s.sum now) es))
leads_by history s leads i now es k =
    (history_grows history s.sum (batch_by s.sum (moment_by s.sum now) es) leads (follows_by s (history_holds history s.sum leads) i now es k)).leads
