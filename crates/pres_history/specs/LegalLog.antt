-- Legal logs: each batch is allowed by what stands before it. The limits are ours.
use Rattle.std.specs.Prelude.{ℕ, ◌+◌, ◌-◌, ◌^◌, ◌≤◌, ◌≡◌, IsTrue, List, [], ◌∷◌, ◌++◌, length, Option, Some, None}
use Rattle.pres_write.specs.Moments as moments
use Rattle.pres_write.specs.Outcomes.{resolved}
use Rattle.pres_ids.specs.declared.id.SessionId.{SessionId}
use Rattle.pres_ids.specs.declared.id.Why.{Why}
use Rattle.pres_ids.specs.declared.id.Why.TheVariants.{Bye}
use Rattle.pres_plan.specs.Plans.{most_rows}
use Rattle.pres_fan.specs.Listeners.{most_paths}
use Rattle.pres_log.specs.declared.entry.Batch.{Batch}
use Rattle.pres_log.specs.declared.entry.Entry.{Entry}
use Rattle.pres_log.specs.declared.entry.Entry.TheVariants as entry
use Rattle.pres_log.specs.Logs.{Log, entries, number, last_moment, tree}
use Rattle.pres_server.specs.Batches.{IsPlain, Supersedes}
use Rattle.pres_history.specs.Sessions.{is_open, is_newest, open_sessions, open_sessions_of, count}
use Rattle.pres_history.specs.Outcomes.{ops}
use Rattle.pres_history.specs.SessionPlans.{plan, due_at}
use Rattle.pres_history.specs.Listening.{listened}

-- s is open, and q is its next
abbrev pub IsNext : SessionId → ℕ → List Entry → Type 0
IsNext s q before = IsTrue (is_open s before) × (q ≡ count s before + 1)

-- an end has a q where the client said so
abbrev pub IsEndNumber : SessionId → Option ℕ → Why → List Entry → Type 0
IsEndNumber s q Bye before = q ≡ Some (count s before + 1)
IsEndNumber s q _ before = q ≡ None

-- the entry may come after these, at the moment
abbrev pub MayCome : List Entry → ℕ → Entry → Type 0
MayCome before moment (entry.Open s) = IsTrue (is_newest s before) × (open_sessions_of s.client before ≡ []) × (length (open_sessions (before ++ entry.Open s ∷ [])) ≤ 1024)
MayCome before moment (entry.Op s q n op outcome) = IsNext s q before × (n ≡ ops s.client before + 1) × (outcome ≡ resolved (tree before) moment op)
MayCome before moment (entry.Again s q n) = IsNext s q before × (1 ≤ n) × (n ≤ ops s.client before)
MayCome before moment (entry.Left s q puts) = IsNext s q before × (length (plan s (before ++ entry.Left s q puts ∷ [])) ≤ most_rows)
MayCome before moment (entry.Cancelled s q path) = IsNext s q before × (length (plan s (before ++ entry.Cancelled s q path ∷ [])) ≤ most_rows)
MayCome before moment (entry.Denied s q why) = IsNext s q before
MayCome before moment (entry.On s q path) = IsNext s q before × (length (listened s (before ++ entry.On s q path ∷ [])) ≤ most_paths)
MayCome before moment (entry.Off s q path) = IsNext s q before
MayCome before moment (entry.Ended s q why rows) = IsTrue (is_open s before) × IsEndNumber s q why before × (rows ≡ due_at before moment s)

-- a batch is one entry, or an end and the newer session
abbrev pub MayComeTogether : List Entry → ℕ → List Entry → Type 0
MayComeTogether before moment (e ∷ []) = IsPlain e × MayCome before moment e
MayComeTogether before moment (e ∷ f ∷ []) = Supersedes e f × MayCome before moment e × MayCome (before ++ e ∷ []) moment f
MayComeTogether before moment _ = ⊥

-- there is a number left for the end of each open session
abbrev pub LeavesRoom : List Entry → Type 0
LeavesRoom entries = length entries + length (open_sessions entries) ≤ 2 ^ 52 - 1

pub record MayFollow (log : Log) (batch : Batch) : Type 0 where
  pub first : batch.first ≡ number log + 1
  pub not_earlier : last_moment log ≤ batch.moment
  pub in_range : batch.moment ≤ moments.last_moment
  pub allowed : MayComeTogether (entries log) batch.moment batch.entries
  pub room : LeavesRoom (entries log ++ batch.entries)

-- the later batches may follow, one after another
abbrev pub IsLegalAfter : Log → Log → Type 0
IsLegalAfter before [] = Unit {0}
IsLegalAfter before (batch ∷ later) = MayFollow before batch × IsLegalAfter (before ++ batch ∷ []) later

abbrev pub IsLegal : Log → Type 0
IsLegal log = IsLegalAfter [] log
