-- What every legal log says of writes, of sessions and of their ends.
use Rattle.std.specs.Prelude.{ℕ, ◌<◌, ◌≡◌, true, IsTrue, Option, List, ◌∷◌, ◌++◌}
use Rattle.std.specs.List.{Contains}
use Rattle.pres_ids.specs.declared.id.SessionId.{SessionId}
use Rattle.pres_ids.specs.declared.id.Why.{Why}
use Rattle.pres_ids.specs.Ids.{is_earlier, stamp_of}
use Rattle.pres_write.specs.declared.basic.Basic.{Basic}
use Rattle.pres_write.specs.declared.op.Op.{Op}
use Rattle.pres_write.specs.declared.outcome.Outcome.{Outcome}
use Rattle.pres_tree.specs.Paths.{Path, is_prefix}
use Rattle.pres_plan.specs.declared.row.PlanRow.{PlanRow}
use Rattle.pres_plan.specs.Plans.{is_put, path_of}
use Rattle.pres_log.specs.declared.entry.Batch.{Batch}
use Rattle.pres_log.specs.declared.entry.Entry.{Entry}
use Rattle.pres_log.specs.declared.entry.Entry.TheVariants as entry
use Rattle.pres_log.specs.Logs.{Log, Stands, entries, entries_before}
use Rattle.pres_server.specs.Sessions.{session_of}
use Rattle.pres_history.specs.SessionPlans.{due_at, plan}

-- each write of a client stands once, in the order of the writes' numbers
pub record WritesStand (log : Log) : Type 0 where
  pub once : (s t : SessionId) (j k q p n : ℕ) (o o' : Op) (r r' : Outcome) →
      Stands log j (entry.Op s q n o r) → Stands log k (entry.Op t p n o' r') → s.client ≡ t.client → j ≡ k
  pub in_order : (s t : SessionId) (j k q p n m : ℕ) (o o' : Op) (r r' : Outcome) →
      Stands log j (entry.Op s q n o r) → Stands log k (entry.Op t p m o' r') → s.client ≡ t.client → n < m → j < k

-- each session ends once, by an entry with all that is due then, before any entry of a later session of its client
pub record EndsStand (log : Log) : Type 0 where
  pub once : (s : SessionId) (j k : ℕ) (q q' : Option ℕ) (y y' : Why) (rows rows' : List Basic) →
      Stands log j (entry.Ended s q y rows) → Stands log k (entry.Ended s q' y' rows') → j ≡ k
  pub are_due : (earlier later : Log) (batch : Batch) (s : SessionId) (q : Option ℕ) (y : Why) (rows : List Basic) (more : List Entry) →
      earlier ++ batch ∷ later ≡ log → batch.entries ≡ entry.Ended s q y rows ∷ more → rows ≡ due_at (entries earlier) batch.moment s
  pub come_first : (s : SessionId) (j k : ℕ) (q : Option ℕ) (y : Why) (rows : List Basic) (e : Entry) →
      Stands log j (entry.Ended s q y rows) → Stands log k e → s.client ≡ (session_of e).client → IsTrue (is_earlier (stamp_of s) (stamp_of (session_of e))) → j < k

-- the entries of one client stand in the order of its sessions
abbrev pub SessionsStand : Log → Type 0
SessionsStand log = (j k : ℕ) (e f : Entry) → Stands log j e → Stands log k f → (session_of e).client ≡ (session_of f).client → IsTrue (is_earlier (stamp_of (session_of e)) (stamp_of (session_of f))) → j < k

-- a put at the path or below that was left before message q
abbrev pub IsPutBefore : ℕ → Path → PlanRow → Type 0
IsPutBefore q p row = (is_put row.action ≡ true) × (row.q < q) × (is_prefix p (path_of row.action) ≡ true)

-- what message q of a session cancelled stands nowhere: it is not in the plan that the session's end pays
abbrev pub CancelsStand : Log → Type 0
CancelsStand log = (s : SessionId) (j k q : ℕ) (p : Path) (e : Option ℕ) (y : Why) (rows : List Basic) (row : PlanRow) →
    Stands log j (entry.Cancelled s q p) → Stands log k (entry.Ended s e y rows) → Contains (plan s (entries_before log k)) row → ¬ (IsPutBefore q p row)
