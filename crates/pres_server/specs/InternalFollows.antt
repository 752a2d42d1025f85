-- What may follow a log, by what the index says of it: plain data of each client, and the numbers of entries and of
-- open sessions.
use Rattle.std.specs.Prelude.{ℕ, ◌+◌, ◌-◌, ◌^◌, ◌≤◌, ◌≡◌, IsTrue, List, [], ◌∷◌, length, Option, Some, None}
use Rattle.pres_tree.specs.declared.scalar.Scalar.{Scalar}
use Rattle.pres_tree.specs.Paths.{Path}
use Rattle.pres_tree.specs.Rows.{Rows}
use Rattle.pres_write.specs.Outcomes.{resolved}
use Rattle.pres_ids.specs.declared.id.SessionId.{SessionId}
use Rattle.pres_ids.specs.declared.id.Why.{Why}
use Rattle.pres_ids.specs.declared.id.Why.TheVariants.{Bye}
use Rattle.pres_ids.specs.Ids.{ClientId, stamp_of}
use Rattle.pres_plan.specs.Plans.{most_rows, due}
use Rattle.pres_fan.specs.Listeners.{most_paths, add_path}
use Rattle.pres_log.specs.declared.entry.Entry.{Entry}
use Rattle.pres_log.specs.declared.entry.Entry.TheVariants as entry
use Rattle.pres_server.specs.declared.index.Index.{Index}
use Rattle.pres_server.specs.declared.turn.TurnTime.{TurnTime}
use Rattle.pres_server.specs.Sessions.{session_of}
use Rattle.pres_server.specs.Batches.{IsPlain, Supersedes}
use Rattle.pres_server.specs.InternalParts.{LivePart, Part, plan_in, plan_after, comes_after, is_live, count_in, open_steps}
use Rattle.pres_server.specs.InternalSessions.{open_count}
use Rattle.pres_server.specs.InternalIndex.{part_at, paths_at}

-- ---- one entry

-- q comes after this many messages of an open session
abbrev pub IsNextIn : Option ℕ → ℕ → Type 0
IsNextIn None q = ⊥
IsNextIn (Some count) q = q ≡ count + 1

-- q is the next message of the session, which is open
abbrev pub IsNextBy : Option LivePart → SessionId → ℕ → Type 0
IsNextBy live s q = IsNextIn (count_in live (stamp_of s)) q

-- a client says the end of its session by its next message
abbrev pub IsSaidBy : Option LivePart → SessionId → Option ℕ → Type 0
IsSaidBy live s None = ⊥
IsSaidBy live s (Some q) = IsNextBy live s q

-- an end has a q where the client said so
abbrev pub IsEndNumberBy : Option LivePart → SessionId → Option ℕ → Why → Type 0
IsEndNumberBy live s q Bye = IsSaidBy live s q
IsEndNumberBy live s q _ = q ≡ None

-- by the part of the entry's client, the paths that its session listens to, how many sessions are open, and the tree
abbrev pub MayComeBy : Part → List Path → ℕ → Rows Scalar → ℕ → Entry → Type 0
MayComeBy p paths sessions tree moment (entry.Open s) = IsTrue (comes_after p.last (stamp_of s)) × (p.live ≡ None) × (sessions + 1 ≤ 1024)
MayComeBy p paths sessions tree moment (entry.Op s q n op outcome) = IsNextBy p.live s q × (n ≡ length p.rows + 1) × (outcome ≡ resolved tree moment op)
MayComeBy p paths sessions tree moment (entry.Again s q n) = IsNextBy p.live s q × (1 ≤ n) × (n ≤ length p.rows)
MayComeBy p paths sessions tree moment (entry.Left s q puts) = IsNextBy p.live s q × (length (plan_after (entry.Left s q puts) (plan_in p.live)) ≤ most_rows)
MayComeBy p paths sessions tree moment (entry.Cancelled s q path) = IsNextBy p.live s q × (length (plan_after (entry.Cancelled s q path) (plan_in p.live)) ≤ most_rows)
MayComeBy p paths sessions tree moment (entry.Denied s q why) = IsNextBy p.live s q
MayComeBy p paths sessions tree moment (entry.On s q path) = IsNextBy p.live s q × (length (add_path path paths) ≤ most_paths)
MayComeBy p paths sessions tree moment (entry.Off s q path) = IsNextBy p.live s q
MayComeBy p paths sessions tree moment (entry.Ended s q why rows) = IsTrue (is_live p.live (stamp_of s)) × IsEndNumberBy p.live s q why × (rows ≡ due tree moment (plan_in p.live))

-- ---- a batch

-- the opening of a session that is newer than its client's last one, while this many are open
abbrev pub IsNewerBy : (ClientId → Part) → ℕ → Entry → Type 0
IsNewerBy part sessions (entry.Open s) = IsTrue (comes_after (part s.client).last (stamp_of s)) × (sessions ≤ 1024)
IsNewerBy part sessions _ = ⊥

-- a batch is one entry, or an end and the newer session
abbrev pub MayComeTogetherBy : (ClientId → Part) → (SessionId → List Path) → ℕ → Rows Scalar → ℕ → List Entry → Type 0
MayComeTogetherBy part paths sessions tree moment (e ∷ []) = IsPlain e × MayComeBy (part (session_of e).client) (paths (session_of e)) sessions tree moment e
MayComeTogetherBy part paths sessions tree moment (e ∷ f ∷ []) = Supersedes e f × IsNewerBy part sessions f × MayComeBy (part (session_of e).client) (paths (session_of e)) sessions tree moment e
MayComeTogetherBy part paths sessions tree moment _ = ⊥

-- there is a number left for the end of each open session, after this many entries
abbrev pub LeavesRoomBy : ℕ → ℕ → List Entry → Type 0
LeavesRoomBy number sessions es = number + length es + open_steps es sessions ≤ 2 ^ 52 - 1

-- ---- by the index

-- what the index says of an entry
abbrev pub MayComeOn : Index → ℕ → Entry → Type 0
MayComeOn index moment e = MayComeBy (part_at index (session_of e).client) (paths_at index (session_of e)) (open_count index.places) index.tree moment e

-- what it says of a batch
abbrev pub MayJoinOn : Index → TurnTime → List Entry → Type 0
MayJoinOn index now es = LeavesRoomBy now.number (open_count index.places) es × MayComeTogetherBy (part_at index) (paths_at index) (open_count index.places) index.tree now.moment es
