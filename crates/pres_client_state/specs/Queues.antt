-- Messages that wait for their answers, and what is noted of them.
use Rattle.std.specs.Prelude.{◌+◌, ℕ, Bool, true, false, List, [], ◌∷◌, ◌++◌, Option, Some, None, if◌then◌else◌}
use Rattle.std.specs.List.{filter_map}
use Rattle.pres_tree.specs.Paths.{Path, same_path}
use Rattle.pres_write.specs.declared.op.Op.TheVariants as op
use Rattle.pres_ids.specs.declared.id.SessionId.{SessionId}
use Rattle.pres_wire.specs.declared.down.Code.{Code}
use Rattle.pres_wire.specs.declared.up.Up.{Up}
use Rattle.pres_wire.specs.declared.up.Up.TheVariants as up
use Rattle.pres_client_state.specs.declared.queued.Queued.{Queued}
use Rattle.pres_client_state.specs.declared.queued.Queued.TheVariants as queued
use Rattle.pres_client_state.specs.declared.notice.Notice.{Notice}
use Rattle.pres_client_state.specs.declared.notice.Notice.TheVariants as notice

-- a write, or a try of a transaction
abbrev pub is_write : Queued → Bool
is_write (queued.Write k o) = true
is_write (queued.Try k attempt t) = true
is_write (queued.Left k o) = false
is_write (queued.Cancel k p) = false
is_write (queued.On k p) = false
is_write (queued.Off p) = false

-- listens to the path
abbrev pub is_on : Path → Queued → Bool
is_on p (queued.Write k o) = false
is_on p (queued.Try k attempt t) = false
is_on p (queued.Left k o) = false
is_on p (queued.Cancel k x) = false
is_on p (queued.On k x) = same_path x p
is_on p (queued.Off x) = false

-- the message with its numbers
abbrev pub message : SessionId → ℕ → ℕ → Queued → Up
message s q n (queued.Write k o) = up.Op s q n o
message s q n (queued.Try k attempt t) = up.Op s q n (op.Tx t)
message s q n (queued.Left k o) = up.Left s q o
message s q n (queued.Cancel k p) = up.Cancel s q p
message s q n (queued.On k p) = up.On s q p
message s q n (queued.Off p) = up.Off s q p

-- the number of the next write, after the message
abbrev pub next_write : ℕ → Queued → ℕ
next_write n m = if is_write m then n + 1 else n

-- the messages with their numbers, from q and n on
abbrev pub messages : SessionId → ℕ → ℕ → List Queued → List Up
messages s q n [] = []
messages s q n (m ∷ ms) = message s q n m ∷ messages s (q + 1) (next_write n m) ms

abbrev pub count_writes : List Queued → ℕ
count_writes [] = 0
count_writes (m ∷ ms) = next_write (count_writes ms) m

-- the actions for the end of the session, and the cancels, that have no answer
abbrev pub lost_action : Queued → Option Notice
lost_action (queued.Write k o) = None
lost_action (queued.Try k attempt t) = None
lost_action (queued.Left k o) = Some (notice.ActionLost k)
lost_action (queued.Cancel k p) = Some (notice.ActionLost k)
lost_action (queued.On k p) = None
lost_action (queued.Off p) = None

-- the request of such a message
abbrev pub action_of : Queued → Option ℕ
action_of (queued.Write k o) = None
action_of (queued.Try k attempt t) = None
action_of (queued.Left k o) = Some k
action_of (queued.Cancel k p) = Some k
action_of (queued.On k p) = None
action_of (queued.Off p) = None

abbrev pub faulted : Option Code → List Notice
faulted None = []
faulted (Some reason) = notice.Faulted reason ∷ []

-- what is noted when a session is left, with the fault that ends it
abbrev pub farewell : Option Code → List Queued → List Notice
farewell fault ms = notice.Connected false ∷ (filter_map lost_action ms ++ faulted fault)
