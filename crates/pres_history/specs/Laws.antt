-- What holds of every legal log and of every turn.
use Rattle.std.specs.Prelude.{◌≡◌, ◌+◌, ◌&&◌, ◌||◌, ℕ, Bool, false, not, List, [], ◌∷◌, ◌++◌, length, take, IsTrue, Option, Some}
use Rattle.std.specs.List.{list_any, AllByRecursion}
use Rattle.pres_tree.specs.declared.scalar.Scalar.{Scalar}
use Rattle.pres_tree.specs.Paths.{Path, same_path}
use Rattle.pres_tree.specs.Rows.{Rows, value_at}
use Rattle.pres_ids.specs.declared.id.SessionId.{SessionId}
use Rattle.pres_wire.specs.declared.down.Down.{Down}
use Rattle.pres_wire.specs.declared.down.Down.TheVariants.{Snap}
use Rattle.pres_ids.specs.Ids.{same_session}
use Rattle.pres_wire.specs.Messages.{number_in}
use Rattle.pres_ids.specs.declared.id.Why.{Why}
use Rattle.pres_write.specs.declared.basic.Basic.{Basic}
use Rattle.pres_log.specs.declared.entry.Batch.{Batch}
use Rattle.pres_log.specs.declared.entry.Entry.{Entry}
use Rattle.pres_log.specs.declared.entry.Entry.TheVariants as entry
use Rattle.pres_log.specs.Logs.{Log, entries, tree}
use Rattle.pres_wire.specs.Views.{value_told, seen_in}
use Rattle.pres_server.specs.declared.input.Input.{Input}
use Rattle.pres_history.specs.ServerStates.{ServerState}
use Rattle.pres_history.specs.Sessions.{is_open, own}
use Rattle.pres_history.specs.Listening.{listened}
use Rattle.pres_history.specs.SessionPlans.{due_at}
use Rattle.pres_history.specs.Streams.{stream, sent_for, numbered_from}
use Rattle.pres_history.specs.LegalLog.{IsLegal}
use Rattle.pres_history.specs.Turns.{moment_of, turn, log_after}
use Rattle.pres_history.specs.InternalParts.{Sound}

-- A turn on a legal log leaves a legal log.
abbrev pub TurnIsLegal : ServerState → Input → ℕ → Type 0
TurnIsLegal state input now = IsLegal state.log → IsLegal (log_after state.log (moment_of state.log now) (turn state input now))

-- After a legal log a client has at most one open session, and its last one is its newest.
abbrev pub LegalIsSound : Log → Type 0
LegalIsSound log = IsLegal log → Sound (entries log)

-- An entry adds to the stream of an open session what it sends to it, numbered on.
abbrev pub StreamSteps : SessionId → List Entry → Entry → Type 0
StreamSteps s es e = IsTrue (is_open s es) → stream s (es ++ e ∷ []) ≡ stream s es ++ numbered_from (length (stream s es) + 1) (sent_for s (es ++ e ∷ []) e)

-- Later entries take nothing from a stream and change nothing in it.
abbrev pub StreamGrows : SessionId → List Entry → List Entry → Type 0
StreamGrows s es later = (rest : List Down) × (stream s es ++ rest ≡ stream s (es ++ later))

-- What an ended session wrote was due by its puts and cancels, on the tree before its end, at the moment of the end.
abbrev pub EndsAreDue : Log → Batch → Log → Type 0
EndsAreDue earlier batch later =
    IsLegal (earlier ++ batch ∷ later) → (s : SessionId) (q : Option ℕ) (why : Why) (rows : List Basic) (more : List Entry) →
    batch.entries ≡ entry.Ended s q why rows ∷ more → rows ≡ due_at (entries earlier) batch.moment s

-- The value that a message of a stream tells of a path is the value there after as many entries as its number says.
abbrev pub TellsTheTree : Path → List Entry → Down → Type 0
TellsTheTree p es m = (value : Rows Scalar) → value_told p m ≡ Some value → value ≡ value_at p (tree (take (number_in m) es))

abbrev pub StreamTells : SessionId → Path → List Entry → Type 0
StreamTells s p es = AllByRecursion (TellsTheTree p es) (stream s es)

-- by the entry s listens to p no more
abbrev pub unlistens : SessionId → Path → Entry → Bool
unlistens s p (entry.Off t q path) = same_session s t && same_path path p
unlistens s p _ = false

-- the Snap that answers an On of p by message q of s
abbrev pub snap_of : SessionId → ℕ → Path → List Entry → Down
snap_of s q p before = let now = before ++ entry.On s q p ∷ [] in Snap s (length (stream s before) + 1) (length now) q p (value_at p (tree now))

-- the messages from that Snap on, and what is seen of p after any number of them
pub record ViewIsTrue (s : SessionId) (q : ℕ) (p : Path) (before later : List Entry) : Type 0 where
  pub rest : List Down
  pub sent : stream s (before ++ entry.On s q p ∷ later) ≡ stream s before ++ (snap_of s q p before ∷ rest)
  pub seen : (k : ℕ) → (z : ℕ) × (seen_in p (snap_of s q p before ∷ take k rest) ≡ Some (z, value_at p (tree (take z (before ++ entry.On s q p ∷ later)))))

-- From the Snap that answers an On, with no later Off of its path, each view is the value at its own number.
abbrev pub ViewsAreTrue : SessionId → ℕ → Path → List Entry → List Entry → Type 0
ViewsAreTrue s q p before later = IsTrue (is_open s before) → list_any (unlistens s p) later ≡ false → ViewIsTrue s q p before later

-- the entry is an On of p
abbrev pub is_on : Path → Entry → Bool
is_on p (entry.On t q path) = same_path path p
is_on p _ = false

-- the entry is an Off of p
abbrev pub is_off : Path → Entry → Bool
is_off p (entry.Off t q path) = same_path path p
is_off p _ = false

-- an On of p with no later Off of it
abbrev pub has_lasting_on : Path → List Entry → Bool
has_lasting_on p [] = false
has_lasting_on p (e ∷ later) = (is_on p e && not (list_any (is_off p) later)) || has_lasting_on p later

-- A session listens to a path exactly where its own entries have an On of it with no later Off of it.
abbrev pub ListensByOns : SessionId → Path → List Entry → Type 0
ListensByOns s p es = list_any (same_path p) (listened s es) ≡ has_lasting_on p (own s es)
