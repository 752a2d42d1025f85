-- What the messages show that begin a transcript: each comes in its turn, and tells what stood in the tree.
use Rattle.std.specs.Prelude.{◌≡◌, ◌+◌, ◌-◌, ℕ, List, [], ◌∷◌, take, Option, Some, None}
use Rattle.std.specs.List.{AllByRecursion}
use Rattle.pres_tree.specs.declared.scalar.Scalar.{Scalar}
use Rattle.pres_tree.specs.Paths.{Path}
use Rattle.pres_tree.specs.Rows.{Rows, value_at}
use Rattle.pres_write.specs.Basics.{applied}
use Rattle.pres_ids.specs.declared.id.SessionId.{SessionId}
use Rattle.pres_wire.specs.declared.down.Down.{Down}
use Rattle.pres_wire.specs.declared.down.Down.TheVariants as down
use Rattle.pres_wire.specs.Messages.{number_in}
use Rattle.pres_wire.specs.Views.{value_told}
use Rattle.pres_log.specs.declared.entry.Entry.{Entry}
use Rattle.pres_log.specs.Logs.{entries, writes_of}
use Rattle.pres_server.specs.Histories.{History}
use Rattle.pres_ring.specs.Transcripts.{IsWelcome}
use Rattle.pres_ring.specs.HistoryTranscripts.{BeginsTranscriptIn}

-- the number of a message to a session; a Welcome and a Fault have none
abbrev pub r_in : Down → Option ℕ
r_in (down.Welcome s z ops) = None
r_in (down.Reply s r z q n done out) = Some r
r_in (down.Gone s r z why) = Some r
r_in (down.Fault session code) = None
r_in (down.Armed s r z q) = Some r
r_in (down.Denied s r z q limit) = Some r
r_in (down.Snap s r z q p v) = Some r
r_in (down.Push s r z vs) = Some r
r_in (down.OffDone s r z q) = Some r

-- the first of the messages has this number, and each later one the next
abbrev pub AreNumbered : ℕ → List Down → Type 0
AreNumbered r [] = Unit {0}
AreNumbered r (m ∷ more) = (r_in m ≡ Some r) × AreNumbered (r + 1) more

-- the Welcome of s, and then messages that are numbered from 1
abbrev pub ComeInOrder : SessionId → List Down → Type 0
ComeInOrder s [] = Unit {0}
ComeInOrder s (m ∷ more) = IsWelcome s m × AreNumbered 1 more

-- the tree after the entries
abbrev pub tree_with : Rows Scalar → List Entry → Rows Scalar
tree_with tree [] = tree
tree_with tree (e ∷ later) = tree_with (applied tree (writes_of e)) later

-- the tree once the server's number was z
abbrev pub tree_at : ℕ → History → Rows Scalar
tree_at z history = tree_with history.base.tree (take (z - history.base.number) (entries history.log))

-- the value that the message tells of the path, if it does, stood there at the message's number
abbrev pub TellsTheTreeIn : Path → History → Down → Type 0
TellsTheTreeIn p history m = (value : Rows Scalar) → value_told p m ≡ Some value → value ≡ value_at p (tree_at (number_in m) history)

-- What begins a transcript comes in order.
abbrev pub TakenInOrder : SessionId → List Down → Type 0
TakenInOrder s xs = BeginsTranscriptIn s xs → ComeInOrder s xs

-- Each message of it tells what stood in the tree of that history.
abbrev pub TakenTellsTheTree : SessionId → Path → List Down → Type 0
TakenTellsTheTree s p xs = (begins : BeginsTranscriptIn s xs) → AllByRecursion (TellsTheTreeIn p begins.history) xs
