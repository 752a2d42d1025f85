-- An index that says what the entries of a log say, and the entries that it takes in.
use Rattle.std.specs.Prelude.{ℕ, ◌≡◌, IsTrue, List, [], ◌∷◌, ◌++◌, ◌<◌, ◌+◌, ◌^◌, length, if◌then◌else◌}
use Rattle.pres_log.specs.declared.entry.Entry.{Entry}
use Rattle.pres_log.specs.declared.entry.Entry.TheVariants as entry
use Rattle.pres_log.specs.Logs.{Log, entries, last_moment, tree}
use Rattle.std.specs.BTreeMap.{IsOrdered}
use Rattle.pres_ids.specs.Ids.{client_cmp, ClientId}
use Rattle.pres_ids.specs.declared.id.SessionId.{SessionId}
use Rattle.pres_fan.specs.Listeners.{IsListeners}
use Rattle.pres_server.specs.declared.index.Index.{Index}
use Rattle.pres_server.specs.InternalIndex.{part_at, sent_at, paths_at}
use Rattle.pres_history.specs.Sessions.{is_newest, open_sessions_of, is_open}
use Rattle.pres_history.specs.LegalLog.{MayCome, IsLegal}
use Rattle.pres_history.specs.InternalParts.{Sound, part_of, sent_of}
use Rattle.pres_history.specs.Listening.{listened}

-- the index says what the entries say
pub record Indexed (es : List Entry) (index : Index) : Type 0 where
  pub parts : (c : ClientId) → part_at index c ≡ part_of c es
  pub sent : (c : ClientId) → sent_at index c ≡ sent_of c es
  pub listens : (s : SessionId) → paths_at index s ≡ (if is_open s es then listened s es else [])
  pub held : IsListeners index.listeners
  pub tree : index.tree ≡ tree es

-- what the log asks of an entry, but for the limit on open sessions
abbrev pub MayComeUncounted : List Entry → ℕ → Entry → Type 0
MayComeUncounted before moment (entry.Open s) = IsTrue (is_newest s before) × (open_sessions_of s.client before ≡ [])
MayComeUncounted before moment e = MayCome before moment e

-- each of them, one after another
abbrev pub MayComeInTurn : List Entry → ℕ → List Entry → Type 0
MayComeInTurn es m [] = Unit {0}
MayComeInTurn es m (e ∷ more) = MayComeUncounted es m e × MayComeInTurn (es ++ e ∷ []) m more

-- entries that may come one after another, from entry number z on, after those of a sound log
pub record MayTakeAll (es : List Entry) (z moment : ℕ) (more : List Entry) (index : Index) : Type 0 where
  pub indexed : Indexed es index
  pub sound : Sound es
  pub next : z ≡ length es + 1
  pub in_turn : MayComeInTurn es moment more
  pub room : length es + length more < 2 ^ 52

-- ---- what holds of an index

pub record ServerInvariant (log : Log) (moment : ℕ) (index : Index) : Type 0 where
  pub legal : IsLegal log
  pub indexed : Indexed (entries log) index
  pub last : moment ≡ last_moment log
  pub ordered : IsOrdered client_cmp index.places.live
