-- What writes send to the sessions that they touch, one after another, as plain data.
use Rattle.std.specs.Prelude.{ℕ, List, [], ◌∷◌, ◌++◌, map, fold, Option, if◌then◌else◌}
use Rattle.std.specs.BTreeMap.{get}
use Rattle.std.specs.List.Sorted.{IsStrictlySortedBy}
use Rattle.pres_tree.specs.declared.scalar.Scalar.{Scalar}
use Rattle.pres_tree.specs.Paths.{Path, path_cmp}
use Rattle.pres_tree.specs.Rows.{Rows}
use Rattle.pres_ids.specs.declared.id.SessionId.{SessionId}
use Rattle.pres_wire.specs.declared.down.Down.{Down}
use Rattle.pres_wire.specs.declared.down.Down.TheVariants.{Push}
use Rattle.pres_ids.specs.Ids.{ClientId, client_cmp, same_client}
use Rattle.pres_server.specs.declared.client_sessions.ClientSessions.{ClientSessions}
use Rattle.pres_server.specs.Answering.{shown}
use Rattle.pres_server.specs.InternalParts.{message_next}
use Rattle.pres_server.specs.InternalSessions.{Session, sent_to, sent_one, MaySend}

-- a session with those of its paths that are touched
abbrev pub TouchedSession : Type 0
TouchedSession = SessionId × List Path

-- the open session of each client
abbrev pub Standing : Type 0
Standing = ClientId → Option Session

abbrev pub standing : ClientSessions → Standing
standing places = λ client. get client_cmp places.live client

-- after a Push to the session
abbrev pub after_push : Standing → TouchedSession → Standing
after_push live reached = λ client. if same_client reached.0.client client then sent_one (live client) else live client

-- after a Push to each of them
abbrev pub after_pushes : Standing → List TouchedSession → Standing
after_pushes live reached = fold after_push live reached

-- the Push of entry number z, with what stands at the paths
abbrev pub push_to : ℕ → Rows Scalar → Standing → TouchedSession → List Down
push_to z tree live reached = message_next (sent_to (live reached.0.client)) (λ r. Push reached.0 r z (map (shown tree) reached.1))

-- the Pushes to each of them, in order
abbrev pub pushes : ℕ → Rows Scalar → Standing → List TouchedSession → List Down
pushes z tree live [] = []
pushes z tree live (r ∷ more) = push_to z tree live r ++ pushes z tree (after_push live r) more

-- the session has a number left, and its paths are in order
pub record MayPush (live : Standing) (reached : TouchedSession) : Type 0 where
  pub number : MaySend (live reached.0.client)
  pub order : IsStrictlySortedBy path_cmp reached.1

-- each of them may be sent a Push when those before it were
abbrev pub MayPushAll : Standing → List TouchedSession → Type 0
MayPushAll live [] = Unit {0}
MayPushAll live (r ∷ more) = MayPush live r × MayPushAll (after_push live r) more
