-- What a batch answers, by the sum before it.
use Rattle.std.specs.Prelude.{ℕ, ◌+◌, List, [], ◌∷◌, ◌++◌, map}
use Rattle.pres_tree.specs.declared.scalar.Scalar.{Scalar}
use Rattle.pres_tree.specs.Rows.{Rows}
use Rattle.pres_wire.specs.declared.down.Down.{Down}
use Rattle.pres_wire.specs.declared.down.Down.TheVariants.{Push}
use Rattle.pres_fan.specs.Listeners.{touched}
use Rattle.pres_log.specs.declared.entry.Entry.{Entry}
use Rattle.pres_log.specs.Logs.{writes_of}
use Rattle.pres_server.specs.Sessions.{session_of}
use Rattle.pres_server.specs.Answering.{shown}
use Rattle.pres_server.specs.InternalParts.{message_next, answer_by}
use Rattle.pres_server.specs.InternalPushes.{TouchedSession}
use Rattle.pres_server.specs.Sums.{Sum, OpenSessions, part_in, sent_by, pushed, carried, sum_after}

-- the Push of entry number z, with what stands at the paths
abbrev pub push_by : ℕ → Rows Scalar → OpenSessions → TouchedSession → List Down
push_by z tree sessions reached = message_next (sent_by reached.0.client sessions) (λ r. Push reached.0 r z (map (shown tree) reached.1))

-- the Pushes to each of them, in order
abbrev pub pushes_by : ℕ → Rows Scalar → OpenSessions → List TouchedSession → List Down
pushes_by z tree sessions [] = []
pushes_by z tree sessions (reached ∷ more) = push_by z tree sessions reached ++ pushes_by z tree (pushed sessions reached) more

-- the Pushes of the entry, with what stands after its writes
abbrev pub entry_pushes : Sum → Entry → List Down
entry_pushes sum e = pushes_by (sum.number + 1) (carried e sum).tree sum.sessions (touched (writes_of e) sum.listeners)

-- the answer to its own session, after the Pushes
abbrev pub own_by : Sum → Entry → List Down
own_by sum e =
    let client = (session_of e).client in
    answer_by (sum.number + 1) e (part_in sum client).rows (sent_by client (carried e sum).sessions) (carried e sum).tree

-- what the entry answers: first the Pushes, then the own answer
abbrev pub answers_to_by : Sum → Entry → List Down
answers_to_by sum e = entry_pushes sum e ++ own_by sum e

-- what the entries of a batch answer, one after another
abbrev pub answers_by : Sum → List Entry → List Down
answers_by sum [] = []
answers_by sum (e ∷ later) = answers_to_by sum e ++ answers_by (sum_after e sum) later
