-- What a hub's core does with the messages of several seats.
use Rattle.std.specs.Prelude.{◌≡◌, ◌+◌, ◌++◌, ℕ, List, [], ◌∷◌, map, take, drop, length, is_ok, if◌then◌else◌, Option, Some, None, Result, Ok, Err, MatchResult}
use Rattle.std.specs.List.{flat_map, list_any}
use Rattle.pres_wire.specs.declared.up.Up.{Up}
use Rattle.pres_server.specs.declared.input.Input.{Input}
use Rattle.pres_server.specs.declared.input.Input.TheVariants as input
use Rattle.pres_server.specs.SumStates.{SumState}
use Rattle.pres_server.specs.Histories.{History}
use Rattle.pres_ring.specs.Lines.{Lines}
use Rattle.pres_keeper.specs.Engines.{Runs}
use Rattle.pres_keeper.specs.EngineGroups.{TurnPart, inputs_in}
use Rattle.pres_dispatch.specs.Dispatches.{Histories, AreEnded, histories_ended}
use Rattle.pres_dispatch.specs.Groups.{Turned, ArePartsPut, AreTurned, histories_all}
use Rattle.pres_accounting.specs.Seats.{SeatState}
use Rattle.pres_faults.specs.declared.hub_fault.HubFault.{HubFault}
use Rattle.pres_faults.specs.declared.hub_fault.HubFault.TheVariants as why
use Rattle.pres_faults.specs.HubFaults.{of_engine}
use Rattle.pres_hub.specs.declared.center.Said.{Said}
use Rattle.pres_hub.specs.Cores.{CoreState, AreCoreHistories}
use Rattle.pres_hub.specs.CoreTurns.{CarriesOn, StandsStill}
use Rattle.pres_hub.specs.CoreCalls.{IsTaken, accepted_of, IsSayAnswered, IsSayRefused}

-- what a message is answered, or why it isn't
abbrev pub Outcome : Type 0
Outcome = Result Said HubFault

-- a seat, and its messages in their order
pub record RequestState : Type 0 where
  pub seat : SeatState
  pub messages : List Up

-- the seat after its messages, and what each of them was answered
pub record AnswerState : Type 0 where
  pub seat : SeatState
  pub said : List Outcome

-- all messages, one request after another
abbrev pub messages_of : List RequestState → List Up
messages_of requests = flat_map (λ r. r.messages) requests

-- the inputs that they are
abbrev pub inputs_of : List RequestState → List Input
inputs_of requests = map input.Up (messages_of requests)

-- ---- one message

-- the message is answered, or refused with seat, counts and lines as they were
abbrev pub IsSaid : {A : Type 0} → SeatState → Up → Outcome → SeatState → ℕ → CoreState A → CoreState A → Type 0
IsSaid seat m said after now old new =
    MatchResult said
    (λ answer. (answer.number ≡ new.run.number) × IsSayAnswered m now old.run.server new.run.server old.lines new.lines old.run.number answer.number seat after old.counts new.counts)
    (λ e. IsSayRefused seat m old.run.number now old.run.server new.run.server e × (new.counts ≡ old.counts) × (after ≡ seat) × (new.run.number ≡ old.run.number) × (new.lines ≡ old.lines))
    × (new.start ≡ old.start)

-- and histories that stood go on as it makes them
abbrev pub IsSaidOn : {A : Type 0} → (A → Type 0) → (A → History → Type 0) → SeatState → Up → Outcome → SeatState → ℕ → CoreState A → CoreState A → Type 0
IsSaidOn works keeps seat m said after now old new =
    IsSaid seat m said after now old new × MatchResult said (λ answer. CarriesOn works keeps (input.Up m) now old new) (λ e. StandsStill works keeps old new)

-- the messages of a seat, one after another, each by itself
abbrev pub AreSaidAlone : {A : Type 0} → (A → Type 0) → (A → History → Type 0) → SeatState → List Up → List Outcome → SeatState → ℕ → CoreState A → CoreState A → Type 0
AreSaidAlone works keeps seat [] [] after now old new = (after ≡ seat) × (new ≡ old)
AreSaidAlone {A} works keeps seat (m ∷ ms) (said ∷ later) after now old new =
    (next : SeatState) × (middle : CoreState A) × IsSaidOn works keeps seat m said next now old middle × AreSaidAlone works keeps next ms later after now middle new
AreSaidAlone works keeps seat _ _ after now old new = ⊥

-- ---- messages whose turns share commits

-- where each of the turns begins: the server after the turns before it
abbrev pub places : (parts : List TurnPart) (now : ℕ) (old new : Option SumState) (before after : Lines) → ArePartsPut parts now old new before after → List (Option SumState)
places [] now old new before after put = []
places (part ∷ later) now old new before after put = map (λ _. old) (inputs_in part) ++ places later now put.0 new put.1 after put.3

abbrev pub places_in : {inputs : List Input} {turned : List Turned} {now : ℕ} {old new : Option SumState} {before after : Lines} → AreTurned inputs turned now old new before after → List (Option SumState)
places_in {inputs} {turned} {now} {old} {new} {before} {after} all = places all.parts now old new before after all.put

-- A server that runs takes the seat's message.
abbrev pub IsTakenBy : SeatState → Up → SumState → Type 0
IsTakenBy seat m s = IsTaken seat m (Some s) s.sum.number

-- the seat after a message whose turn began at this server: where the server accepted it, it has one more
abbrev pub seat_after : ℕ → SeatState → Up → Option SumState → Turned → SeatState
seat_after now seat m place (Ok told) = record { session = seat.session; q = seat.q + accepted_of place m now; seen = seat.seen; made = seat.made + accepted_of place m now }
seat_after now seat m place (Err f) = seat

-- what it is answered, by what its turn came to
abbrev pub outcome_of : ℕ → Turned → Outcome
outcome_of number (Ok told) = Ok (record { number = number })
outcome_of number (Err f) = Err (of_engine f)

-- the seat notes the number, where any of these messages is answered
abbrev pub noted : ℕ → List Outcome → SeatState → SeatState
noted number said seat = if list_any is_ok said then (record { session = seat.session; q = seat.q; seen = number; made = seat.made }) else seat

-- The messages of a seat, each with where its turn began and what that came to: the message is taken at its place, unless the
-- server is down by then, by the seat as the messages before it leave it.
abbrev pub AreHeard : ℕ → SeatState → List Up → List (Option SumState) → List Turned → SeatState → Type 0
AreHeard now seat [] [] [] after = after ≡ seat
AreHeard now seat (m ∷ ms) (place ∷ places) (t ∷ turned) after = Runs (IsTakenBy seat m) place × AreHeard now (seat_after now seat m place t) ms places turned after
AreHeard now seat _ _ _ after = ⊥

-- A request is answered, by where the turns of its messages began and what they came to. The seat notes the number only
-- then.
pub record IsAnsweredSo (now number : ℕ) (r : RequestState) (places : List (Option SumState)) (turned : List Turned) (a : AnswerState) : Type 0 where
  pub seat : SeatState
  pub heard : AreHeard now r.seat r.messages places turned seat
  pub said : a.said ≡ map (outcome_of number) turned
  pub seat_is : a.seat ≡ noted number a.said seat

-- Each request is answered: the first of the places and turns are those of its messages, the others those of later requests.
abbrev pub AreAnswered : ℕ → ℕ → List RequestState → List (Option SumState) → List Turned → List AnswerState → Type 0
AreAnswered now number [] [] [] [] = Unit {0}
AreAnswered now number (r ∷ rs) places turned (a ∷ answers) =
    IsAnsweredSo now number r (take (length r.messages) places) (take (length r.messages) turned) a
    × AreAnswered now number rs (drop (length r.messages) places) (drop (length r.messages) turned) answers
AreAnswered now number _ _ _ _ = ⊥

-- how many of these messages were accepted
abbrev pub accepted_all : ℕ → List Up → List (Option SumState) → List Turned → ℕ
accepted_all now (m ∷ ms) (place ∷ places) (Ok told ∷ turned) = accepted_of place m now + accepted_all now ms places turned
accepted_all now (m ∷ ms) (place ∷ places) (Err f ∷ turned) = accepted_all now ms places turned
accepted_all now _ _ _ = 0

-- The turns of the messages are done, one after another, and their answers put on the lines; then each session whose line
-- is slow is ended. The number that is answered is the last of all of these.
pub record AreSaidTogether {A : Type 0} (requests : List RequestState) (answers : List AnswerState) (now : ℕ) (old new : CoreState A) : Type 0 where
  pub middle : Option SumState
  pub lines : Lines
  pub turned : List Turned
  pub all : AreTurned (inputs_of requests) turned now old.run.server middle old.lines lines
  pub ended : AreEnded now middle new.run.server lines new.lines
  pub each : AreAnswered now new.run.number requests (places_in all) turned answers
  pub counts_are : new.counts ≡ record old.counts { accepted = old.counts.accepted + accepted_all now (messages_of requests) (places_in all) turned }
  pub start_is : new.start ≡ old.start

-- the histories with the batches of the turns, and with the ends of slow sessions
abbrev pub histories_together : {A : Type 0} {requests : List RequestState} {answers : List AnswerState} {now : ℕ} {old new : CoreState A} → Histories → AreSaidTogether requests answers now old new → Histories
histories_together histories said = histories_ended (histories_all histories said.all) said.ended

-- ---- requests one after another

-- A part of them: the messages of a request, each by itself; messages together; or requests for which memory was refused.
pub data SayPart : Type 0 where
  alone : RequestState → AnswerState → SayPart
  together : List RequestState → List AnswerState → SayPart
  unheard : List RequestState → SayPart

abbrev pub requests_in : SayPart → List RequestState
requests_in (alone r a) = r ∷ []
requests_in (together rs answers) = rs
requests_in (unheard rs) = rs

-- memory was refused for each of the messages, and the seat is as it was
abbrev pub unheard_answer : RequestState → AnswerState
unheard_answer r = record { seat = r.seat; said = map (λ _. Err why.Memory) r.messages }

abbrev pub answers_in : SayPart → List AnswerState
answers_in (alone r a) = a ∷ []
answers_in (together rs answers) = answers
answers_in (unheard rs) = map unheard_answer rs

-- what a part does, and that histories that stood go on as it makes them
abbrev pub IsSaidPart : {A : Type 0} → (A → Type 0) → (A → History → Type 0) → SayPart → ℕ → CoreState A → CoreState A → Type 0
IsSaidPart works keeps (alone r a) now old new = AreSaidAlone works keeps r.seat r.messages a.said a.seat now old new
IsSaidPart works keeps (together rs answers) now old new =
    AreSaidTogether rs answers now old new
    × ((histories : Histories) → AreCoreHistories works keeps histories old → (said : AreSaidTogether rs answers now old new) × AreCoreHistories works keeps (histories_together histories said) new)
IsSaidPart works keeps (unheard rs) now old new = new ≡ old

-- one after another
abbrev pub AreSaidParts : {A : Type 0} → (A → Type 0) → (A → History → Type 0) → List SayPart → ℕ → CoreState A → CoreState A → Type 0
AreSaidParts works keeps [] now old new = new ≡ old
AreSaidParts {A} works keeps (part ∷ later) now old new = (middle : CoreState A) × IsSaidPart works keeps part now old middle × AreSaidParts works keeps later now middle new

-- the messages of the requests are said in their order, each judged by the state after those before it, with the answers
pub record AreSaid {A : Type 0} (works : A → Type 0) (keeps : A → History → Type 0) (requests : List RequestState) (answers : List AnswerState) (now : ℕ) (old new : CoreState A) : Type 0 where
  pub parts : List SayPart
  pub in_order : requests ≡ flat_map requests_in parts
  pub each : answers ≡ flat_map answers_in parts
  pub said : AreSaidParts works keeps parts now old new

-- the first of the requests are said, whose answers are added to those before; the others are left
pub record AreSaidFirst {A : Type 0} (works : A → Type 0) (keeps : A → History → Type 0) (requests : List RequestState) (before : List AnswerState) (now : ℕ) (old new : CoreState A) (left : List RequestState) (after : List AnswerState) : Type 0 where
  pub taken : List RequestState
  pub answers : List AnswerState
  pub queue : requests ≡ taken ++ left
  pub told : after ≡ before ++ answers
  pub said : AreSaid works keeps taken answers now old new
