-- Requests that are carried out together.
use Rattle.std.specs.Prelude.{◌≡◌, ◌+◌, ◌++◌, ◌<◌, ◌≤◌, ℕ, Bool, true, false, List, [], ◌∷◌, map, take, drop, length, replicate, Result, Ok, Err}
use Rattle.std.specs.List.{AllByRecursion}
use Rattle.pres_ids.specs.Ids.{same_session}
use Rattle.pres_ids.specs.Numbers.{greatest_number}
use Rattle.pres_server.specs.declared.input.Input.{Input}
use Rattle.pres_dispatch.specs.Groups.{Turned}
use Rattle.pres_keeper.specs.Engines.{EngineState}
use Rattle.pres_accounting.specs.Seats.{SeatState}
use Rattle.pres_faults.specs.declared.hub_fault.HubFault.TheVariants.{Memory}
use Rattle.pres_hub.specs.CoreCalls.{IsTaken}
use Rattle.pres_hub.specs.CoreGroups.{RequestState, AnswerState, inputs_of, outcome_of, noted}

-- a seat, and how many messages of it wait
pub record WaitingState : Type 0 where
  pub seat : SeatState
  pub count : ℕ

abbrev pub waits : RequestState → WaitingState
waits r = record { seat = r.seat; count = length r.messages }

abbrev pub waiting_of : List RequestState → List WaitingState
waiting_of rs = map waits rs

-- no seat is the session's of another one after it
abbrev pub AreApart : List RequestState → Type 0
AreApart [] = Unit {0}
AreApart (r ∷ rs) = AllByRecursion (λ t. same_session t.seat.session r.seat.session ≡ false) rs × AreApart rs

-- a server takes each of the messages of a request, of which there are some
pub record FitsIn {A : Type 0} (run : EngineState A) (r : RequestState) : Type 0 where
  pub taken : AllByRecursion (λ m. IsTaken r.seat m run.server run.number) r.messages
  pub some : 0 < length r.messages

-- so it is with each request, and they are of different sessions
pub record FitTogether {A : Type 0} (run : EngineState A) (rs : List RequestState) : Type 0 where
  pub each : AllByRecursion (FitsIn run) rs
  pub apart : AreApart rs

-- the seats and the inputs are those of such requests
abbrev pub AreFit : {A : Type 0} → EngineState A → List WaitingState → List Input → Type 0
AreFit run waiting inputs = (rs : List RequestState) × (waiting ≡ waiting_of rs) × (inputs ≡ inputs_of rs) × FitTogether run rs

-- the first of the requests fit together, and are taken apart; the others are left
pub record Gathers {A : Type 0} (run : EngineState A) (requests left : List RequestState) (waiting : List WaitingState) (inputs : List Input) : Type 0 where
  pub taken : List RequestState
  pub queue : requests ≡ taken ++ left
  pub waiting_are : waiting ≡ waiting_of taken
  pub inputs_are : inputs ≡ inputs_of taken
  pub fit : FitTogether run taken

-- one where it is so
abbrev pub one_if : Bool → ℕ
one_if true = 1
one_if false = 0

-- how many turns answer anything
abbrev pub told_in : List Turned → ℕ
told_in [] = 0
told_in (Ok told ∷ ts) = one_if told + told_in ts
told_in (Err f ∷ ts) = told_in ts

-- a seat after a message, by what its turn came to: it was accepted where that answers anything
abbrev pub seat_by : SeatState → Turned → SeatState
seat_by seat (Ok told) = record { session = seat.session; q = seat.q + one_if told; seen = seat.seen; made = seat.made + one_if told }
seat_by seat (Err f) = seat

abbrev pub seat_from : SeatState → List Turned → SeatState
seat_from seat [] = seat
seat_from seat (t ∷ ts) = seat_from (seat_by seat t) ts

-- what a seat's messages are answered, by what their turns came to
abbrev pub answer_of : ℕ → SeatState → List Turned → AnswerState
answer_of number seat ts = record { seat = noted number (map (outcome_of number) ts) (seat_from seat ts); said = map (outcome_of number) ts }

-- so it is with each seat, of which the first of the turns are
abbrev pub answers_of : ℕ → List WaitingState → List Turned → List AnswerState
answers_of number [] ts = []
answers_of number (w ∷ ws) ts = answer_of number w.seat (take w.count ts) ∷ answers_of number ws (drop w.count ts)

-- a seat with this many messages has a number for each that is accepted
abbrev pub FitIn : ℕ → List Turned → Type 0
FitIn q [] = Unit {0}
FitIn q (Ok told ∷ ts) = (told ≡ true → q < greatest_number) × FitIn (q + one_if told) ts
FitIn q (Err f ∷ ts) = FitIn q ts

-- so it is with each seat, and these are all turns
abbrev pub AllFit : List WaitingState → List Turned → Type 0
AllFit [] ts = ts ≡ []
AllFit (w ∷ ws) ts = (w.count ≤ length ts) × FitIn w.seat.q (take w.count ts) × AllFit ws (drop w.count ts)

-- memory is refused for each of a seat's messages
abbrev pub unheard_of : WaitingState → AnswerState
unheard_of w = record { seat = w.seat; said = replicate w.count (Err Memory) }
