-- What happens while a client is driven: what it is asked for, and what is printed.
use Rattle.std.specs.Prelude.{◌≡◌, ⊤, List, [], ◌∷◌, ◌++◌, Option, Some, None}
use Rattle.std.specs.Io.KnownBytes.{Appends}
use Rattle.pres_client.specs.declared.call.Call.{Call}
use Rattle.pres_client.specs.Clients.{ClientState, unanswered}
use Rattle.pres_client.specs.Calls.{refusal}
use Rattle.pres_client.specs.Steps.{ClientStep, calls, receives, hands_out_sends, hands_out_notices, after, run, AreMessages}
use Rattle.pres_script.specs.declared.line.Line.{Line}
use Rattle.pres_script.specs.declared.line.Line.TheVariants as line
use Rattle.pres_script.specs.NoticeTexts.{Text, line_of, refusal_text, refusal_line, notice_lines}

-- a step of the client, or a line whose JSON or path is refused
pub data DriveEvent : Type 0 where
  does : ClientStep → DriveEvent
  refuses : DriveEvent

-- the steps among the events
abbrev pub steps_of : List DriveEvent → List ClientStep
steps_of [] = []
steps_of (does s ∷ events) = s ∷ steps_of events
steps_of (refuses ∷ events) = steps_of events

-- what lines ask for, in their order: a call, or none where it is refused
abbrev pub asked_in : List Line → List (Option Call)
asked_in [] = []
asked_in (line.Call k ∷ lines) = Some k ∷ asked_in lines
asked_in (line.Refused ∷ lines) = None ∷ asked_in lines
asked_in (line.Wait count ∷ lines) = asked_in lines

-- what was asked for among the events, in their order
abbrev pub asked_of : List DriveEvent → List (Option Call)
asked_of [] = []
asked_of (does (calls k) ∷ events) = Some k ∷ asked_of events
asked_of (does (receives m) ∷ events) = asked_of events
asked_of (does hands_out_sends ∷ events) = asked_of events
asked_of (does hands_out_notices ∷ events) = asked_of events
asked_of (refuses ∷ events) = None ∷ asked_of events

-- what is printed for a step: why a call is refused, and the client's notices that are handed out
abbrev pub printed : ClientState → ClientStep → Text
printed c (calls k) = refusal_line (refusal c k)
printed c (receives m) = []
printed c hands_out_sends = []
printed c hands_out_notices = notice_lines c.notices

-- what is printed of the events, from this state on; JSON or a path that is refused has the number 5
abbrev pub printed_of : ClientState → List DriveEvent → Text
printed_of c [] = []
printed_of c (does s ∷ events) = printed c s ++ printed_of (after c s) events
printed_of c (refuses ∷ events) = line_of (refusal_text 5) ++ printed_of c events

-- nothing waits for an answer, to be sent or to be printed
pub record IsSettled (c : ClientState) : Type 0 where
  pub answered : unanswered c ≡ 0
  pub sent : c.sends ≡ []
  pub told : c.notices ≡ []

-- wherever something is asked for among the events, from this state on, the client is settled
abbrev pub AsksSettled : ClientState → List DriveEvent → Type 0
AsksSettled c [] = ⊤
AsksSettled c (does (calls k) ∷ events) = IsSettled c × AsksSettled (after c (calls k)) events
AsksSettled c (does (receives m) ∷ events) = AsksSettled (after c (receives m)) events
AsksSettled c (does hands_out_sends ∷ events) = AsksSettled (after c hands_out_sends) events
AsksSettled c (does hands_out_notices ∷ events) = AsksSettled (after c hands_out_notices) events
AsksSettled c (refuses ∷ events) = IsSettled c × AsksSettled c events

-- the same of all events but the first
abbrev pub AsksMoreSettled : ClientState → List DriveEvent → Type 0
AsksMoreSettled c [] = ⊤
AsksMoreSettled c (does s ∷ events) = AsksSettled (after c s) events
AsksMoreSettled c (refuses ∷ events) = AsksSettled c events

-- Between the two states the client was asked for this, in this order, each time but the first once it was settled, what it
-- received are messages as a server makes them, and the output grew by what was printed.
pub record Drives (before : ClientState) (asked : List (Option Call)) (now : ClientState) (old new : Option Text) : Type 0 where
  pub events : List DriveEvent
  pub came : run before (steps_of events) ≡ now
  pub asked_them : asked_of events ≡ asked
  pub heard : AreMessages (steps_of events)
  pub waited : AsksMoreSettled before events
  pub printed_them : Appends old new (printed_of before events)
