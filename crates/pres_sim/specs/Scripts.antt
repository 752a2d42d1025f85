-- The lines of a script of a world, and what each says.
use Rattle.std.specs.Prelude.{◌≡◌, ℕ, List, drop, if◌then◌else◌, codes, map, min, Option, Some, None, option_map, option_and_then}
use Rattle.std.specs.Str.{is_utf8}
use Rattle.pres_write.specs.Moments.{last_moment}
use Rattle.pres_ids.specs.Ids.{ClientId}
use Rattle.pres_ids.specs.Forms.{client_in, is_word}
use Rattle.pres_script.specs.declared.line.Line.TheVariants as line
use Rattle.pres_world.specs.declared.event.Ending.{Ending}
use Rattle.pres_world.specs.declared.event.Ending.TheVariants.{Answered, Stopped, Refused}
use Rattle.pres_world.specs.declared.event.Event.{Event}
use Rattle.pres_world.specs.declared.event.Event.TheVariants as event
use Rattle.pres_sim.specs.declared.script.ScriptStep.{ScriptStep}
use Rattle.pres_sim.specs.declared.script.ScriptStep.TheVariants as step
use Rattle.pres_script.specs.Lines.{Text, ParsedLine, waits, refused, calls, updates, leaves_updates, as_parsed, halves, whole_in, line_in, first_bad, lines_of}

-- a call whose path or JSON is refused, a client's call by what its line says, or another event
pub data Scripted : Type 0 where
  is_refused : Scripted
  asks : ClientId → ParsedLine → Scripted
  happens : Event → Scripted

abbrev pub of_event : Event → Scripted
of_event (event.Call id c) = asks id (as_parsed (line.Call c))
of_event e = happens e

abbrev pub scripted : ScriptStep → Scripted
scripted step.Refused = is_refused
scripted (step.Event e) = of_event e

-- a wait is no call
abbrev pub of_said : ClientId → ParsedLine → Option Scripted
of_said id (waits count) = None
of_said id refused = Some is_refused
of_said id (calls c) = Some (asks id (calls c))
of_said id (updates p places) = Some (asks id (updates p places))
of_said id (leaves_updates p places) = Some (asks id (leaves_updates p places))

-- moments go no further than the last one
abbrev pub moment_in : Text → Option ℕ
moment_in text = option_map (λ n. min n last_moment) (whole_in text)

-- a client, and a line of its calls
abbrev pub call_line : Text → Option Scripted
call_line given = option_and_then (λ h. option_and_then (λ id. option_and_then (of_said id) (line_in h.1)) (client_in h.0)) (halves given)

-- a packet of a client, and when it comes
abbrev pub arrival_line : Ending → Text → Option Scripted
arrival_line e given = option_and_then (λ h. option_and_then (λ k. option_map (λ now. happens (event.Up k now e)) (moment_in h.1)) (whole_in h.0)) (halves given)

-- a packet of the server
abbrev pub delivery_line : Text → Option Scripted
delivery_line given = option_map (λ k. happens (event.Down k)) (whole_in given)

-- a client whose connection is lost, and when the server hears of it
abbrev pub loss_line : Text → Option Scripted
loss_line given = option_and_then (λ h. option_and_then (λ id. option_map (λ now. happens (event.Loss id now)) (moment_in h.1)) (client_in h.0)) (halves given)

abbrev pub tick_line : Text → Option Scripted
tick_line given = option_map (λ now. happens (event.Tick now)) (moment_in given)

abbrev pub client_start_line : Text → Option Scripted
client_start_line given = option_map (λ id. happens (event.RestartClient id)) (client_in given)

abbrev pub server_start_line : Text → Option Scripted
server_start_line given = option_map (λ now. happens (event.RestartServer now)) (moment_in given)

-- a word and what it is given
abbrev pub word_line : Text → Text → Option Scripted
word_line word given =
    if is_word word (codes "call") then call_line given
    else (if is_word word (codes "up") then arrival_line Answered given
    else (if is_word word (codes "up-stop") then arrival_line Stopped given
    else (if is_word word (codes "up-refuse") then arrival_line Refused given
    else (if is_word word (codes "down") then delivery_line given
    else (if is_word word (codes "drop") then loss_line given
    else (if is_word word (codes "tick") then tick_line given
    else (if is_word word (codes "restart-client") then client_start_line given
    else (if is_word word (codes "restart-server") then server_start_line given else None))))))))

-- a word that is given nothing
abbrev pub lone_line : Text → Option Scripted
lone_line word = if is_word word (codes "checkpoint") then Some (happens event.Checkpoint) else None

abbrev pub line_of_halves : Text → Option (Text × Text) → Option Scripted
line_of_halves text None = lone_line text
line_of_halves text (Some h) = word_line h.0 h.1

-- what a line says: none where it is no line of a script after the first
abbrev pub script_line : Text → Option Scripted
script_line text = line_of_halves text (halves text)

abbrev pub script_bytes : List ℕ → Option Scripted
script_bytes bytes = if is_utf8 bytes then script_line bytes else None

-- each of these lines says something
abbrev pub AreSteps : List Text → Type 0
AreSteps lines = first_bad 2 (map script_bytes lines) ≡ None

-- each line of the input after the first, which names the clients, says something
abbrev pub IsScript : List ℕ → Type 0
IsScript input = AreSteps (drop 1 (lines_of input))
