-- The lines of a client's input, and what each says.
use Rattle.std.specs.Prelude.{◌≡◌, ◌==◌, ◌&&◌, ◌+◌, ◌-◌, ◌^◌, ℕ, Bool, List, [], ◌∷◌, if◌then◌else◌, codes, drop, take, length, map, nat_lt, nat_le, Option, Some, None, is_none, option_map, option_and_then}
use Rattle.std.specs.Cmp.Lexicographic.{pointwise}
use Rattle.std.specs.List.{after_first, before_first, list_all, position_or_len, slice_split}
use Rattle.std.specs.Char.{is_ascii_digit}
use Rattle.std.specs.Str.{is_utf8}
use Rattle.std.specs.Str.Parse.{digits_value}
use Rattle.serde_json.specs.Data.{Data, null, boolean, number, string, array, object, Members, no_members, member}
use Rattle.serde_json.specs.Read.{read}
use Rattle.pres_tree.specs.Paths.{Path, max_depth}
use Rattle.pres_tree.specs.JsonReading.{rows_of, fault_of}
use Rattle.pres_tree.specs.Rows.{Rows}
use Rattle.pres_write.specs.declared.draft.DraftLeaf.{DraftLeaf}
use Rattle.pres_write.specs.Drafts.{slot_reading}
use Rattle.pres_ids.specs.Forms.{is_word}
use Rattle.pres_wire.specs.Fields.{path_in}
use Rattle.pres_client.specs.declared.call.Answer.TheVariants as answer
use Rattle.pres_client.specs.declared.call.Call.{Call}
use Rattle.pres_client.specs.declared.call.Call.TheVariants as call
use Rattle.pres_script.specs.declared.line.Line.{Line}
use Rattle.pres_script.specs.declared.line.Line.TheVariants as line

abbrev pub Text : Type 0
Text = List ℕ

-- ---- what a line says

-- a wait for this many messages, a call that is refused, a call, or one of the two updates with its places
pub data ParsedLine : Type 0 where
  waits : ℕ → ParsedLine
  refused : ParsedLine
  calls : Call → ParsedLine
  updates : Path → List (Path × Rows DraftLeaf) → ParsedLine
  leaves_updates : Path → List (Path × Rows DraftLeaf) → ParsedLine

abbrev pub as_parsed : Line → ParsedLine
as_parsed (line.Wait count) = waits count
as_parsed line.Refused = refused
as_parsed (line.Call (call.Update p places)) = updates p places.items
as_parsed (line.Call (call.OnDisconnectUpdate p places)) = leaves_updates p places.items
as_parsed (line.Call c) = calls c

-- ---- the parts of a line

abbrev pub is_space : ℕ → Bool
is_space b = b == 32

-- the texts before and after the first space
abbrev pub halves : Text → Option (Text × Text)
halves text = if nat_lt (position_or_len is_space text) (length text) then Some (before_first is_space text, after_first is_space text) else None

-- decimal digits alone, one at least
abbrev pub is_numeral : Text → Bool
is_numeral text = nat_lt 0 (length text) && list_all is_ascii_digit text

-- a whole number below 2^64
unfoldable pub whole_in : Text → Option ℕ
whole_in text = if is_numeral text && nat_lt (digits_value 10 text) (2 ^ 64) then Some (digits_value 10 text) else None

abbrev pub draft_in : Data → Option (Rows DraftLeaf)
draft_in d = if is_none (fault_of slot_reading (max_depth + 1) d) then Some (rows_of slot_reading d) else None

-- JSON, and the draft that it is
abbrev pub draft_read : Text → Option (Rows DraftLeaf)
draft_read json = option_and_then draft_in (read json)

-- the names of an object are paths, and its values drafts at them
abbrev pub places_of : Members → Option (List (Path × Rows DraftLeaf))
places_of no_members = Some []
places_of (member name d ms) = option_and_then (λ p. option_and_then (λ draft. option_map (λ places. (p, draft) ∷ places) (places_of ms)) (draft_in d)) (path_in name)

abbrev pub places_in : Data → Option (List (Path × Rows DraftLeaf))
places_in null = None
places_in (boolean b) = None
places_in (number n) = None
places_in (string s) = None
places_in (array ds) = None
places_in (object ms) = places_of ms

abbrev pub places_read : Text → Option (List (Path × Rows DraftLeaf))
places_read json = option_and_then places_in (read json)

-- ---- lines

-- which of the two is refused: the path or the JSON
abbrev pub or_refused : Option ParsedLine → ParsedLine
or_refused None = refused
or_refused (Some s) = s

-- a path alone
abbrev pub at_path : (Path → Call) → Text → Option ParsedLine
at_path c path = Some (or_refused (option_map (λ p. calls (c p)) (path_in path)))

-- a path, a space, and JSON
abbrev pub with_json : {A : Type 0} → (Text → Option A) → (Path → A → ParsedLine) → Text → Option ParsedLine
with_json reads says given = option_map (λ h. or_refused (option_and_then (λ p. option_map (says p) (reads h.1)) (path_in h.0))) (halves given)

-- a request, a space, and the JSON of its answer
abbrev pub answering : Text → Option ParsedLine
answering given = option_and_then (λ h. option_map (λ request. or_refused (option_map (λ draft. calls (call.Answer request (answer.New draft))) (draft_read h.1))) (whole_in h.0)) (halves given)

-- 1 to 1,000 messages
abbrev pub waiting : Text → Option ParsedLine
waiting count = option_and_then (λ n. if nat_le 1 n && nat_le n 1000 then Some (waits n) else None) (whole_in count)

-- a word and a path
abbrev pub path_line : Text → Text → Option ParsedLine
path_line word path =
    if is_word word (codes "remove") then at_path call.Remove path
    else (if is_word word (codes "transact") then at_path call.Transact path
    else (if is_word word (codes "od-remove") then at_path call.OnDisconnectRemove path
    else (if is_word word (codes "od-cancel") then at_path call.OnDisconnectCancel path
    else (if is_word word (codes "listen") then at_path call.Listen path
    else (if is_word word (codes "unlisten") then at_path call.Unlisten path else None)))))

-- a word and what it is given
abbrev pub given_line : Text → Text → Option ParsedLine
given_line word given =
    if is_word word (codes "wait") then waiting given
    else (if is_word word (codes "set") then with_json draft_read (λ p d. calls (call.Set p d)) given
    else (if is_word word (codes "od-set") then with_json draft_read (λ p d. calls (call.OnDisconnectSet p d)) given
    else (if is_word word (codes "update") then with_json places_read updates given
    else (if is_word word (codes "od-update") then with_json places_read leaves_updates given
    else (if is_word word (codes "answer") then answering given
    else (if is_word word (codes "abort") then option_map (λ request. calls (call.Answer request answer.Abort)) (whole_in given)
    else path_line word given))))))

-- a word that is given nothing
abbrev pub bare_line : Text → Option ParsedLine
bare_line word =
    if is_word word (codes "online") then Some (calls call.GoOnline)
    else (if is_word word (codes "offline") then Some (calls call.GoOffline)
    else (if is_word word (codes "lost") then Some (calls call.Lost)
    else (if is_word word (codes "beat") then Some (calls call.Beat)
    else (if is_word word (codes "resend") then Some (calls call.Resend) else None))))

abbrev pub line_of_halves : Text → Option (Text × Text) → Option ParsedLine
line_of_halves text None = bare_line text
line_of_halves text (Some h) = given_line h.0 h.1

-- what a line says: none where it is no line of a client
abbrev pub line_in : Text → Option ParsedLine
line_in text = line_of_halves text (halves text)

-- ---- an input

-- bytes that are no text are no line
abbrev pub line_of_bytes : List ℕ → Option ParsedLine
line_of_bytes bytes = if is_utf8 bytes then line_in bytes else None

-- a line feed at the end ends the last line
abbrev pub without_last_feed : List ℕ → List ℕ
without_last_feed bytes = if pointwise ◌==◌ (drop (length bytes - 1) bytes) (10 ∷ []) then take (length bytes - 1) bytes else bytes

-- the lines of an input: none where it has no byte
abbrev pub lines_of : List ℕ → List (List ℕ)
lines_of input = if length input == 0 then [] else slice_split (λ b. b == 10) (without_last_feed input)

-- what each line of an input says
abbrev pub lines_in : List ℕ → List (Option ParsedLine)
lines_in input = map line_of_bytes (lines_of input)

-- the number of the first line that says nothing, counted from n on
abbrev pub first_bad : {A : Type 0} → ℕ → List (Option A) → Option ℕ
first_bad n [] = None
first_bad n (None ∷ lines) = Some n
first_bad n (Some s ∷ lines) = first_bad (n + 1) lines

-- each line of the input says something
abbrev pub AreLines : List ℕ → Type 0
AreLines input = first_bad 1 (lines_in input) ≡ None
