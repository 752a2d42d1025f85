-- Operations as JSON: {"op":"set","path":P,"value":V}, {"op":"update","path":P,"values":{NAME:V, ..}} and
-- {"expect":E,"op":"tx","path":P,"value":V}. Read, not printed: {"op":"remove","path":P}, the set of null.
use Rattle.std.specs.Prelude.{◌==◌, ◌≡◌, ◌≢◌, ◌⊎◌, ◌-◌, ◌+◌, List, [], ◌∷◌, ℕ, Bool, false, if◌then◌else◌, codes, drop, length, nat_lt, map, Option, Some, None, Result, Ok, Err}
use Rattle.std.specs.Option.{option_and_then, option_or}
use Rattle.std.specs.Ordering.{nat_cmp}
use Rattle.std.specs.Map.{keys_of}
use Rattle.std.specs.Cmp.Lexicographic.{pointwise, slice_cmp}
use Rattle.serde_json.specs.Data.{Data, null, string, object, Members, no_members, member}
use Rattle.serde_json.specs.Find.{get, as_str, as_object}
use Rattle.pres_tree.specs.declared.fault.TreeFault.{TreeFault}
use Rattle.pres_tree.specs.declared.fault.TreeFault.TheVariants.{Memory, TooDeep}
use Rattle.pres_tree.specs.Paths.{Path, max_depth, segments, path_fault, path_text, path_cmp, sorted_by, overlap}
use Rattle.pres_tree.specs.JsonReading.{levels_below, rows_of, fault_of}
use Rattle.pres_tree.specs.JsonPrinting.{json_of}
use Rattle.pres_tree.specs.Scalars.{scalar_printing}
use Rattle.pres_write.specs.declared.fault.WriteFault.{WriteFault}
use Rattle.pres_write.specs.declared.fault.WriteFault.TheVariants.{Tree, Overlap, ManyPaths, Shape}
use Rattle.pres_write.specs.declared.op.Op.{Op}
use Rattle.pres_write.specs.declared.op.Op.TheVariants.{Set, Update, Tx}
use Rattle.pres_write.specs.Drafts.{slot_reading, slot_printing, fixed_reading}
use Rattle.pres_write.specs.Updates.{Places, PlacesBelow, most_places}

-- ---- reading

-- a result, unless the tree refuses a part of it first
abbrev pub unless : {A : Type 0} → Option TreeFault → Result A WriteFault → Result A WriteFault
unless None r = r
unless (Some e) r = Err (Tree e)

-- what is made of a part that the form needs
abbrev pub with_part : {A B : Type 0} → Option A → (A → Result B WriteFault) → Result B WriteFault
with_part None f = Err Shape
with_part (Some a) f = f a

-- the set of a path's text and a JSON value: the path's fault first, then the value's below that path
abbrev pub set_read : List ℕ → Data → Result Op WriteFault
set_read text d =
    unless (path_fault text) (unless (fault_of slot_reading (levels_below (segments text)) d) (Ok (Set (segments text, rows_of slot_reading d))))

-- the places of an update by their names, in byte order of these
abbrev pub places_read : Members → Places
places_read no_members = []
places_read (member name d ms) = (segments name, rows_of slot_reading d) ∷ places_read ms

-- what is wrong with a place below the path p: its name as a path, its depth there, its draft there
abbrev pub place_fault : Path → List ℕ → Data → Option TreeFault
place_fault p name d =
    option_or (path_fault name)
    (if nat_lt max_depth (length p + length (segments name)) then Some TooDeep
    else fault_of slot_reading (max_depth + 1 - (length p + length (segments name))) d)

abbrev pub places_fault : Path → Members → Option TreeFault
places_fault p no_members = None
places_fault p (member name d ms) = option_or (place_fault p name d) (places_fault p ms)

-- places below a path: not too many, each sound, none at or above another, and kept in path order
abbrev pub below_read : Path → Members → Result PlacesBelow WriteFault
below_read p ms =
    if nat_lt most_places (length (places_read ms)) then Err ManyPaths
    else unless (places_fault p ms) (if overlap (keys_of (places_read ms)) then Err Overlap else Ok (record { path = p; places = sorted_by path_cmp (places_read ms) }))

abbrev pub as_update : Result PlacesBelow WriteFault → Result Op WriteFault
as_update (Ok u) = Ok (Update u)
as_update (Err e) = Err e

abbrev pub update_read : List ℕ → Members → Result Op WriteFault
update_read text ms = unless (path_fault text) (as_update (below_read (segments text) ms))

-- a transaction's expected value, without placeholders, comes before its new one
abbrev pub tx_read : List ℕ → Data → Data → Result Op WriteFault
tx_read text expect d =
    unless (path_fault text) (unless (fault_of fixed_reading (levels_below (segments text)) expect) (unless (fault_of slot_reading (levels_below (segments text)) d)
    (Ok (Tx (record { path = segments text; expect = rows_of fixed_reading expect; new = rows_of slot_reading d })))))

abbrev pub is_word : List ℕ → List ℕ → Bool
is_word word name = pointwise ◌==◌ word name

abbrev pub form_read : Data → List ℕ → List ℕ → Result Op WriteFault
form_read d word text =
    if is_word word (codes "remove") then set_read text null
    else if is_word word (codes "set") then with_part (get (codes "value") d) (set_read text)
    else if is_word word (codes "update") then with_part (option_and_then as_object (get (codes "values") d)) (update_read text)
    else if is_word word (codes "tx") then with_part (get (codes "expect") d) (λ expect. with_part (get (codes "value") d) (tx_read text expect))
    else Err Shape

-- the operation of a JSON value, or why it is refused
abbrev pub op_read : Data → Result Op WriteFault
op_read d = with_part (option_and_then as_str (get (codes "op") d)) (λ word. with_part (option_and_then as_str (get (codes "path") d)) (form_read d word))

abbrev pub says_tx : Option (List ℕ) → Bool
says_tx None = false
says_tx (Some word) = is_word word (codes "tx")

-- an object whose `op` is the text "tx", whatever else it holds
abbrev pub is_tx : Data → Bool
is_tx d = says_tx (option_and_then as_str (get (codes "op") d))

-- the fault by which code refuses what is read so: Memory never in the place of Shape
abbrev pub IsRefusal : {A : Type 0} → Result A WriteFault → WriteFault → Type 0
IsRefusal read e = ((e ≡ Tree Memory) × (read ≢ Err Shape)) ⊎ (read ≡ Err e)

-- ---- printing

abbrev pub set_form : List ℕ → Data → Data
set_form path value = object (member (codes "op") (string (codes "set")) (member (codes "path") (string path) (member (codes "value") value no_members)))

abbrev pub update_form : List ℕ → Data → Data
update_form path values = object (member (codes "op") (string (codes "update")) (member (codes "path") (string path) (member (codes "values") values no_members)))

abbrev pub tx_form : List ℕ → Data → Data → Data
tx_form path expect value =
    object (member (codes "expect") expect (member (codes "op") (string (codes "tx")) (member (codes "path") (string path) (member (codes "value") value no_members))))

-- a place's name is its text without the leading slash
abbrev pub named : Places → List (List ℕ × Data)
named places = map (λ e. (drop 1 (path_text e.0), json_of slot_printing e.1)) places

abbrev pub members_from : List (List ℕ × Data) → Members
members_from [] = no_members
members_from (e ∷ es) = member e.0 e.1 (members_from es)

-- names stand in byte order
abbrev pub values_json : Places → Members
values_json places = members_from (sorted_by (slice_cmp nat_cmp) (named places))

-- the JSON value of an operation
abbrev pub op_json : Op → Data
op_json (Set p) = set_form (path_text p.0) (json_of slot_printing p.1)
op_json (Update u) = update_form (path_text u.path) (object (values_json u.places))
op_json (Tx t) = tx_form (path_text t.path) (json_of scalar_printing t.expect) (json_of slot_printing t.new)
