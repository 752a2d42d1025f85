-- How a JSON value reads as a draft. An object with the name `.sv` is a placeholder, as in Firebase Realtime Database's
-- server values, or refused.
use Rattle.std.specs.Prelude.{◌==◌, ℕ, List, Bool, true, false, if◌then◌else◌, codes, Option, Some, None}
use Rattle.std.specs.Cmp.Lexicographic.{pointwise}
use Rattle.serde_json.specs.Data.{Data, null, boolean, number, string, array, object, Members, no_members, member}
use Rattle.serde_json.specs.Find.{get_member}
use Rattle.pres_tree.specs.declared.fault.TreeFault.TheVariants.{Placeholder}
use Rattle.pres_tree.specs.declared.scalar.Scalar.{Scalar}
use Rattle.pres_tree.specs.declared.scalar.Scalar.TheVariants.{Bool as BoolOf, Int, Text}
use Rattle.pres_tree.specs.JsonReading.{Reading, branch, leaf, bad}
use Rattle.pres_tree.specs.Scalars.{scalar_reading, scalar_printing}
use Rattle.pres_write.specs.declared.draft.DraftLeaf.{DraftLeaf}
use Rattle.pres_write.specs.declared.draft.DraftLeaf.TheVariants.{Fixed, Timestamp, Increment}

abbrev pub fixed : Reading Scalar → Reading DraftLeaf
fixed branch = branch
fixed (leaf s) = leaf (Fixed s)
fixed (bad e) = bad e

abbrev pub is_timestamp : Data → Bool
is_timestamp null = false
is_timestamp (boolean b) = false
is_timestamp (number n) = false
is_timestamp (string s) = pointwise ◌==◌ s (codes "timestamp")
is_timestamp (array ds) = false
is_timestamp (object ms) = false

abbrev pub is_one : Members → Bool
is_one no_members = false
is_one (member k d no_members) = true
is_one (member k d (member l e ms)) = false

-- an increment by what a scalar would be: a whole number, refused as one
abbrev pub increment_by : Reading Scalar → Reading DraftLeaf
increment_by branch = bad Placeholder
increment_by (leaf (BoolOf b)) = bad Placeholder
increment_by (leaf (Int z)) = leaf (Increment z)
increment_by (leaf (Text s)) = bad Placeholder
increment_by (bad e) = bad e

abbrev pub increment_of : Option Data → Reading DraftLeaf
increment_of None = bad Placeholder
increment_of (Some d) = increment_by (scalar_reading d)

-- an object that has an increment alone
abbrev pub increment_reading : Data → Reading DraftLeaf
increment_reading null = bad Placeholder
increment_reading (boolean b) = bad Placeholder
increment_reading (number n) = bad Placeholder
increment_reading (string s) = bad Placeholder
increment_reading (array ds) = bad Placeholder
increment_reading (object ms) = if is_one ms then increment_of (get_member (codes "increment") ms) else bad Placeholder

-- what stands under `.sv`: the word for the moment, or an increment
abbrev pub server_value : Data → Reading DraftLeaf
server_value d = if is_timestamp d then leaf Timestamp else increment_reading d

-- an object by its member `.sv`, which it has alone
abbrev pub placeholder : Members → Option Data → Reading DraftLeaf
placeholder ms None = branch
placeholder ms (Some d) = if is_one ms then server_value d else bad Placeholder

abbrev pub slot_reading : Data → Reading DraftLeaf
slot_reading null = branch
slot_reading (boolean b) = fixed (scalar_reading (boolean b))
slot_reading (number n) = fixed (scalar_reading (number n))
slot_reading (string s) = fixed (scalar_reading (string s))
slot_reading (array ds) = branch
slot_reading (object ms) = placeholder ms (get_member (codes ".sv") ms)

-- a value without placeholders: an object with the name `.sv` is refused
abbrev pub unless_placeholder : Option Data → Reading Scalar
unless_placeholder None = branch
unless_placeholder (Some d) = bad Placeholder

abbrev pub fixed_reading : Data → Reading Scalar
fixed_reading null = branch
fixed_reading (boolean b) = scalar_reading (boolean b)
fixed_reading (number n) = scalar_reading (number n)
fixed_reading (string s) = scalar_reading (string s)
fixed_reading (array ds) = branch
fixed_reading (object ms) = unless_placeholder (get_member (codes ".sv") ms)

-- an object of one member
abbrev pub alone : List ℕ → Data → Data
alone name d = object (member name d no_members)

abbrev pub slot_printing : DraftLeaf → Data
slot_printing (Fixed s) = scalar_printing s
slot_printing Timestamp = alone (codes ".sv") (string (codes "timestamp"))
slot_printing (Increment by) = alone (codes ".sv") (alone (codes "increment") (scalar_printing (Int by)))
