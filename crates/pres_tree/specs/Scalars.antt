-- What a JSON value is to a scalar, and the JSON value of a scalar. A whole number of 64 bits is kept; the rest
-- of JSON's numbers is refused (RFC 8259, section 6, leaves the range to each program).
use Rattle.std.specs.Prelude.{◌^◌, ◌==◌, ◌&&◌, nat_lt, if◌then◌else◌, pos, Bool, false}
use Rattle.std.specs.Bool.{beq}
use Rattle.std.specs.Ordering.{int_eq}
use Rattle.std.specs.Cmp.Lexicographic.{pointwise}
use Rattle.serde_json.specs.Data.{Num, unsigned, negative, float, Data, null, boolean, number, string, array, object}
use Rattle.serde_json.specs.Find.{of_integer}
use Rattle.pres_tree.specs.declared.fault.TreeFault.TheVariants.{NotWhole, Range}
use Rattle.pres_tree.specs.declared.scalar.Scalar.{Scalar}
use Rattle.pres_tree.specs.declared.scalar.Scalar.TheVariants.{Bool as BoolOf, Int, Text}
use Rattle.pres_tree.specs.JsonReading.{Reading, branch, leaf, bad}
use Rattle.pres_tree.specs.Rows.{Rows}

abbrev pub number_reading : Num → Reading Scalar
number_reading (unsigned n) = if nat_lt n (2 ^ 63) then leaf (Int (pos n)) else bad Range
number_reading (negative z) = leaf (Int z)
number_reading (float x) = bad NotWhole

abbrev pub scalar_reading : Data → Reading Scalar
scalar_reading null = branch
scalar_reading (boolean b) = leaf (BoolOf b)
scalar_reading (number n) = number_reading n
scalar_reading (string s) = leaf (Text s)
scalar_reading (array ds) = branch
scalar_reading (object ms) = branch

abbrev pub scalar_printing : Scalar → Data
scalar_printing (BoolOf b) = boolean b
scalar_printing (Int z) = number (of_integer z)
scalar_printing (Text s) = string s

abbrev pub same_scalar : Scalar → Scalar → Bool
same_scalar (BoolOf a) (BoolOf b) = beq a b
same_scalar (Int a) (Int b) = int_eq a b
same_scalar (Text a) (Text b) = pointwise ◌==◌ a b
same_scalar a b = false

-- both have the same rows
abbrev pub same_rows : Rows Scalar → Rows Scalar → Bool
same_rows v w = pointwise (λ r s. pointwise (pointwise ◌==◌) r.0 s.0 && same_scalar r.1 s.1) v w
