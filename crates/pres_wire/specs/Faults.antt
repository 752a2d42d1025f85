-- The names of fields, and the numbers and names of refusals.
use Rattle.std.specs.Prelude.{ℕ, List, codes}
use Rattle.pres_wire.specs.declared.fault.Field.{Field}
use Rattle.pres_wire.specs.declared.fault.Field.TheVariants as field
use Rattle.pres_wire.specs.declared.fault.WireFault.{WireFault}
use Rattle.pres_wire.specs.declared.fault.WireFault.TheVariants.{Memory, NotJson, TooLong, NoSuchMessage, Field as FieldRefused, Write}

abbrev pub field_name : Field → List ℕ
field_name field.Session = codes "s"
field_name field.Q = codes "q"
field_name field.N = codes "n"
field_name field.Op = codes "op"
field_name field.Path = codes "path"
field_name field.R = codes "r"
field_name field.Z = codes "z"
field_name field.Done = codes "done"
field_name field.Ops = codes "ops"
field_name field.Out = codes "out"
field_name field.Value = codes "value"
field_name field.Values = codes "values"
field_name field.Why = codes "why"
field_name field.Code = codes "code"
field_name field.Last = codes "last"

abbrev pub number_of : WireFault → ℕ
number_of Memory = 1
number_of NotJson = 2
number_of TooLong = 3
number_of NoSuchMessage = 4
number_of (FieldRefused f) = 5
number_of (Write e) = 6

abbrev pub name_of : WireFault → List ℕ
name_of Memory = codes "Memory"
name_of NotJson = codes "NotJson"
name_of TooLong = codes "TooLong"
name_of NoSuchMessage = codes "NoSuchMessage"
name_of (FieldRefused f) = codes "Field"
name_of (Write e) = codes "Write"
