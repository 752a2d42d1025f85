-- Where the bytes of a text lie, seen as the bytes. No public clause cites this module.
use Rattle.std.specs.Prelude.{ℕ, List, string_bytes}
use Rattle.pres_tree.specs.declared.text.Room.{Room}
use Rattle.pres_tree.specs.declared.text.Room.TheVariants.{Short, Long}

abbrev pub bytes_in : Room → List ℕ
bytes_in (Short text) = text.bytes
bytes_in (Long text) = string_bytes text
