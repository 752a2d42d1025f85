-- The result of reading a line of a client's input, or a part of it.
use Rattle.std.specs.Prelude.{◌≡◌, ◌⊎◌, ⊤, ℕ, Option, Some, None, Result, Ok, Err}
use Rattle.pres_tree.specs.declared.fault.TreeFault.{TreeFault}
use Rattle.pres_tree.specs.declared.fault.TreeFault.TheVariants as tree
use Rattle.pres_script.specs.declared.lines.LineFault.{LineFault}
use Rattle.pres_script.specs.declared.lines.LineFault.TheVariants as unread
use Rattle.pres_script.specs.Lines.{ParsedLine, refused}

-- why nothing was read: the line says nothing, or its path or JSON is refused
abbrev pub IsLineRefusal : Option ParsedLine → LineFault → Type 0
IsLineRefusal line unread.Bad = line ≡ None
IsLineRefusal line unread.Refused = line ≡ Some refused
IsLineRefusal line unread.Memory = ⊤

-- what was read of a line, or of what its word is given
abbrev pub IsRead : {A : Type 0} → (A → ParsedLine) → Option ParsedLine → Result A LineFault → Type 0
IsRead says line (Ok a) = line ≡ Some (says a)
IsRead says line (Err e) = IsLineRefusal line e

-- a path or JSON that was read: none where it is refused
abbrev pub IsPart : {A B : Type 0} → (A → B) → Option B → Result A LineFault → Type 0
IsPart view part (Ok a) = part ≡ Some (view a)
IsPart view part (Err e) = (e ≡ unread.Memory) ⊎ ((e ≡ unread.Refused) × (part ≡ None))

-- a number that was read: none where it is no number
abbrev pub IsWhole : Option ℕ → Result ℕ LineFault → Type 0
IsWhole read (Ok n) = read ≡ Some n
IsWhole read (Err e) = (e ≡ unread.Bad) × (read ≡ None)

-- why the tree's refusal of a path or a value names no call
abbrev pub of_fault : TreeFault → LineFault
of_fault tree.Memory = unread.Memory
of_fault e = unread.Refused
