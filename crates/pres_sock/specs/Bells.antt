-- What becomes of a connection's bell.
use Rattle.std.specs.Prelude.{Option, Some, None, Result, Ok, Err}

-- what is left of a bell: it is taken where a session is opened
abbrev pub left_of : {A B E : Type 0} → Option B → Result (Option A) E → Option B
left_of bell (Ok (Some opened)) = None
left_of bell (Ok None) = bell
left_of bell (Err e) = bell
