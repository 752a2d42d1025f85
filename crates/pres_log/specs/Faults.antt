-- The codes of fault messages.
use Rattle.pres_wire.specs.declared.down.Code.{Code}
use Rattle.pres_wire.specs.declared.down.Code.TheVariants as code
use Rattle.pres_log.specs.declared.fault.Fault.{Fault}
use Rattle.pres_log.specs.declared.fault.Fault.TheVariants.{Bad, Old, Session, Order, Full, Busy, Spent}

abbrev pub code_of : Fault → Code
code_of Bad = code.Bad
code_of (Old last) = code.Old last
code_of Session = code.Session
code_of Order = code.Order
code_of Full = code.Full
code_of Busy = code.Busy
code_of Spent = code.Spent
