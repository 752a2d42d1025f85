use Rattle.std.proofs.Common.{inl, inr}
use Rattle.pres_wire.proofs.After.{after}
use Rattle.pres_wire.proofs.up.read_off.Goals as goal

pub returns-in-Err : goal.returns-in-Err
returns-in-Err c = elim c.in-Err.ensures [ inl memory ↦ inl memory | inr refused ↦ inr (after _ c.in_ok-session.ensures (refused _)) ]
