use Rattle.std.proofs.Common.{None, refl, sym, ◌∙◌}
use Rattle.pres_tree.proofs.ChangedOn.{leaves_alone}
use Rattle.pres_write.specs.Settling.{settled_slot}
use Rattle.pres_write.proofs.draft.looks.Goals as goal

pub returns : goal.returns
returns c = λ no held. c.looks.ensures no held ∙ sym (leaves_alone (settled_slot c.args.moment) (settled_slot c.args.moment None) c.args.draft.now (λ a. refl))
