use Rattle.std.proofs.Common.{◌≡◌, None, refl, sym, ap, subst, ◌∙◌}
use Rattle.std.specs.Prelude.{IfOk, option_copied}
use Rattle.pres_tree.specs.Rows.{rows_in}
use Rattle.pres_tree.proofs.ChangedOn.{leaves_alone}
use Rattle.pres_write.specs.Settling.{settled, settled_slot}
use Rattle.pres_write.proofs.draft.settle.Goals as goal

pub returns-in-None : goal.returns-in-None
returns-in-None c =
    let draft = c.args.draft.now in
    let moment = c.args.moment in
    let nothing = ap (λ o. settled (rows_in (option_copied o)) moment draft) c.in-None.is in
    subst (λ v. IfOk c.changed.result (λ t. t ≡ v)) (sym (nothing ∙ leaves_alone (settled_slot moment) (settled_slot moment None) draft (λ a. refl))) c.changed.ensures
