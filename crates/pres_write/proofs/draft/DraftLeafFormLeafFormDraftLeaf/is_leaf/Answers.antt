use Rattle.std.proofs.Common.{◌∙◌, is_some, sym, ap}
use Rattle.serde_json.proofs.Views.{view-Object}
use Rattle.serde_json.specs.View.{view, members_view}
use Rattle.pres_write.proofs.Slots.{found_some, object_is_leaf}
use Rattle.pres_write.proofs.draft.DraftLeafFormLeafFormDraftLeaf.is_leaf.Goals as goal

pub returns-in-Object : goal.returns-in-Object
returns-in-Object c =
    c.is_some.ensures ∙ found_some _ c.get.result ∙ ap is_some c.get.ensures
    ∙ sym (object_is_leaf (view c.args.value.now) (members_view c.in-Object.field-0.entries) (ap view c.in-Object.is ∙ view-Object c.in-Object.field-0))
