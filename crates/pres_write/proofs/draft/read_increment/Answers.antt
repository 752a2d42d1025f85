use Rattle.std.proofs.Common.{◌∙◌, sym, ap, inr}
use Rattle.serde_json.proofs.Views.{view-Object}
use Rattle.serde_json.specs.View.{view, members_view}
use Rattle.pres_tree.specs.Scalars.{scalar_reading}
use Rattle.pres_write.specs.Drafts.{increment_by, increment_reading}
use Rattle.pres_write.proofs.Slots.{one_member, not_one_member, reads_as, reads_increment, refuses_more, refuses_names}
use Rattle.pres_write.proofs.draft.read_increment.Goals as goal

pub returns-in-Some : goal.returns-in-Some
returns-in-Some c =
    reads_as c.read_number.result (increment_reading (view c.args.value.now)) (increment_by (scalar_reading (view c.in-Some.by.now)))
    (reads_increment (view c.args.value.now) (members_view c.in-Object.members.entries) (view c.in-Some.by.now) (ap view c.in-Object.is ∙ view-Object c.in-Object.members) c.in-Some.ensures
    (one_member c.in-Object.members.entries (sym c.len.ensures.len ∙ c.if-len-ne-ALONE.false)))
    c.read_number.ensures

pub returns-in-None : goal.returns-in-None
returns-in-None c =
    inr (refuses_names (view c.args.value.now) (members_view c.in-Object.members.entries) (ap view c.in-Object.is ∙ view-Object c.in-Object.members) c.in-None.ensures)

pub returns-then-len-ne-ALONE : goal.returns-then-len-ne-ALONE
returns-then-len-ne-ALONE c =
    inr (refuses_more (view c.args.value.now) (members_view c.in-Object.members.entries) (ap view c.in-Object.is ∙ view-Object c.in-Object.members)
    (not_one_member c.in-Object.members.entries (λ h. c.if-len-ne-ALONE.true (c.len.ensures.len ∙ h))))
