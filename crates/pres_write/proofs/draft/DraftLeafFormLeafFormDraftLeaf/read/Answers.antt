use Rattle.std.proofs.Common.{◌∙◌, sym, ap, inr}
use Rattle.serde_json.proofs.Views.{view-Object}
use Rattle.serde_json.specs.View.{view, members_view}
use Rattle.pres_write.specs.Drafts.{server_value, slot_reading}
use Rattle.pres_write.proofs.Slots.{one_member, not_one_member, reads_as, reads_sv, refuses_sv}
use Rattle.pres_write.proofs.draft.DraftLeafFormLeafFormDraftLeaf.read.Goals as goal

pub returns-then-len-eq-ALONE : goal.returns-then-len-eq-ALONE
returns-then-len-eq-ALONE c =
    reads_as c.read_server_value.result (slot_reading (view c.args.value.now)) (server_value (view c.in-Some.held.now))
    (reads_sv (view c.args.value.now) (members_view c.in-Object.members.entries) (view c.in-Some.held.now) (ap view c.in-Object.is ∙ view-Object c.in-Object.members) c.in-Some.ensures
    (one_member c.in-Object.members.entries (sym c.len.ensures.len ∙ c.if-len-eq-ALONE.true)))
    c.read_server_value.ensures

pub returns-else-len-eq-ALONE : goal.returns-else-len-eq-ALONE
returns-else-len-eq-ALONE c =
    inr (refuses_sv (view c.args.value.now) (members_view c.in-Object.members.entries) (view c.in-Some.held.now) (ap view c.in-Object.is ∙ view-Object c.in-Object.members) c.in-Some.ensures
    (not_one_member c.in-Object.members.entries (λ h. c.if-len-eq-ALONE.false (c.len.ensures.len ∙ h))))
