use Rattle.std.proofs.Common.{◌≡◌, ◌++◌, drop}
use Rattle.std.specs.Map.{keys_of}
use Rattle.serde_json.specs.View.{items_view, members_view}
use Rattle.pres_tree.specs.Layer.{child_rows}
use Rattle.pres_tree.specs.JsonReading.{members_rows, members_fault}
use Rattle.pres_tree.proofs.Items.{ItemsRead}
use Rattle.pres_tree.proofs.Shallow.{Kids}
use Rattle.pres_tree.proofs.Reading.{Rise, names}
use Rattle.pres_tree.proofs.read.+read.Given as goal

abbrev pub invariant-read_members-loop-name : goal.invariant-read_members-loop-name
invariant-read_members-loop-name g l =
    (members_fault g.F.LeafForm.reading l.left (members_view l.members.entries) ≡ members_fault g.F.LeafForm.reading l.left (members_view l.name-iterator))
    × (members_rows g.F.LeafForm.reading (members_view l.members.entries) ≡ child_rows l.children.entries ++ members_rows g.F.LeafForm.reading (members_view l.name-iterator))
    × Kids l.left l.children.entries
    × Rise (keys_of l.children.entries ++ names l.name-iterator)

abbrev pub invariant-read_items-loop-item : goal.invariant-read_items-loop-item
invariant-read_items-loop-item g l =
    (l.index ≡ l.item-index)
    × ItemsRead g.F.LeafForm.reading l.left l.item-index l.children.entries l.first (items_view l.item-items) (items_view (drop l.item-index l.item-items))
