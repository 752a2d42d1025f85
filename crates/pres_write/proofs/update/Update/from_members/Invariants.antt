use Rattle.serde_json.specs.View.{members_view}
use Rattle.std.specs.BTreeMap.{IsOrdered}
use Rattle.pres_tree.specs.Paths.{path_cmp}
use Rattle.pres_write.proofs.Members.{Read}
use Rattle.pres_write.proofs.update.Update.from_members.Given as goal

abbrev pub invariant-loop-name : goal.invariant-loop-name
invariant-loop-name l =
    Read l.fn.path (members_view l.members.entries) (members_view l.name-iterator) l.is_twice l.places.entries × IsOrdered path_cmp l.places
