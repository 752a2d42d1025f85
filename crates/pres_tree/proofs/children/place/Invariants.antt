use Rattle.std.proofs.Common.{◌≡◌, drop}
use Rattle.pres_tree.specs.Keys.{key_cmp}
use Rattle.pres_tree.specs.Children.{place_of}
use Rattle.pres_tree.proofs.Places.{further}
use Rattle.pres_tree.proofs.children.place.Given as goal

-- what is left of the list decides
abbrev pub invariant-loop-entry : goal.invariant-loop-entry
invariant-loop-entry g l =
    (l.at ≡ l.entry-index) × (place_of (key_cmp l.key) l.few ≡ further l.at (place_of (key_cmp l.key) (drop l.entry-index l.few)))
