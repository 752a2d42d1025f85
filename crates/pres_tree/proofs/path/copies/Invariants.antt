use Rattle.std.proofs.Common.{◌≡◌, take}
use Rattle.pres_tree.proofs.path.copies.Given as goal

abbrev pub invariant-loop-key : goal.invariant-loop-key
invariant-loop-key l = l.made.items ≡ take l.key-index l.keys
