use Rattle.std.proofs.Common.{◌≡◌, ◌++◌, take}
use Rattle.pres_tree.proofs.path.Path.join.Given as goal

abbrev pub invariant-loop-key : goal.invariant-loop-key
invariant-loop-key l = l.keys.items ≡ l.self ++ take l.key-index l.key-items
