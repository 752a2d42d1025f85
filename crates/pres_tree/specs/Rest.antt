-- What an iterator over children has left. No public clause cites this module.
use Rattle.std.specs.Prelude.{List}
use Rattle.pres_tree.specs.Keys.{Key}
use Rattle.pres_tree.specs.declared.children.Rest.{Rest}
use Rattle.pres_tree.specs.declared.children.Rest.TheVariants.{Few, Many}

-- the entries that it has left, in order
abbrev pub left : {V : Type 0} → Rest V → List (Key × V)
left (Few few) = few.now
left (Many many) = many
