use Rattle.std.proofs.Common.{length, drop}
use Rattle.pres_tree.proofs.Texts.{Parsed, pieces}
use Rattle.pres_tree.proofs.path.Path.parse.Given as goal

abbrev pub invariant-loop-piece : goal.invariant-loop-piece
invariant-loop-piece l = Parsed (pieces l.text) (drop (length l.yielded) (pieces l.text)) l.keys.items l.is_deep
