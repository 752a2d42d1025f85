use Rattle.std.proofs.Common.{◌≡◌, take, map}
use Rattle.serde_json.specs.View.{view}
use Rattle.pres_batch_json.proofs.Listed.{AllRead, AllLow}
use Rattle.pres_batch_json.proofs.list.list_value.Given as goal

abbrev pub invariant-loop-one : goal.invariant-loop-one
invariant-loop-one g l = record {
  printed : map view l.items.items ≡ map g.T.BatchJson.json (take l.one-index l.saved);
  read : AllRead g.T.BatchJson.found g.T.BatchJson.json g.T.BatchJson.kept l.saved l.one-index;
  low : AllLow g.T.BatchJson.json g.T.BatchJson.levels l.saved l.one-index;
}
