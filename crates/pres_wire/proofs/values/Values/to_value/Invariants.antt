use Rattle.std.proofs.Common.{◌≡◌, take, map}
use Rattle.serde_json.specs.View.{view}
use Rattle.pres_wire.specs.DownForms.{path_value_json}
use Rattle.pres_wire.proofs.Listed.{AllLow}
use Rattle.pres_wire.proofs.Rising.{AllRead}
use Rattle.pres_wire.proofs.values.Values.to_value.Given as goal

abbrev pub invariant-loop-item : goal.invariant-loop-item
invariant-loop-item l = record {
  printed : map view l.items.items ≡ map path_value_json (take l.item-index l.self);
  read : AllRead l.self l.item-index;
  low : AllLow l.self l.item-index;
}
