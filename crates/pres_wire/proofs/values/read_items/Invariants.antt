use Rattle.std.proofs.Common.{◌≡◌, ◌++◌, drop}
use Rattle.std.specs.Option.{option_map}
use Rattle.serde_json.specs.View.{items_view}
use Rattle.pres_wire.specs.DownReads.{values_of_items}
use Rattle.pres_wire.proofs.values.read_items.Given as goal

-- those that are read so far come before what the rest is read as
abbrev pub invariant-loop-item : goal.invariant-loop-item
invariant-loop-item l =
    values_of_items (items_view l.item-items) ≡ option_map (λ vs. l.made.items ++ vs) (values_of_items (items_view (drop l.item-index l.item-items)))
