use Rattle.std.proofs.Common.{◌≡◌, ◌++◌, drop}
use Rattle.std.specs.Option.{option_map}
use Rattle.serde_json.specs.View.{items_view}
use Rattle.pres_batch_json.specs.Reads.{all_of}
use Rattle.pres_base_json.proofs.form.read_items.Given as goal

-- those that are read so far come before what the rest is read as
abbrev pub invariant-loop-item : goal.invariant-loop-item
invariant-loop-item g l =
    all_of g.T.BodyJson.found (items_view l.item-items) ≡ option_map (λ more. l.made.items ++ more) (all_of g.T.BodyJson.found (items_view (drop l.item-index l.item-items)))
