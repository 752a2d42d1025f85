use Rattle.serde_json.specs.View.{view}
use Rattle.pres_wire.specs.DownForms.{down_json}
use Rattle.pres_wire.proofs.Whole.{whole_text, whole_down}
use Rattle.pres_wire.proofs.down.Down.encode.Goals as goal

pub returns-clause-text : goal.returns-clause-text
returns-clause-text c =
    let message = c.args.self.now in
    whole_text c.to_string.result (view c.in_ok-to_value.field-0) (down_json message) c.in_ok-to_value.ensures.json (whole_down message) c.to_string.ensures.text
