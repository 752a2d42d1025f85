use Rattle.std.proofs.Common.{◌∙◌, ap}
use Rattle.pres_ring.specs.Lines.{has_line}
use Rattle.pres_ring.proofs.Changes.{some_line}
use Rattle.pres_ring.proofs.lines.Lines.has.Goals as goal

pub returns : goal.returns
returns c = c.contains_key.ensures ∙ some_line c.args.session.now c.self.inside.by_session.entries ∙ ap (has_line c.args.session.now) c.self.view_is
