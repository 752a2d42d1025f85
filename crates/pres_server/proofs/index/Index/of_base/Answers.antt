use Rattle.std.proofs.Common.{refl}
use Rattle.pres_server.specs.declared.index.Index.{Index}
use Rattle.pres_server.proofs.Resumed.{agrees_base}
use Rattle.pres_server.proofs.index.Index.of_base.Goals as goal

pub returns-clause-agrees : goal.returns-clause-agrees
returns-clause-agrees c =
    let index : Index = record { places = record { live = c.in_ok-live.live; gone = c.in_ok-gone.gone }; retry = c.in_ok-gone.retry; listeners = c.in_ok-live.listeners; tree = c.args.parts.tree } in
    agrees_base c.args.parts index c.in_ok-live.ensures.live c.in_ok-gone.ensures.gone c.in_ok-gone.ensures.rows c.in_ok-live.ensures.listeners refl
