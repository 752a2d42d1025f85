use Rattle.std.proofs.Common.{◌∙◌, ap, sym, subst}
use Rattle.pres_base.specs.Bases.{IsBase}
use Rattle.pres_server.specs.Histories.{IsSum}
use Rattle.pres_server.specs.BaseSums.{sum_for}
use Rattle.pres_server.proofs.BaseSums.{base_has_sum}
use Rattle.pres_server.proofs.Resumed.{sum_of_base}
use Rattle.pres_server.proofs.server.Server.of_base.Goals as goal

pub invariant_of-server : goal.invariant_of-server
invariant_of-server c =
    let p = c.into_parts-parts.result in
    let base : IsBase p = subst IsBase (sym c.into_parts-parts.ensures.parts) c.into_parts-parts.ensures.base in
    subst IsSum (sym (sum_of_base p c.in_ok-index.index _ _ c.get-batches.ensures.value c.get-number.ensures.value base c.in_ok-index.ensures.agrees c.in_ok-index.ensures.live c.in_ok-index.ensures.gone)) (base_has_sum p base)

pub returns : goal.returns
returns c =
    let p = c.into_parts-parts.result in
    let base : IsBase p = subst IsBase (sym c.into_parts-parts.ensures.parts) c.into_parts-parts.ensures.base in
    record {
      sum =
          sum_of_base p c.in_ok-index.index _ _ c.get-batches.ensures.value c.get-number.ensures.value base c.in_ok-index.ensures.agrees c.in_ok-index.ensures.live c.in_ok-index.ensures.gone
          ∙ ap sum_for c.into_parts-parts.ensures.parts;
    }
