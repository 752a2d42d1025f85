-- Bases of legal logs.
use Rattle.std.proofs.Common.{sym, ◌∙◌, ap}
use Rattle.pres_log.specs.Logs.{Log}
use Rattle.pres_base.specs.declared.parts.BaseParts.{BaseParts}
use Rattle.pres_server.specs.Replays.{resumed}
use Rattle.pres_server.specs.BaseSums.{sum_for}
use Rattle.pres_history.specs.BaseLaws.{BaseGoesOn, BaseDecides}
use Rattle.pres_history.proofs.Whole.{sums_decide, whole_is_legal}

pub base_goes_on : (base : BaseParts) (before later : Log) → BaseGoesOn base before later
base_goes_on base before later legal same follow =
    let all = whole_is_legal before (sum_for base) later legal (sym same) follow in
    record { legal = all.0; server = ap resumed (sym all.1) }

pub base_decides : (base : BaseParts) (a b : Log) → BaseDecides base a b
base_decides base a b legal_a legal_b same_a same_b = sums_decide a b legal_a legal_b (sym same_a ∙ same_b)
