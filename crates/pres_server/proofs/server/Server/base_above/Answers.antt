use Rattle.std.proofs.Common.{sym, ◌∙◌, subst, true≢false}
use Rattle.pres_base.specs.Bases.{IsBase}
use Rattle.pres_base.proofs.AnswersApart.{rest_is_base}
use Rattle.pres_server.specs.InternalBases.{parts_of}
use Rattle.pres_server.proofs.Based.{parts_are_base, sum_is_back}
use Rattle.pres_server.proofs.server.Server.base_above.Goals as goal

pub unreachable-requires : goal.unreachable-requires
unreachable-requires c =
    let made = c.in-Ok.ensures.parts in
    let whole = parts_are_base c.args.self.now.sum made.0 c.in-Ok.ensures.sum made.1 c.in-Ok.ensures.plans in
    let base = (rest_is_base c.args.number (parts_of c.args.self.now.sum made.0) whole).above in
    true≢false (sym (c.in_default-from_parts.ensures.exact.1 (subst IsBase (sym made.2) base)))

pub returns-clause-base : goal.returns-clause-base
returns-clause-base c =
    let made = c.in-Ok.ensures.parts in
    record {
      whole = parts_of c.args.self.now.sum made.0;
      is_base = parts_are_base c.args.self.now.sum made.0 c.in-Ok.ensures.sum made.1 c.in-Ok.ensures.plans;
      has_sum = sum_is_back c.args.self.now.sum made.0 c.in-Ok.ensures.sum made.1 c.in-Ok.ensures.plans;
      above = c.in-Ok-from_parts.ensures.base ∙ made.2;
    }
