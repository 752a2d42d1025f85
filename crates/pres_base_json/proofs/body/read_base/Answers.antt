use Rattle.std.proofs.Common.{◌∙◌, sym, ap}
use Rattle.std.proofs.lemmas.Result.{IfOk-weaker}
use Rattle.std.specs.Option.{option_and_then}
use Rattle.pres_base_json.specs.Checks.{base_of_parts}
use Rattle.pres_base_json.proofs.Bodies.{read_parts, matched, one_null_read}
use Rattle.pres_base_json.proofs.body.read_base.Goals as goal

pub returns-in-Some-clause-exact : goal.returns-in-Some-clause-exact
returns-in-Some-clause-exact c =
    let is = ap (option_and_then (base_of_parts c.args.body.now)) (sym c.in-Some.is) ∙ read_parts c.args.batches c.args.moment c.args.body.now c.in_ok-parts.field-0 c.in_ok-parts.ensures in
    IfOk-weaker c.base_of_parts.result _ _ (λ found e. matched c.args.batches c.args.moment c.args.body.now found (e ∙ is)) c.base_of_parts.ensures

pub returns-in-Some-clause-base : goal.returns-in-Some-clause-base
returns-in-Some-clause-base c =
    let is = ap (option_and_then (base_of_parts c.args.body.now)) (sym c.in-Some.is) ∙ read_parts c.args.batches c.args.moment c.args.body.now c.in_ok-parts.field-0 c.in_ok-parts.ensures in
    IfOk-weaker c.base_of_parts.result _ _ (λ found e. e ∙ is) c.base_of_parts.ensures

pub returns-in-Some-clause-nulls : goal.returns-in-Some-clause-nulls
returns-in-Some-clause-nulls c =
    let is = ap (option_and_then (base_of_parts c.args.body.now)) (sym c.in-Some.is) ∙ read_parts c.args.batches c.args.moment c.args.body.now c.in_ok-parts.field-0 c.in_ok-parts.ensures in
    IfOk-weaker c.base_of_parts.result _ _ (λ found e. one_null_read c.args.batches c.args.moment c.args.body.now found (e ∙ is)) c.base_of_parts.ensures

pub returns-in-None-clause-base : goal.returns-in-None-clause-base
returns-in-None-clause-base c =
    ap (option_and_then (base_of_parts c.args.body.now)) (sym c.in-None.is) ∙ read_parts c.args.batches c.args.moment c.args.body.now c.in_ok-parts.field-0 c.in_ok-parts.ensures
