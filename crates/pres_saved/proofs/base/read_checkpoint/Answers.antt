use Rattle.std.proofs.Common.{◌≡◌, ◌∙◌, ap, sym, option_map, Some, None, inr}
use Rattle.std.specs.String.{string_bytes}
use Rattle.pres_faults.specs.declared.saved_fault.SavedFault.TheVariants.{BadRow}
use Rattle.pres_base.specs.declared.parts.BaseParts.{BaseParts}
use Rattle.pres_base_json.specs.Checks.{base_of_body}
use Rattle.pres_server.specs.BaseSums.{sum_for}
use Rattle.pres_saved.proofs.Based.{body_holds}
use Rattle.pres_saved.proofs.base.read_checkpoint.Goals as goal

pub returns-in-Some-clause-base : goal.returns-in-Some-clause-base
returns-in-Some-clause-base c =
    let cp = c.args.checkpoint.now in
    let p : BaseParts = c.in-Some.base in
    let found : base_of_body cp.batches cp.row.moment (string_bytes cp.row.body) ≡ Some p =
    ap (base_of_body cp.batches cp.row.moment) (sym c.as_str.ensures.value) ∙ sym c.in_ok-base.ensures.base ∙ c.in-Some.is in
    ap (option_map sum_for) found

pub returns-in-Some-clause-holds : goal.returns-in-Some-clause-holds
returns-in-Some-clause-holds c =
    let cp = c.args.checkpoint.now in
    let p : BaseParts = c.in-Some.base in
    body_holds cp.batches cp.row.moment c.as_str.result.now p (sym c.in_ok-base.ensures.base ∙ c.in-Some.is)

pub returns-in-None-clause-refused : goal.returns-in-None-clause-refused
returns-in-None-clause-refused c =
    let cp = c.args.checkpoint.now in
    let none : base_of_body cp.batches cp.row.moment (string_bytes cp.row.body) ≡ None =
    ap (base_of_body cp.batches cp.row.moment) (sym c.as_str.ensures.value) ∙ sym c.in_ok-base.ensures.base ∙ c.in-None.is in
    inr (ap BadRow c.zero.ensures, ap (option_map sum_for) none)
