use Rattle.std.proofs.Common.{◌≡◌, suc, sym, ap, ◌∙◌, slice_get, arith}
use Rattle.std.specs.Option.{option_copied}
use Rattle.pres_log.specs.Logs.{batch_at}
use Rattle.pres_log.proofs.Lent.{lent_item}
use Rattle.pres_log.proofs.log.Log.batch.Goals as goal

pub returns-in_err-before : goal.returns-in_err-before
returns-in_err-before c =
    let none : c.args.place ≡ 0 = omega (arith, c.in_err-before.ensures) in
    ap option_copied c.from_residual.ensures ∙ sym (ap (batch_at c.args.self.now) none)

pub returns : goal.returns
returns c =
    let i = c.in_ok-before.before in
    let is : c.args.place ≡ suc i = omega (arith, c.in_ok-before.ensures) in
    lent_item c.deref.result.now i c.get.result c.get.ensures.lookup.3
    ∙ ap (λ l. slice_get l i) (c.deref.ensures.value ∙ c.self.view_is)
    ∙ sym (ap (batch_at c.args.self.now) is)
