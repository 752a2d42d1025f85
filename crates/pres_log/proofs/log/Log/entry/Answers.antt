use Rattle.std.proofs.Common.{◌≡◌, ◌≤◌, ◌<◌, ◌-◌, ℕ, suc, refl, subst, sym, ap, ◌∙◌, List, Option, Some, None, MatchOption, length, get_or, slice_get, arith}
use Rattle.std.proofs.lemmas.Option.{slice_get_read, slice_get_past}
use Rattle.std.specs.List.{HoldsAt}
use Rattle.std.specs.Borrow.{Bor}
use Rattle.std.specs.Option.{option_copied}
use Rattle.pres_log.specs.declared.entry.Batch.{Batch}
use Rattle.pres_log.specs.Logs.{Log, IsNumbered}
use Rattle.pres_log.proofs.Entries.{entry_before_all, entry_found}
use Rattle.pres_log.proofs.Lent.{lent_item}
use Rattle.pres_log.proofs.log.Log.entry.Goals as goal

batch_at : (lent log : Log) (i : ℕ) (b : Batch) → lent ≡ log → i < length lent → b ≡ get_or lent i b → slice_get log i ≡ Some b
batch_at lent log i b same within is = ap (λ l. slice_get l i) (sym same) ∙ slice_get_read lent (length lent) i b refl within is

pub returns-in_err-checked_sub : goal.returns-in_err-checked_sub
returns-in_err-checked_sub c =
    let none : c.begun-begun.result ≡ 0 = omega (arith, c.in_err-checked_sub.ensures) in
    let is : IsNumbered c.args.self.now = subst IsNumbered c.self.view_is c.self.invariant in
    let above = entry_before_all c.args.self.now c.args.number is (λ b at. c.begun-begun.ensures.rest b (ap (slice_get c.args.self.now) none ∙ at)) in
    ap option_copied c.from_residual.ensures ∙ sym above

pub overflow_sub-place : goal.overflow_sub-place
overflow_sub-place c =
    let i = c.in_ok-checked_sub.field-0 in
    let batch = c.in_ok-batch.batch.now in
    let lookup = c.in_ok-batch.ensures.lookup in
    let at = batch_at c.deref.result.now c.args.self.now i batch (c.deref.ensures.value ∙ c.self.view_is) lookup.3.0 lookup.1 in
    let low = c.begun-begun.ensures.begun i batch (omega (arith, c.in_ok-checked_sub.ensures)) at in
    omega (arith, low, c.get-2.ensures.value, c.first.ensures)

pub returns : goal.returns
returns c =
    let log : Log = c.args.self.now in
    let i = c.in_ok-checked_sub.field-0 in
    let batch = c.in_ok-batch.batch.now in
    let lookup = c.in_ok-batch.ensures.lookup in
    let at = batch_at c.deref.result.now log i batch (c.deref.ensures.value ∙ c.self.view_is) lookup.3.0 lookup.1 in
    let low = c.begun-begun.ensures.begun i batch (omega (arith, c.in_ok-checked_sub.ensures)) at in
    let begun : c.begun-begun.result ≡ suc i = omega (arith, c.in_ok-checked_sub.ensures) in
    let is : IsNumbered log = subst IsNumbered c.self.view_is c.self.invariant in
    let found = entry_found log i c.args.number batch is at low (λ b next. c.begun-begun.ensures.rest b (ap (slice_get log) begun ∙ next)) in
    let got : option_copied c.get-3.result ≡ slice_get c.entries.result.now (c.args.number - c.get-2.result) = lent_item c.entries.result.now (c.args.number - c.get-2.result) c.get-3.result c.get-3.ensures.lookup.3 in
    got ∙ ap (λ es. slice_get es (c.args.number - c.get-2.result)) c.entries.ensures.entries ∙ ap (λ n. slice_get batch.entries (c.args.number - n)) (c.get-2.ensures.value ∙ c.first.ensures) ∙ sym found
