use Rattle.std.proofs.Common.{◌≡◌, ap}
use Rattle.std.specs.String.{string_bytes}
use Rattle.std.proofs.lemmas.Str.{IsUtf8-string_bytes}
use Rattle.pres_base.specs.declared.parts.BaseParts.{BaseParts}
use Rattle.pres_batch_rows.specs.RowContents.{RowContent}
use Rattle.pres_saved.specs.SqlKeepers.{saved_checkpoint}
use Rattle.pres_saved.proofs.Based.{base_back}
use Rattle.pres_saved.proofs.printing.print_checkpoint.Goals as goal

pub returns-clause-saves : goal.returns-clause-saves
returns-clause-saves c =
    let p : BaseParts = c.in-Ok.base in
    let when : c.parts.result.now.moment ≡ p.moment = ap (λ (x : BaseParts). x.moment) c.parts.ensures.parts in
    let s : RowContent = record { moment = c.parts.result.now.moment; body = string_bytes c.in_ok-body.body } in
    let same : s ≡ saved_checkpoint p = λ i. record { moment = when i; body = c.in_ok-body.ensures.text i } in
    (p, c.in-Ok.ensures.base, same)

pub returns-clause-back : goal.returns-clause-back
returns-clause-back c = λ nulls.
    let p : BaseParts = c.in-Ok.base in
    let when : c.parts.result.now.moment ≡ p.moment = ap (λ (x : BaseParts). x.moment) c.parts.ensures.parts in
    base_back p c.args.server.now.sum c.parts.result.now.moment (string_bytes c.in_ok-body.body) c.parts.ensures.base c.in-Ok.ensures.base when c.in_ok-body.ensures.reads_back (IsUtf8-string_bytes c.in_ok-body.body) nulls
