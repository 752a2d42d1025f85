use Rattle.std.proofs.Common.{◌≤◌, subst, ap, ◌∙◌}
use Rattle.std.specs.String.{string_bytes}
use Rattle.std.proofs.lemmas.Str.{IsUtf8-string_bytes}
use Rattle.pres_ids.specs.Numbers.{IsNumber}
use Rattle.pres_write.specs.Moments.{last_moment}
use Rattle.serde_json.specs.Written.{compact_text}
use Rattle.pres_batch_json.specs.Entries.{entries_json}
use Rattle.pres_batch_rows.specs.RowContents.{RowContent}
use Rattle.pres_saved.proofs.Printed.{read_back, saves}
use Rattle.pres_saved.proofs.printing.print_batch.Goals as goal

pub returns-clause-saves : goal.returns-clause-saves
returns-clause-saves c =
    let s : RowContent = record { moment = c.moment-moment.result; body = string_bytes c.in_ok-body.body } in
    saves c.args.batch.now s c.moment-moment.ensures (c.in_ok-body.ensures.text ∙ ap (λ es. compact_text (entries_json es)) c.entries.ensures.entries)

pub returns-clause-back : goal.returns-clause-back
returns-clause-back c =
    read_back c.args.batch.now c.entries.result.now (string_bytes c.in_ok-body.body) c.entries.ensures.entries c.in_ok-body.ensures.text c.in_ok-body.ensures.reads_back
    c.entries.ensures.together (subst IsNumber c.first.ensures c.get.ensures.number) (subst (λ m. m ≤ last_moment) c.moment-moment.ensures c.millis.ensures.bound) (IsUtf8-string_bytes c.in_ok-body.body)
