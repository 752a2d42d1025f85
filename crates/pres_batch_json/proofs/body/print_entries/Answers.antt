use Rattle.serde_json.specs.View.{view}
use Rattle.pres_wire.proofs.Whole.{whole_text}
use Rattle.pres_batch_json.specs.Entries.{entries_json}
use Rattle.pres_batch_json.proofs.Back.{text_read}
use Rattle.pres_batch_json.proofs.Whole.{whole_entries}
use Rattle.pres_batch_json.proofs.body.print_entries.Goals as goal

pub returns-clause-text : goal.returns-clause-text
returns-clause-text c =
    let entries = c.args.entries.now in
    whole_text c.to_string-text.result (view c.in_ok-value.value) (entries_json entries) c.in_ok-value.ensures.json (whole_entries entries) c.to_string-text.ensures.text

pub returns-clause-reads_back : goal.returns-clause-reads_back
returns-clause-reads_back c =
    let entries = c.args.entries.now in
    text_read c.to_string-text.result (view c.in_ok-value.value) (entries_json entries) entries c.in_ok-value.ensures.json c.in_ok-value.ensures.low c.in_ok-value.ensures.reads_back
    c.to_string-text.ensures.reads_back
