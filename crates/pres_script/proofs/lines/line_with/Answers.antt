use Rattle.pres_tree.specs.Paths.{Path}
use Rattle.pres_tree.specs.Rows.{Rows}
use Rattle.pres_write.specs.declared.draft.DraftLeaf.{DraftLeaf}
use Rattle.pres_client.specs.declared.call.Call.TheVariants as call
use Rattle.pres_script.specs.Lines.{ParsedLine, calls, updates, leaves_updates, draft_read, places_read, as_parsed, with_json}
use Rattle.pres_script.proofs.ParsedLines.{line_refused}
use Rattle.pres_script.proofs.lines.line_with.Goals as goal

pub returns-in_err-path-in-set : goal.returns-in_err-path-in-set
returns-in_err-path-in-set c =
    let says : Path → Rows DraftLeaf → ParsedLine = λ p d. calls (call.Set p d) in
    rw (c.in-set.is) (line_refused as_parsed (with_json draft_read says c.args.given.now) c.from_residual.result c.in_err-path-in-set.field-0.0 c.from_residual.ensures (c.in_err-path-in-set.ensures says))

pub returns-in_err-path-in-text : goal.returns-in_err-path-in-text
returns-in_err-path-in-text c =
    let says : Path → Rows DraftLeaf → ParsedLine = λ p d. calls (call.OnDisconnectSet p d) in
    rw (c.in-text.is) (line_refused as_parsed (with_json draft_read says c.args.given.now) c.from_residual-in_err-path-in-text.result c.in_err-path-in-text.field-0.0 c.from_residual-in_err-path-in-text.ensures (c.in_err-path-in-text.ensures says))

pub returns-in_err-path-in-update : goal.returns-in_err-path-in-update
returns-in_err-path-in-update c =
    rw (c.in-update.is) (line_refused as_parsed (with_json places_read updates c.args.given.now) c.from_residual-in_err-path-in-update.result c.in_err-path-in-update.field-0.0 c.from_residual-in_err-path-in-update.ensures (c.in_err-path-in-update.ensures updates))

pub returns-in_err-path-in-text-2 : goal.returns-in_err-path-in-text-2
returns-in_err-path-in-text-2 c =
    rw (c.in-text-2.is) (line_refused as_parsed (with_json places_read leaves_updates c.args.given.now) c.from_residual-in_err-path-in-text-2.result c.in_err-path-in-text-2.field-0.0 c.from_residual-in_err-path-in-text-2.ensures (c.in_err-path-in-text-2.ensures leaves_updates))
