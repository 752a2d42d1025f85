use Rattle.std.proofs.Common.{◌≡◌, ◌++◌, ◌∷◌, [], codes, ap, ◌∙◌}
use Rattle.std.specs.Prelude.{decimal}
use Rattle.serde_json.specs.Written.{compact_text}
use Rattle.pres_batch_json.specs.Entries.{entries_json}
use Rattle.pres_inspect.proofs.Printing.{grown, whole_line}
use Rattle.pres_inspect.proofs.history.add_line.Goals as goal

pub returns : goal.returns
returns c =
    let e = c.args.entry.now in
    let is_list : c.as_bytes-list.result.now ≡ compact_text (entries_json (e ∷ [])) =
    c.as_bytes-list.ensures.value ∙ c.in_ok-text.ensures.text ∙ ap (λ es. compact_text (entries_json es)) c.from_ref.ensures.value in
    let is_tail : c.as_bytes.result.now ≡ codes ",\"moment\":" ++ (decimal c.args.moment ++ (codes ",\"number\":" ++ (decimal c.args.number ++ codes "}\n"))) =
    c.as_bytes.ensures.value ∙ c.in_ok-tail.ensures.ok in
    grown c.extend_from_slice-3.result _ _ _ (whole_line c.args.lines.now.items c.as_bytes-list.result.now c.as_bytes.result.now _ _ _ c.args.number c.args.moment e is_list is_tail
    c.in_ok-extend_from_slice.ensures.items c.in_ok-extend_from_slice-2.ensures.items) c.extend_from_slice-3.ensures.items
