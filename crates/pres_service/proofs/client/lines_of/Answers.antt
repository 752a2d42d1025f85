use Rattle.std.proofs.Common.{arith, ◌++◌, ◌∷◌, ◌+◌, drop, map, option_map, Some, inr, sym, ap, refl, ◌∙◌}
use Rattle.std.proofs.lemmas.List.{at_drop_more}
use Rattle.pres_script.specs.Lines.{first_bad, line_of_bytes, as_parsed}
use Rattle.pres_script.proofs.Inputs.{first_bad-behind, lines_of_texts}
use Rattle.pres_service.proofs.client.lines_of.Goals as goal

pub loop-bytes-init : goal.loop-bytes-init
loop-bytes-init c =
    ap (map line_of_bytes) (sym c.in_ok-texts.ensures)
    ∙ lines_of_texts c.in_ok-texts.texts.items
    ∙ (λ i. map (λ line. Some (as_parsed line)) (sym c.new-lines.ensures.items i) ++ map (λ text. line_of_bytes text.now) (sym c.deref-bytes-items.ensures.value i))

pub returns-in-None-clause-bad : goal.returns-in-None-clause-bad
returns-in-None-clause-bad c =
    let good = c.loop-bytes.lines.items in
    let all = c.deref-bytes-items.result.now in
    let none = sym c.in_ok-line.ensures ∙ ap (option_map as_parsed) c.in-None.is in
    let rest = map (λ text. line_of_bytes text.now) (drop (c.loop-bytes.bytes-index + 1) all) in
    inr (
      c.len.result + 1,
      refl,
      ap (first_bad 1) c.loop-bytes.invariant
          ∙ at_drop_more (λ texts. first_bad 1 (map (λ line. Some (as_parsed line)) good ++ map (λ text. line_of_bytes text.now) texts)) all c.loop-bytes.bytes-index _ c.loop-bytes-test.true
          ∙ ap (λ read. first_bad 1 (map (λ line. Some (as_parsed line)) good ++ read ∷ rest)) none
          ∙ first_bad-behind 1 good rest
          ∙ ap Some (omega (arith, c.len.ensures, c.loop-bytes.lines.ok.0)),
    )
