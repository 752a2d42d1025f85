use Rattle.std.proofs.Common.{◌≡◌, ◌≤◌, ◌++◌, Some, sym, ap, subst, ◌∙◌, arith}
use Rattle.std.specs.Prelude.{option_and_then}
use Rattle.serde_json.specs.Data.{depth}
use Rattle.serde_json.specs.Read.{max_depth}
use Rattle.pres_tree.specs.JsonPrinting.{tokens_of, IsPlain}
use Rattle.pres_base_json.specs.Forms.{base_json}
use Rattle.pres_base_json.specs.Reads.{parts_in, with_one_null}
use Rattle.pres_base_json.proofs.Nulls.{body_same, base_same}
use Rattle.pres_base_json.proofs.body.print_base.Goals as goal

pub returns-clause-text : goal.returns-clause-text
returns-clause-text c =
    let d = base_json c.args.base.now in
    let written : c.write_parts.new.out.tokens ≡ tokens_of d =
    c.in_ok-write_parts.ensures.ok ∙ ap (λ ts. ts ++ tokens_of (base_json c.parts.result.now)) c.new-out.ensures.tokens ∙ ap (λ p. tokens_of (base_json p)) c.parts.ensures.parts in
    c.text_of.ensures.text d written

pub returns-clause-reads_back : goal.returns-clause-reads_back
returns-clause-reads_back c =
    let p = c.args.base.now in
    let d = base_json p in
    let is = c.parts.ensures.parts in
    let made = c.in_ok-write_parts.ensures in
    let written : c.write_parts.new.out.tokens ≡ tokens_of d =
    made.ok ∙ ap (λ ts. ts ++ tokens_of (base_json c.parts.result.now)) c.new-out.ensures.tokens ∙ ap (λ q. tokens_of (base_json q)) is in
    let below = made.low in
    let shallow : depth (base_json c.parts.result.now) ≤ max_depth = omega (arith, below) in
    let low : depth d ≤ max_depth = subst (λ q. depth (base_json q) ≤ max_depth) is shallow in
    let plain : IsPlain d = subst (λ q. IsPlain (base_json q)) is made.plain in
    let reads : parts_in p.batches p.moment d ≡ Some (with_one_null p) = subst (λ q. parts_in q.batches q.moment (base_json q) ≡ Some (with_one_null q)) is made.reads_back in record {
      held = ap (option_and_then (parts_in p.batches p.moment)) (c.text_of.ensures.reads_back d written low plain) ∙ reads;
      exact = body_same p ∙ sym (c.text_of.ensures.text d written);
      base = base_same p c.parts.ensures.base;
    }
