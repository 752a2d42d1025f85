use Rattle.std.proofs.Common.{◌≡◌, ◌∙◌, true, refl, sym, ap, subst, true≢false}
use Rattle.std.specs.Prelude.{is_ok}
use Rattle.std.specs.Str.{bytes_eq}
use Rattle.std.specs.Cmp.Lexicographic.{bytes_decides}
use Rattle.pres_base.specs.declared.parts.BaseParts.{BaseParts}
use Rattle.pres_base.specs.Bases.{IsBase}
use Rattle.pres_base_json.specs.Forms.{body_text}
use Rattle.pres_base_json.specs.Checks.{base_of_parts}
use Rattle.pres_base_json.proofs.Bodies.{base_printed, no_base}
use Rattle.pres_base_json.proofs.body.base_of_parts.Goals as goal

pub returns-in_default : goal.returns-in_default
returns-in_default c = sym (no_base c.args.body.now c.args.parts (λ base.
    let accepted : is_ok c.from_parts.result ≡ true = c.from_parts.ensures.exact.1 base in
    true≢false (sym accepted ∙ ap is_ok c.in_default.is)))

pub returns-then-eq : goal.returns-then-eq
returns-then-eq c =
    let p : BaseParts = c.in-Ok.base in
    let is : p ≡ c.args.parts = c.in-Ok.ensures.base in
    let base : IsBase p = subst IsBase (sym is) (c.in-Ok.ensures.exact.0 refl) in
    let test : bytes_eq c.as_str.result.now c.args.body.now ≡ true = cc in
    let same = (bytes_decides c.as_str.result.now c.args.body.now).0 test in
    let printed : body_text p ≡ c.args.body.now = sym c.in_ok-text.ensures.text ∙ sym c.as_str.ensures.value ∙ same in
    sym (base_printed c.args.body.now p base printed) ∙ ap (base_of_parts c.args.body.now) is
