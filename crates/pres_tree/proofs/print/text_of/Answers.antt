use Rattle.std.proofs.Common.{◌≡◌, ◌++◌, ap, ◌∙◌}
use Rattle.std.specs.Prelude.{string_bytes}
use Rattle.json.specs.Lex.{tokens}
use Rattle.json.specs.Print.{print}
use Rattle.serde_json.proofs.Texts.{print-outline}
use Rattle.pres_tree.proofs.Plain.{plain_read}
use Rattle.pres_tree.proofs.print.text_of.Goals as goal

pub returns-clause-text : goal.returns-clause-text
returns-clause-text c d is =
    let bytes : string_bytes c.in-Ok.text ≡ print c.args.out.tokens = ap (λ v. v.items) c.in-Ok.ensures.ok ∙ c.into_inner.ensures.items ∙ ap (λ b. b ++ print c.args.out.tokens) c.requires in
    bytes ∙ ap print is ∙ print-outline d

pub returns-clause-reads_back : goal.returns-clause-reads_back
returns-clause-reads_back c d is shallow plain =
    let bytes : string_bytes c.in-Ok.text ≡ print c.args.out.tokens = ap (λ v. v.items) c.in-Ok.ensures.ok ∙ c.into_inner.ensures.items ∙ ap (λ b. b ++ print c.args.out.tokens) c.requires in
    plain_read d (string_bytes c.in-Ok.text) (ap tokens bytes ∙ c.into_inner.ensures.reads_back ∙ is) shallow plain
