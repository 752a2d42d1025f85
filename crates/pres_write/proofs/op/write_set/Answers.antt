use Rattle.std.proofs.Common.{◌≡◌, ◌∷◌, ◌++◌, [], List, Result, ap, subst, ◌∙◌, append_assoc}
use Rattle.std.specs.Result.{OnOk}
use Rattle.json.specs.Token.{Token}
use Rattle.pres_tree.specs.Paths.{path_text}
use Rattle.pres_tree.specs.JsonPrinting.{ReadsBack, json_of, tokens_of}
use Rattle.pres_tree.specs.Rows.{Rows}
use Rattle.pres_tree.proofs.Printing.{on_ok, on_any}
use Rattle.pres_tree.proofs.Texts.{segments-path_text, path_fault-path_text}
use Rattle.pres_write.specs.declared.draft.DraftLeaf.{DraftLeaf}
use Rattle.pres_write.specs.Drafts.{slot_reading, slot_printing}
use Rattle.pres_write.proofs.Depths.{fits_height}
use Rattle.pres_write.proofs.Printed.{reads_put}
use Rattle.pres_write.proofs.op.write_set.Goals as goal
use Rattle.std.proofs.Common.{arith}
use Rattle.std.proofs.lemmas.Grind.{common_steps}

-- six tokens, those of a value, and one more
seven : {E : Type 0} (r : Result (Unit {0}) E) (t t₁ t₂ t₃ t₄ t₅ t₆ t₇ t₈ body : List Token) (a b c d e f z : Token)
    → t₁ ≡ t ++ a ∷ [] → t₂ ≡ t₁ ++ b ∷ [] → t₃ ≡ t₂ ++ c ∷ [] → t₄ ≡ t₃ ++ d ∷ [] → t₅ ≡ t₄ ++ e ∷ [] → t₆ ≡ t₅ ++ f ∷ [] → t₇ ≡ t₆ ++ body → OnOk r (t₈ ≡ t₇ ++ z ∷ [])
    → OnOk r (t₈ ≡ t ++ a ∷ b ∷ c ∷ d ∷ e ∷ f ∷ (body ++ z ∷ []))
seven r t t₁ t₂ t₃ t₄ t₅ t₆ t₇ t₈ body a b c d e f z h₁ h₂ h₃ h₄ h₅ h₆ h₇ h₈ =
    on_ok r (λ last. last ∙ ap (λ s. s ++ z ∷ []) (h₇ ∙ ap (λ s. s ++ body) (h₆ ∙ ap (λ s. s ++ f ∷ []) (h₅ ∙ ap (λ s. s ++ e ∷ []) (h₄ ∙ ap (λ s. s ++ d ∷ []) (h₃ ∙ ap (λ s. s ++ c ∷ []) (h₂ ∙ ap (λ s. s ++ b ∷ []) h₁))))))
    ∙ simp append_assoc) h₈

pub returns-clause-ok : goal.returns-clause-ok
returns-clause-ok c =
    let placement = c.args.placement.now in
    let text : c.as_str.result.now ≡ path_text placement.0 = c.as_str.ensures.value ∙ c.in_ok-text.ensures.text ∙ ap path_text c.path.ensures.path in
    let draft = c.draft.ensures in
    seven c.end_object.result c.args.out.now.tokens c.begin_object.new.self.tokens c.key.new.self.tokens c.string.new.self.tokens c.key-2.new.self.tokens c.string-2.new.self.tokens c.key-3.new.self.tokens c.write_value.new.out.tokens c.end_object.new.self.tokens _ _ _ _ _ _ _ _
    c.in_ok-begin_object.ensures.ok c.in_ok-key.ensures.ok c.in_ok-string.ensures.ok c.in_ok-key-2.ensures.ok (c.in_ok-string-2.ensures.ok ∙ ap (λ s. c.key-2.new.self.tokens ++ Token.string s ∷ []) text) c.in_ok-key-3.ensures.ok
    (c.in_ok-write_value.ensures.ok ∙ ap (λ v. c.key-3.new.self.tokens ++ tokens_of (json_of slot_printing v)) draft) c.end_object.ensures.ok

pub returns-clause-reads_back : goal.returns-clause-reads_back
returns-clause-reads_back c =
    let placement = c.args.placement.now in
    let keys = c.path.ensures.keys in
    let draft = c.draft.ensures in
    on_any c.end_object.result
    (reads_put placement.0 placement.1 (json_of slot_printing placement.1) (segments-path_text placement.0 keys) (path_fault-path_text placement.0 keys)
    (subst (λ (v : Rows DraftLeaf). ReadsBack slot_reading v (json_of slot_printing v)) draft c.in_ok-write_value.ensures.reads_back)
    (fits_height placement.0 placement.1 c.path.ensures.fits))

pub returns-clause-plain : goal.returns-clause-plain
returns-clause-plain c = grind (arith, common_steps)

pub returns-clause-before : goal.returns-clause-before
returns-clause-before c = grind (arith, common_steps)

pub returns-in_err-key-3-clause-before : goal.returns-in_err-key-3-clause-before
returns-in_err-key-3-clause-before c = grind (arith, common_steps)

pub returns-in_err-write_value-clause-before : goal.returns-in_err-write_value-clause-before
returns-in_err-write_value-clause-before c = grind (arith, common_steps)
