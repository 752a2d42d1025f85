use Rattle.std.proofs.Common.{◌≡◌, ◌≤◌, ◌∷◌, ◌++◌, [], Ok, ap, ◌∙◌, append_assoc, arith, rules}
use Rattle.std.specs.Prelude.{codes}
use Rattle.json.specs.Token.{begin_object, end_object, key, string}
use Rattle.serde_json.specs.Data.{depth}
use Rattle.serde_json.specs.Read.{max_depth}
use Rattle.pres_tree.specs.JsonPrinting.{tokens_of, IsPlain}
use Rattle.pres_ids.specs.Forms.{whole, session_json}
use Rattle.pres_wire.specs.declared.down.Down.TheVariants as down
use Rattle.pres_wire.specs.declared.fault.Field.TheVariants as field
use Rattle.pres_wire.specs.UpForms.{and_then, needed}
use Rattle.pres_wire.specs.DownForms.{values_json, down_json}
use Rattle.pres_wire.proofs.down_text.push_text.Goals as goal
use Rattle.std.proofs.lemmas.Grind.{common_steps}

pub returns-clause-text : goal.returns-clause-text
returns-clause-text c =
    let d = down_json (down.Push c.args.session.now c.args.r c.args.z (c.args.value.now ∷ [])) in
    let written : c.end_object.new.self.tokens ≡ tokens_of d =
    c.in_ok-end_object.ensures.ok
    ∙ ap (λ ts. ts ++ end_object ∷ []) (c.in_ok-number_field.ensures.ok
    ∙ ap (λ ts. ts ++ key (codes "z") ∷ tokens_of (whole c.args.z)) (c.in_ok-values_field.ensures.ok
    ∙ ap (λ ts. ts ++ key (codes "values") ∷ tokens_of (values_json (c.args.value.now ∷ []))) (c.in_ok-push_head.ensures.ok
    ∙ ap (λ ts. ts ++ key (codes "m") ∷ string (codes "push") ∷ key (codes "r") ∷ (tokens_of (whole c.args.r) ++ key (codes "s") ∷ tokens_of (session_json c.args.session.now))) (c.in_ok-begin_object.ensures.ok
    ∙ ap (λ ts. ts ++ begin_object ∷ []) c.new-out.ensures.tokens))))
    ∙ simp append_assoc in
    c.text_of.ensures.text d written

pub returns-clause-form : goal.returns-clause-form
returns-clause-form c =
    let head = c.in_ok-push_head.ensures in
    let values = c.in_ok-values_field.ensures in
    let last = c.in_ok-number_field.ensures in
    λ i. and_then (needed field.Session (head.session i)) (λ s. and_then (needed field.R (head.r i)) (λ r. and_then (needed field.Z (last.reads_back i)) (λ z. and_then (needed field.Values (values.reads_back i)) (λ vs. Ok (down.Push s r z vs)))))

pub returns-clause-reads_back : goal.returns-clause-reads_back
returns-clause-reads_back c =
    let d = down_json (down.Push c.args.session.now c.args.r c.args.z (c.args.value.now ∷ [])) in
    let written : c.end_object.new.self.tokens ≡ tokens_of d =
    c.in_ok-end_object.ensures.ok
    ∙ ap (λ ts. ts ++ end_object ∷ []) (c.in_ok-number_field.ensures.ok
    ∙ ap (λ ts. ts ++ key (codes "z") ∷ tokens_of (whole c.args.z)) (c.in_ok-values_field.ensures.ok
    ∙ ap (λ ts. ts ++ key (codes "values") ∷ tokens_of (values_json (c.args.value.now ∷ []))) (c.in_ok-push_head.ensures.ok
    ∙ ap (λ ts. ts ++ key (codes "m") ∷ string (codes "push") ∷ key (codes "r") ∷ (tokens_of (whole c.args.r) ++ key (codes "s") ∷ tokens_of (session_json c.args.session.now))) (c.in_ok-begin_object.ensures.ok
    ∙ ap (λ ts. ts ++ begin_object ∷ []) c.new-out.ensures.tokens))))
    ∙ simp append_assoc in
    let below = c.in_ok-values_field.ensures.low in
    let low : depth d ≤ max_depth = omega (arith, below) in
    let plain : IsPlain d = search rules in
    c.text_of.ensures.reads_back d written low plain

pub text_of-requires : goal.text_of-requires
text_of-requires c = grind (arith, common_steps)
