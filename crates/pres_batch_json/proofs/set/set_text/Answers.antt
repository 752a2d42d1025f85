use Rattle.std.proofs.Common.{◌≡◌, ◌≤◌, ◌∷◌, ◌++◌, [], ap, ◌∙◌, arith, rules}
use Rattle.std.specs.Prelude.{codes}
use Rattle.json.specs.Token.{begin_object, end_object, begin_array, end_array, key, string}
use Rattle.serde_json.specs.Data.{depth}
use Rattle.serde_json.specs.Read.{max_depth}
use Rattle.pres_tree.specs.JsonPrinting.{tokens_of, IsPlain}
use Rattle.pres_ids.specs.Forms.{whole, session_json}
use Rattle.pres_write.specs.OpForms.{op_json}
use Rattle.pres_write.specs.declared.op.Op.TheVariants as op
use Rattle.pres_write.specs.declared.outcome.Outcome.TheVariants as outcome
use Rattle.pres_wire.proofs.OpNesting.{op_low}
use Rattle.pres_log.specs.declared.entry.Entry.TheVariants as entry
use Rattle.pres_batch_json.specs.Entries.{outcome_json, entries_json}
use Rattle.pres_batch_json.proofs.Joined.{four, set_parts}
use Rattle.pres_batch_json.proofs.set.set_text.Goals as goal
use Rattle.std.proofs.lemmas.Grind.{common_steps}

pub returns-clause-text : goal.returns-clause-text
returns-clause-text c =
    let d = entries_json (entry.Op c.args.session.now c.args.q c.args.n (op.Set c.args.placement.now) (outcome.Wrote (c.args.write.now ∷ [])) ∷ []) in
    let head = key (codes "e") ∷ string (codes "op") ∷ key (codes "n") ∷ (tokens_of (whole c.args.n) ++ key (codes "op") ∷ (tokens_of (op_json (op.Set c.args.placement.now)) ++ key (codes "out") ∷ tokens_of (outcome_json (outcome.Wrote (c.args.write.now ∷ []))))) in
    let tail = key (codes "q") ∷ (tokens_of (whole c.args.q) ++ key (codes "s") ∷ tokens_of (session_json c.args.session.now)) in
    let begun : c.begin_object.new.self.tokens ≡ begin_array ∷ begin_object ∷ [] = c.in_ok-begin_object.ensures.ok ∙ ap (λ ts. ts ++ begin_object ∷ []) (c.in_ok-begin_array.ensures.ok ∙ ap (λ ts. ts ++ begin_array ∷ []) c.new-out.ensures.tokens) in
    let written : c.end_array.new.self.tokens ≡ tokens_of d =
    four c.begin_object.new.self.tokens c.set_head.new.out.tokens c.set_tail.new.out.tokens c.end_object.new.self.tokens c.end_array.new.self.tokens head tail (end_object ∷ []) (end_array ∷ [])
    c.in_ok-set_head.ensures.ok c.in_ok-set_tail.ensures.ok c.in_ok-end_object.ensures.ok c.in_ok-end_array.ensures.ok
    ∙ ap (λ ts. ts ++ (head ++ (tail ++ end_object ∷ end_array ∷ []))) begun
    ∙ ap (λ ts. begin_array ∷ begin_object ∷ ts) (set_parts _ _ _ _ _ _ _ _ _ (tokens_of (whole c.args.n)) (tokens_of (op_json (op.Set c.args.placement.now))) (tokens_of (outcome_json (outcome.Wrote (c.args.write.now ∷ [])))) (tokens_of (whole c.args.q)) (tokens_of (session_json c.args.session.now))) in
    c.text_of.ensures.text d written

pub returns-clause-reads_back : goal.returns-clause-reads_back
returns-clause-reads_back c =
    let d = entries_json (entry.Op c.args.session.now c.args.q c.args.n (op.Set c.args.placement.now) (outcome.Wrote (c.args.write.now ∷ [])) ∷ []) in
    let head = key (codes "e") ∷ string (codes "op") ∷ key (codes "n") ∷ (tokens_of (whole c.args.n) ++ key (codes "op") ∷ (tokens_of (op_json (op.Set c.args.placement.now)) ++ key (codes "out") ∷ tokens_of (outcome_json (outcome.Wrote (c.args.write.now ∷ []))))) in
    let tail = key (codes "q") ∷ (tokens_of (whole c.args.q) ++ key (codes "s") ∷ tokens_of (session_json c.args.session.now)) in
    let begun : c.begin_object.new.self.tokens ≡ begin_array ∷ begin_object ∷ [] = c.in_ok-begin_object.ensures.ok ∙ ap (λ ts. ts ++ begin_object ∷ []) (c.in_ok-begin_array.ensures.ok ∙ ap (λ ts. ts ++ begin_array ∷ []) c.new-out.ensures.tokens) in
    let written : c.end_array.new.self.tokens ≡ tokens_of d =
    four c.begin_object.new.self.tokens c.set_head.new.out.tokens c.set_tail.new.out.tokens c.end_object.new.self.tokens c.end_array.new.self.tokens head tail (end_object ∷ []) (end_array ∷ [])
    c.in_ok-set_head.ensures.ok c.in_ok-set_tail.ensures.ok c.in_ok-end_object.ensures.ok c.in_ok-end_array.ensures.ok
    ∙ ap (λ ts. ts ++ (head ++ (tail ++ end_object ∷ end_array ∷ []))) begun
    ∙ ap (λ ts. begin_array ∷ begin_object ∷ ts) (set_parts _ _ _ _ _ _ _ _ _ (tokens_of (whole c.args.n)) (tokens_of (op_json (op.Set c.args.placement.now))) (tokens_of (outcome_json (outcome.Wrote (c.args.write.now ∷ [])))) (tokens_of (whole c.args.q)) (tokens_of (session_json c.args.session.now))) in
    let low : depth d ≤ max_depth = omega (arith, op_low (op.Set c.args.placement.now) c.in_ok-set_head.ensures.op, c.in_ok-set_head.ensures.low) in
    let plain : IsPlain d = search rules in
    c.text_of.ensures.reads_back d written low plain

pub text_of-requires : goal.text_of-requires
text_of-requires c = grind (arith, common_steps)

pub returns-clause-form : goal.returns-clause-form
returns-clause-form c = grind (arith, common_steps)
