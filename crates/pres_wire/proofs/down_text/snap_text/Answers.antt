use Rattle.std.proofs.Common.{◌≡◌, ◌≤◌, ◌∷◌, ◌++◌, [], Ok, ap, ◌∙◌, append_assoc, arith, rules}
use Rattle.std.specs.Prelude.{codes}
use Rattle.json.specs.Token.{begin_object, end_object, key, string}
use Rattle.serde_json.specs.Data.{depth}
use Rattle.serde_json.specs.Read.{max_depth}
use Rattle.pres_tree.specs.JsonPrinting.{json_of, tokens_of, IsPlain}
use Rattle.pres_tree.specs.Scalars.{scalar_printing}
use Rattle.pres_ids.specs.Forms.{whole, session_json}
use Rattle.pres_wire.specs.declared.down.Down.TheVariants as down
use Rattle.pres_wire.specs.declared.fault.Field.TheVariants as field
use Rattle.pres_wire.specs.Fields.{path_json}
use Rattle.pres_wire.specs.UpForms.{and_then, needed}
use Rattle.pres_wire.specs.DownForms.{down_json}
use Rattle.pres_wire.proofs.down_text.snap_text.Goals as goal
use Rattle.std.proofs.lemmas.Grind.{common_steps}

pub returns-clause-text : goal.returns-clause-text
returns-clause-text c =
    let d = down_json (down.Snap c.args.session.now c.args.r c.args.z c.args.q c.args.path.now c.args.value.now) in
    let written : c.end_object.new.self.tokens ≡ tokens_of d =
    c.in_ok-end_object.ensures.ok
    ∙ ap (λ ts. ts ++ end_object ∷ []) (c.in_ok-snap_tail.ensures.ok
    ∙ ap (λ ts. ts ++ key (codes "r") ∷ (tokens_of (whole c.args.r) ++ key (codes "s") ∷ (tokens_of (session_json c.args.session.now) ++ key (codes "value") ∷ (tokens_of (json_of scalar_printing c.args.value.now) ++ key (codes "z") ∷ tokens_of (whole c.args.z))))) (c.in_ok-snap_head.ensures.ok
    ∙ ap (λ ts. ts ++ key (codes "m") ∷ string (codes "snap") ∷ key (codes "path") ∷ (tokens_of (path_json c.args.path.now) ++ key (codes "q") ∷ tokens_of (whole c.args.q))) (c.in_ok-begin_object.ensures.ok
    ∙ ap (λ ts. ts ++ begin_object ∷ []) c.new-out.ensures.tokens)))
    ∙ simp append_assoc in
    c.text_of.ensures.text d written

pub returns-clause-form : goal.returns-clause-form
returns-clause-form c =
    let head = c.in_ok-snap_head.ensures in
    let tail = c.in_ok-snap_tail.ensures in
    λ i. and_then (needed field.Session (tail.session i)) (λ s. and_then (needed field.R (tail.r i)) (λ r. and_then (needed field.Z (tail.z i)) (λ z. and_then (needed field.Q (head.q i)) (λ q.
    and_then (needed field.Path (head.path i)) (λ p. and_then (needed field.Value (tail.value i)) (λ v. Ok (down.Snap s r z q p v)))))))

pub returns-clause-reads_back : goal.returns-clause-reads_back
returns-clause-reads_back c =
    let d = down_json (down.Snap c.args.session.now c.args.r c.args.z c.args.q c.args.path.now c.args.value.now) in
    let written : c.end_object.new.self.tokens ≡ tokens_of d =
    c.in_ok-end_object.ensures.ok
    ∙ ap (λ ts. ts ++ end_object ∷ []) (c.in_ok-snap_tail.ensures.ok
    ∙ ap (λ ts. ts ++ key (codes "r") ∷ (tokens_of (whole c.args.r) ++ key (codes "s") ∷ (tokens_of (session_json c.args.session.now) ++ key (codes "value") ∷ (tokens_of (json_of scalar_printing c.args.value.now) ++ key (codes "z") ∷ tokens_of (whole c.args.z))))) (c.in_ok-snap_head.ensures.ok
    ∙ ap (λ ts. ts ++ key (codes "m") ∷ string (codes "snap") ∷ key (codes "path") ∷ (tokens_of (path_json c.args.path.now) ++ key (codes "q") ∷ tokens_of (whole c.args.q))) (c.in_ok-begin_object.ensures.ok
    ∙ ap (λ ts. ts ++ begin_object ∷ []) c.new-out.ensures.tokens)))
    ∙ simp append_assoc in
    let below = c.in_ok-snap_tail.ensures.low in
    let low : depth d ≤ max_depth = omega (arith, below) in
    let plain : IsPlain d = search rules in
    c.text_of.ensures.reads_back d written low plain

pub text_of-requires : goal.text_of-requires
text_of-requires c = grind (arith, common_steps)
