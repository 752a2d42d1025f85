use Rattle.std.proofs.Common.{◌∷◌, [], ◌++◌, take, sym, ap, ◌∙◌, append_assoc, lit<}
use Rattle.std.proofs.lemmas.Str.{encode_ascii}
use Rattle.std.proofs.lemmas.List.{take_more}
use Rattle.std.specs.Prelude.{string_bytes}
use Rattle.pres_tree.specs.Paths.{keys_text}
use Rattle.pres_tree.proofs.Texts.{keys_text-push}
use Rattle.pres_tree.proofs.path.push_keys.Goals as goal

pub loop-key-preserved : goal.loop-key-preserved
loop-key-preserved c =
    let ks = c.args.keys.now in
    let i = c.loop-key.key-index in
    let k = c.key-item.result in
    let before = string_bytes c.args.text.now in
    let first = keys_text (take i ks) in
    let more = take_more ks i k c.loop-key-test.true ∙ ap (λ q. take i ks ++ q ∷ []) (sym c.key-item.is) in
    c.in_ok-push_str.ensures.bytes
    ∙ ap (λ bs. bs ++ c.text.result.now) (c.in_ok-push.ensures.bytes ∙ (λ j. c.loop-key.invariant j ++ encode_ascii 47 (lit< tt) j))
    ∙ ap (λ bs. ((before ++ first) ++ 47 ∷ []) ++ bs) c.text.ensures.text
    ∙ ap (λ bs. bs ++ k) (append_assoc before first (47 ∷ []))
    ∙ append_assoc before (first ++ 47 ∷ []) k
    ∙ sym (ap (λ bs. before ++ bs) (ap keys_text more ∙ keys_text-push (take i ks) k))
