use Rattle.std.proofs.Common.{◌≡◌, ◌==◌, true, false, inl, inr, List, [], ◌∷◌, ◌++◌, ℕ, drop, length, length-append, lit<, sym, ap, ◌∙◌, subst, arith}
use Rattle.std.proofs.lemmas.Bool.Decides.{nat_tests}
use Rattle.std.proofs.lemmas.Iterator.Splits.{YieldsList-from_str_split}
use Rattle.std.proofs.lemmas.Iterator.Consumers.{YieldsList-at, YieldsList-turn, YieldsList-end}
use Rattle.std.proofs.lemmas.List.{drop_more, drop_all}
use Rattle.std.proofs.lemmas.Result.{err_from_is_err_and}
use Rattle.pres_tree.proofs.Texts.{Parsed, has_bytes, pieces, parsed_empty, parsed_push, parsed_deep, parsed_fault, parsed_too_deep, parsed_end}
use Rattle.pres_tree.proofs.path.Path.parse.Goals as goal
use Rattle.pres_tree.proofs.path.Path.parse.Goals.{In-Some, In-None}
use Rattle.std.proofs.lemmas.Grind.{common_steps}

-- the pieces that are left begin with this turn's
turn : (c : In-Some) → Parsed (pieces c.args.text.now) (c.in-Some.piece.now ∷ drop (length (c.loop-piece.yielded ++ c.in-Some.piece ∷ [])) (pieces c.args.text.now)) c.loop-piece.keys.items c.loop-piece.is_deep
turn c =
    let all = pieces c.args.text.now in
    let n = length c.loop-piece.yielded in
    let split = c.split-piece-items.ensures in
    let road = YieldsList-at c.into_iter-piece-iterator.ensures.into_iter_gives (YieldsList-from_str_split 47 c.args.text.now (lit< tt) split.text split.has_more split.pattern) in
    let t = YieldsList-turn road c.loop-piece.yielded _ c.loop-piece.yielded_by _ _ c.in-Some.piece c.in-Some.is c.next.ensures.steps in
    subst (λ rest. Parsed all rest c.loop-piece.keys.items c.loop-piece.is_deep)
    (drop_more all n c.in-Some.piece.now t.0 ∙ (λ i. sym t.1 i ∷ drop (sym (length-append c.loop-piece.yielded (c.in-Some.piece ∷ [])) i) all))
    c.loop-piece.invariant

-- no piece is left
end : (c : In-None) → Parsed (pieces c.args.text.now) [] c.loop-piece.keys.items c.loop-piece.is_deep
end c =
    let all = pieces c.args.text.now in
    let split = c.split-piece-items.ensures in
    let road = YieldsList-at c.into_iter-piece-iterator.ensures.into_iter_gives (YieldsList-from_str_split 47 c.args.text.now (lit< tt) split.text split.has_more split.pattern) in
    let t = YieldsList-end road c.loop-piece.yielded _ c.loop-piece.yielded_by _ _ c.in-None.is c.next.ensures.steps in
    subst (λ rest. Parsed all rest c.loop-piece.keys.items c.loop-piece.is_deep) (drop_all (length c.loop-piece.yielded) all (omega (arith, t.1))) c.loop-piece.invariant

some_bytes : (piece : List ℕ) → (length piece == 0) ≡ false → has_bytes piece ≡ true
some_bytes piece h = grind (arith, nat_tests)

no_bytes : (piece : List ℕ) → (length piece == 0) ≡ true → has_bytes piece ≡ false
no_bytes piece h = grind (arith, nat_tests)

pub loop-piece-preserved-then-is_empty : goal.loop-piece-preserved-then-is_empty
loop-piece-preserved-then-is_empty c =
    parsed_empty c.in-Some.piece.now (no_bytes c.in-Some.piece.now (sym c.if-is_empty.ensures)) (turn (goal.at.loop-piece-preserved-then-is_empty c).In-Some)

pub loop-piece-preserved-in_ok-push : goal.loop-piece-preserved-in_ok-push
loop-piece-preserved-in_ok-push c =
    let piece = c.in-Some.piece.now in
    subst (λ ks. Parsed (pieces c.args.text.now) (drop (length (c.loop-piece.yielded ++ c.in-Some.piece ∷ [])) (pieces c.args.text.now)) ks c.loop-piece.is_deep)
    (sym (◌∙◌ {A = List (List ℕ)} c.in_ok-push.ensures.items (ap (λ k. c.loop-piece.keys.items ++ k ∷ []) c.in_ok-parse.ensures.key.0)))
    (parsed_push piece (some_bytes piece (sym c.if-is_empty.ensures)) c.in_ok-parse.ensures.key.1 (omega arith) (turn (goal.at.loop-piece-preserved-in_ok-push c).In-Some))

pub loop-piece-preserved : goal.loop-piece-preserved
loop-piece-preserved c =
    let piece = c.in-Some.piece.now in
    parsed_deep piece (some_bytes piece (sym c.if-is_empty.ensures)) c.in_ok-check.ensures (omega arith) (turn (goal.at.loop-piece-preserved c).In-Some)

pub returns-in_err-parse : goal.returns-in_err-parse
returns-in_err-parse c =
    let p = err_from_is_err_and c.from_residual.result c.from_residual.ensures.1 in
    let piece = c.in-Some.piece.now in
    let walked = turn (goal.at.returns-in_err-parse c).In-Some in
    record {
      path = rw (p.1, p.2) (elim c.in_err-parse.ensures.key [
        | inl e ↦ inl e.0
        | inr e ↦ inr (parsed_fault c.args.text.now piece (some_bytes piece (sym c.if-is_empty.ensures)) e walked)
      ]);
    }

pub returns-in_err-check : goal.returns-in_err-check
returns-in_err-check c =
    let p = err_from_is_err_and c.from_residual-in_err-check.result c.from_residual-in_err-check.ensures.1 in
    let piece = c.in-Some.piece.now in
    let walked = turn (goal.at.returns-in_err-check c).In-Some in
    record {
      path = rw (p.1, p.2) (inr (parsed_fault c.args.text.now piece (some_bytes piece (sym c.if-is_empty.ensures)) c.in_err-check.ensures walked));
    }

pub returns-then-is_deep : goal.returns-then-is_deep
returns-then-is_deep c = record { path = inr (parsed_too_deep c.args.text.now c.if-is_deep.true (end (goal.at.returns-then-is_deep c).In-None)) }

pub invariant_of-result : goal.invariant_of-result
invariant_of-result c = (parsed_end c.args.text.now c.if-is_deep.false (end (goal.at.invariant_of-result c).In-None)).path

pub returns : goal.returns
returns c =
    let parsed = parsed_end c.args.text.now c.if-is_deep.false (end (goal.at.returns c).In-None) in
    record { path = (parsed.is, parsed.good) }

pub loop-piece-init : goal.loop-piece-init
loop-piece-init c = grind (arith, common_steps)
