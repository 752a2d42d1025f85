use Rattle.std.proofs.Common.{◌≡◌, ◌<◌, ◌≤◌, ap, sym, subst, List, [], ◌∷◌, length, get_or, arith, IsTrue, ◌↔◌}
use Rattle.std.specs.Prelude.{IfOk}
use Rattle.pres_server.specs.InternalFollows.{MayJoinOn}
use Rattle.pres_server.proofs.index.Index.may_join.Goals as goal
use Rattle.std.proofs.lemmas.Grind.{common_steps}

one_item : {A : Type 0} (xs : List A) (x : A) → 1 ≤ length xs → length xs < 2 → x ≡ get_or xs 0 x → xs ≡ x ∷ []
one_item [] x a b e = absurd (omega arith)
one_item (y ∷ []) x a b e = ap (λ z. z ∷ []) (sym e)
one_item (y ∷ z ∷ more) x a b e = absurd (omega arith)

two_items : {A : Type 0} (xs : List A) (x y : A) → 2 ≤ length xs → length xs < 3 → x ≡ get_or xs 0 x → y ≡ get_or xs 1 y → xs ≡ x ∷ y ∷ []
two_items [] x y a b e f = absurd (omega arith)
two_items (z ∷ []) x y a b e f = absurd (omega arith)
two_items (z ∷ w ∷ []) x y a b e f = λ i. sym e i ∷ sym f i ∷ []
two_items (z ∷ w ∷ v ∷ more) x y a b e f = absurd (omega arith)

pub returns-in-len1 : goal.returns-in-len1
returns-in-len1 c =
    subst (λ es. IfOk c.may_come_alone.result (λ may. IsTrue may ↔ MayJoinOn c.args.self.now c.args.now es))
    (sym (one_item c.args.entries.now c.entry-item.result c.in-len1.len_at_least c.in-len1.len_below c.entry-item.is)) c.may_come_alone.ensures

pub returns-in-len2 : goal.returns-in-len2
returns-in-len2 c =
    subst (λ es. IfOk c.may_supersede.result (λ may. IsTrue may ↔ MayJoinOn c.args.self.now c.args.now es))
    (sym (two_items c.args.entries.now c.ended-item.result c.opened-item.result c.in-len2.len_at_least c.in-len2.len_below c.ended-item.is c.opened-item.is)) c.may_supersede.ensures

pub returns-in_default : goal.returns-in_default
returns-in_default c = grind (arith, common_steps)

pub returns-in_default-2 : goal.returns-in_default-2
returns-in_default-2 c = grind (arith, common_steps)
