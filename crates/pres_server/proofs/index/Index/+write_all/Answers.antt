use Rattle.std.proofs.Common.{◌≡◌, ◌∙◌, List, [], ◌∷◌, length, refl, sym, ap, subst, OnOk, arith}
use Rattle.pres_tree.specs.declared.scalar.Scalar.{Scalar}
use Rattle.pres_tree.specs.Rows.{Rows}
use Rattle.pres_tree.proofs.Undone.{fits_back}
use Rattle.pres_write.specs.declared.basic.Basic.{Basic}
use Rattle.pres_write.specs.Basics.{applied}
use Rattle.pres_write.proofs.Applied.{applied_nothing}
use Rattle.pres_server.specs.InternalIndex.{retry_after}
use Rattle.pres_server.proofs.index.Index.+write_all.Goals as goal

no_items : (ws : List Basic) → length ws ≡ 0 → ws ≡ []
no_items [] h = refl
no_items (w ∷ ws) h = absurd (omega (arith, h))

pub returns-in_default-clause-written : goal.returns-in_default-clause-written
returns-in_default-clause-written t c =
    let old = c.args.self.now in
    let none : c.args.writes.now ≡ [] = no_items c.args.writes.now c.in_default.ensures.cases in
    let same : applied old.tree c.args.writes.now ≡ old.tree = ap (applied old.tree) none ∙ applied_nothing old.tree c.is_empty.ensures.value in
    subst (λ (u : Rows Scalar). OnOk c.keep_answer.result (c.keep_answer.new.self ≡ record { places = old.places; retry = retry_after c.args.z c.args.entry.now old.retry; listeners = old.listeners; tree = u })) (sym same) c.keep_answer.ensures.kept

pub put_back-requires-clause-fits : goal.put_back-requires-clause-fits
put_back-requires-clause-fits t c = fits_back _ c.in-Ok.replaced c.args.self.now.tree c.replace.new.self c.is_empty.ensures.value c.in-Ok.ensures.back
