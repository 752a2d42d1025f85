use Rattle.std.proofs.Common.{◌≡◌, [], ◌∷◌, ◌++◌, length, length-append, Option, sym, ap, subst, ◌∙◌, arith, rules}
use Rattle.pres_tree.specs.Paths.{Path}
use Rattle.pres_tree.specs.declared.scalar.Scalar.{Scalar}
use Rattle.pres_tree.specs.Rows.{Rows, Fits, rows_in}
use Rattle.pres_tree.specs.Writes.{write, after}
use Rattle.pres_tree.proofs.Found.{null_is_empty}
use Rattle.pres_tree.proofs.Undone.{fits_back}
use Rattle.pres_write.specs.Basics.{Apart, applied}
use Rattle.pres_write.proofs.Applied.{applied_nothing, applied_then}
use Rattle.pres_write.proofs.Held.{rows_unwrapped}
use Rattle.pres_write.proofs.Together.{apart_last, put_first}
use Rattle.pres_write.proofs.basic.+put_last_first.Goals as goal
use Rattle.std.proofs.lemmas.Grind.{common_steps}

pub returns-in_default-clause-ok : goal.returns-in_default-clause-ok
returns-in_default-clause-ok t c =
    let none : c.args.writes.now.items ≡ [] = search rules in
    sym (ap (applied c.args.tree.now) none ∙ applied_nothing c.args.tree.now c.is_empty.ensures.value)

pub put_last_first-requires : goal.put_last_first-requires
put_last_first-requires t c =
    let w = c.in-Some.write in
    let ws = c.pop.new.self.items in
    let items : c.args.writes.now.items ≡ ws ++ w ∷ [] = c.in-Some.ensures.items in
    let apart = apart_last ws w (subst Apart items c.requires) in
    (omega (arith, c.decreases, ap length items, length-append ws (w ∷ [])), apart.0)

pub returns-then-is_empty-clause-ok : goal.returns-then-is_empty-clause-ok
returns-then-is_empty-clause-ok t c =
    let w = c.in-Some.write in
    let ws = c.pop.new.self.items in
    let items : c.args.writes.now.items ≡ ws ++ w ∷ [] = c.in-Some.ensures.items in
    let value : c.unwrap_or-value.result ≡ rows_in c.into_parts-path.result.1 = c.unwrap_or-value.ensures ∙ rows_unwrapped c.into_parts-path.result.1 c.empty.result c.empty.ensures in
    let null = sym (null_is_empty c.unwrap_or-value.result (sym c.if-is_empty.ensures.null)) ∙ value in
    c.remove.ensures
    ∙ (λ i. after (c.in_ok-put_last_first.ensures.ok i) (write (c.into_parts-path.ensures.parts i).0 (null i) ∷ []))
    ∙ ap (λ (p : Path × Option (Rows Scalar)). after (applied c.args.tree.now ws) (write w.path (rows_in p.1) ∷ [])) c.into_parts-path.ensures.parts
    ∙ sym (applied_then c.args.tree.now ws w)
    ∙ sym (ap (applied c.args.tree.now) items)

pub replace-requires-clause-fits : goal.replace-requires-clause-fits
replace-requires-clause-fits t c =
    let value : c.unwrap_or-value.result ≡ rows_in c.into_parts-path.result.1 = c.unwrap_or-value.ensures ∙ rows_unwrapped c.into_parts-path.result.1 c.empty.result c.empty.ensures in
    subst (Fits c.into_parts-path.result.0) (sym value) c.into_parts-path.ensures.fits

pub put_last_first-requires-2 : goal.put_last_first-requires-2
put_last_first-requires-2 t c =
    let w = c.in-Some.write in
    let ws = c.pop.new.self.items in
    let items : c.args.writes.now.items ≡ ws ++ w ∷ [] = c.in-Some.ensures.items in
    let apart = apart_last ws w (subst Apart items c.requires) in
    (omega (arith, c.decreases, ap length items, length-append ws (w ∷ [])), apart.0)

pub put_back-requires-clause-fits : goal.put_back-requires-clause-fits
put_back-requires-clause-fits t c = fits_back _ c.in_ok-depth.replaced c.args.tree.now c.replace.new.self c.is_empty.ensures.value c.in_ok-depth.ensures.back

pub returns-clause-ok : goal.returns-clause-ok
returns-clause-ok t c =
    let w = c.in-Some.write in
    let ws = c.pop.new.self.items in
    let items : c.args.writes.now.items ≡ ws ++ w ∷ [] = c.in-Some.ensures.items in
    let value : c.unwrap_or-value.result ≡ rows_in c.into_parts-path.result.1 = c.unwrap_or-value.ensures ∙ rows_unwrapped c.into_parts-path.result.1 c.empty.result c.empty.ensures in
    let apart = apart_last ws w (subst Apart items c.requires) in
    c.in_default-put_last_first.ensures.ok
    ∙ ap (λ u. applied u ws) (c.in_ok-depth.ensures.ok ∙ ap (λ v. after c.args.tree.now (write c.into_parts-path.result.0 v ∷ [])) value ∙ ap (λ (p : Path × Option (Rows Scalar)). after c.args.tree.now (write p.0 (rows_in p.1) ∷ [])) c.into_parts-path.ensures.parts)
    ∙ put_first c.args.tree.now ws w c.is_empty.ensures.value.in_order apart.1
    ∙ sym (applied_then c.args.tree.now ws w)
    ∙ sym (ap (applied c.args.tree.now) items)

pub returns-in-Err-clause-err : goal.returns-in-Err-clause-err
returns-in-Err-clause-err t c = grind (arith, common_steps)
