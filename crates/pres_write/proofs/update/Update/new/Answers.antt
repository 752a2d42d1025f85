use Rattle.std.proofs.Common.{◌≡◌, All, false, length, sym, ap, subst, ◌∙◌, arith}
use Rattle.std.specs.Map.{keys_of}
use Rattle.pres_tree.specs.Paths.{IsPath, path_cmp, overlap}
use Rattle.pres_write.specs.Updates.{FitsBelow}
use Rattle.pres_write.proofs.Ordered.{length-sorted_by}
use Rattle.pres_write.proofs.Placed.{apart_sorted, fit_sorted}
use Rattle.pres_write.proofs.update.Update.new.Goals as goal

pub invariant_of-result : goal.invariant_of-result
invariant_of-result c =
    let p = c.args.path in
    let es = c.args.places.items in
    let same = c.in_ok-places.ensures.0 in
    let listed = c.as_slice.ensures.value in
    let listed-2 = c.as_slice-2.ensures.value in
    let fit : All (FitsBelow p) es = subst (All (FitsBelow p)) listed (c.has_deep.ensures.fit c.if-has_deep.false) in
    let apart : overlap (keys_of es) ≡ false = ap (λ ps. overlap (keys_of ps)) (sym listed-2) ∙ sym c.meet_anywhere.ensures ∙ c.if-meet_anywhere.false in
    record {
      path = subst IsPath c.path.view_is c.path.invariant;
      in_order = c.in_ok-places.ensures.1;
      apart = ap (λ ps. overlap (keys_of ps)) same ∙ apart_sorted es apart;
      few = omega (arith, ap length same, length-sorted_by path_cmp es, c.if-len-gt-MOST.false, c.len.ensures);
      fit = subst (All (FitsBelow p)) (sym same) (fit_sorted p es fit);
    }
