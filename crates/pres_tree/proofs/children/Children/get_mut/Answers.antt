use Rattle.std.proofs.Common.{refl, ap, sym, subst, ◌∙◌}
use Rattle.std.specs.BTreeMap.{IsOrdered, WritesThrough, get_by}
use Rattle.pres_tree.specs.Keys.{key_cmp}
use Rattle.pres_tree.specs.Stores.{seen, IsSound}
use Rattle.pres_tree.proofs.Places.{writes, among_result}
use Rattle.pres_tree.proofs.children.Children.get_mut.Goals as goal

pub invariant_of-self-lent : goal.invariant_of-self-lent
invariant_of-self-lent g c _ =
    let after = c.get_mut.follows in
    let old = c.self.inside.store in
    ((λ w. (writes c.args.key.now w (seen old) (seen (after.lender w)) c.self.invariant (after.holds w)).4), subst IsSound (sym after.holds-at-none) c.self.invariant)

pub returns : goal.returns
returns g c =
    let k = c.args.key.now in
    let after = c.get_mut.follows in
    let old = c.self.inside.store in (
      (refl, (λ w. subst (λ m. WritesThrough key_cmp (key_cmp k) m w (seen (after.lender w))) c.self.view_is (writes k w (seen old) (seen (after.lender w)) c.self.invariant (after.holds w))), ap seen after.holds-at-none ∙ c.self.view_is),
      record {
        writes_back = tt;
        value = c.get_mut.ensures.value ∙ ap (get_by (key_cmp k)) c.self.view_is;
        member = among_result (λ v. v.now) k c.args.self.now.entries c.get_mut.result (c.get_mut.ensures.value ∙ ap (get_by (key_cmp k)) c.self.view_is);
        ordered = subst (IsOrdered key_cmp) c.self.view_is c.self.invariant;
      },
    )
