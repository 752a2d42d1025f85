use Rattle.std.proofs.Common.{◌≡◌, [], ◌∷◌, ◌++◌, ap, sym, subst, ◌∙◌, append_assoc}
use Rattle.std.specs.List.Sorted.{IsStrictlySortedBy}
use Rattle.std.specs.Map.{keys_of}
use Rattle.pres_tree.specs.Keys.{key_cmp}
use Rattle.pres_tree.proofs.Places.{first_in}
use Rattle.pres_tree.proofs.children.spill.Goals as goal

pub entries-preserved : goal.entries-preserved
entries-preserved g c =
    let l = c.entries in
    let xs = c.pop.new.self.items in
    let es = l.many.entries in
    let k = c.in-Some.key in
    let v = c.in-Some.value in
    let all : xs ++ (k, v) ∷ es ≡ c.args.few.now.items ++ c.args.many.now.entries = sym (append_assoc xs ((k, v) ∷ []) es) ∙ ap (λ q. q ++ es) (sym c.in-Some.ensures.items) ∙ l.invariant.0 in
    let rise = subst (λ q. IsStrictlySortedBy key_cmp (keys_of q)) (sym all) c.requires in
    (ap (λ q. xs ++ q) (c.in-Ok.ensures.entries ∙ first_in xs es k v rise) ∙ all, c.in-Some.ensures.capacity ∙ l.invariant.1)
