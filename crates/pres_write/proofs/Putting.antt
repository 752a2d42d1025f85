-- What an update puts: its drafts at their whole paths.
use Rattle.std.proofs.Common.{◌≡◌, ◌≤◌, List, [], ◌∷◌, ◌++◌, length, map, suc, refl, sym, ap, subst, ◌∙◌, arith}
use Rattle.std.specs.List.{AllByRecursion}
use Rattle.std.specs.List.Sorted.{IsStrictlySortedBy}
use Rattle.std.specs.Map.{keys_of}
use Rattle.std.specs.Ordering.{ordering_then}
use Rattle.std.specs.declared.cmp.Ordering.TheVariants.{Less}
use Rattle.std.specs.Cmp.{tied_itself}
use Rattle.std.specs.Cmp.Lexicographic.{nat_list_cmp_total}
use Rattle.pres_tree.specs.Paths.{Path, path_cmp, overlap}
use Rattle.pres_tree.specs.Rows.{Rows}
use Rattle.pres_write.specs.declared.draft.DraftLeaf.{DraftLeaf}
use Rattle.pres_write.specs.Unconditionals.{ArePuts, puts_below}
use Rattle.pres_write.specs.Updates.{Places, PlacesBelow, IsUpdate, most_places}
use Rattle.pres_write.proofs.Overlaps.{overlap-joined}

path_cmp-joined : (p x y : Path) → path_cmp (p ++ x) (p ++ y) ≡ path_cmp x y
path_cmp-joined [] x y = refl
path_cmp-joined (k ∷ p) x y = ap (λ o. ordering_then o (path_cmp (p ++ x) (p ++ y))) (tied_itself nat_list_cmp_total k) ∙ path_cmp-joined p x y

less_joined : (p x : Path) (ys : List Path) → AllByRecursion (λ y. path_cmp x y ≡ Less) ys → AllByRecursion (λ y. path_cmp (p ++ x) y ≡ Less) (map (λ q. p ++ q) ys)
less_joined p x [] h = tt
less_joined p x (y ∷ ys) h = (path_cmp-joined p x y ∙ h.0, less_joined p x ys h.1)

in_order-joined : (p : Path) (xs : List Path) → IsStrictlySortedBy path_cmp xs → IsStrictlySortedBy path_cmp (map (λ q. p ++ q) xs)
unfolding IsStrictlySortedBy
in_order-joined p [] h = tt
in_order-joined p (x ∷ xs) h = (less_joined p x xs h.0, in_order-joined p xs h.1)

keys_below : (p : Path) (es : Places) → keys_of (puts_below (record { path = p; places = es })) ≡ map (λ q. p ++ q) (keys_of es)
keys_below p [] = refl
keys_below p (e ∷ es) = ap (λ ks. (p ++ e.0) ∷ ks) (keys_below p es)

length_below : (p : Path) (es : Places) → length (puts_below (record { path = p; places = es })) ≡ length es
length_below p [] = refl
length_below p (e ∷ es) = ap suc (length_below p es)

pub are_puts : (u : PlacesBelow) → IsUpdate u → ArePuts (puts_below u)
are_puts u h = record {
  in_order = subst (IsStrictlySortedBy path_cmp) (sym (keys_below u.path u.places)) (in_order-joined u.path (keys_of u.places) h.in_order);
  apart = ap overlap (keys_below u.path u.places) ∙ overlap-joined u.path (keys_of u.places) ∙ h.apart;
  few = subst (λ n. n ≤ most_places) (sym (length_below u.path u.places)) h.few;
}

-- one place more
pub puts_more : (p : Path) (done : Places) (e : Path × Rows DraftLeaf) → puts_below (record { path = p; places = done ++ e ∷ [] }) ≡ puts_below (record { path = p; places = done }) ++ (p ++ e.0, e.1) ∷ []
puts_more p [] e = refl
puts_more p (d ∷ done) e = ap (λ ps. (p ++ d.0, d.1) ∷ ps) (puts_more p done e)

pub one_put : (e : Path × Rows DraftLeaf) → ArePuts (e ∷ [])
unfolding IsStrictlySortedBy
one_put e = record { in_order = (tt, tt); apart = refl; few = omega arith }
