-- Places that do not meet, put in order.
use Rattle.std.proofs.Common.{◌≡◌, [], ◌∷◌, All, Bool, true, false, ◌||◌, Some, None, is_some, refl, sym, ap, subst, ◌∙◌}
use Rattle.std.proofs.lemmas.Bool.{false≢true}
use Rattle.std.proofs.lemmas.List.Elements.{All-nil, All-head, All-tail}
use Rattle.std.specs.List.{list_any}
use Rattle.std.specs.Map.{keys_of}
use Rattle.std.specs.FinMap.Entries.{find}
use Rattle.pres_tree.specs.Falls.{path_total, path_same}
use Rattle.pres_tree.specs.Paths.{Path, path_cmp, meet, overlap, sorted_by}
use Rattle.pres_write.specs.Updates.{Places, FitsBelow}
use Rattle.pres_write.proofs.Members.{fit-put, found-meets}
use Rattle.pres_write.proofs.Ordered.{insert_entry-put, find-sorted_by, any-put}
use Rattle.pres_write.proofs.Overlaps.{overlap-put}

neither : (a b : Bool) → (a || b) ≡ false → (a ≡ false) × (b ≡ false)
neither true b h = absurd (false≢true (sym h))
neither false b h = (refl, h)

any-sorted : (f : Path → Bool) (es : Places) → list_any f (keys_of (sorted_by path_cmp es)) ≡ list_any f (keys_of es)
any-sorted f [] = refl
any-sorted f (e ∷ es) = any-put path_cmp path_same (λ k. k) f e.0 e.1 (sorted_by path_cmp es) ∙ ap (λ b. f e.0 || b) (any-sorted f es)

none_there : (q : Path) (es : Places) → list_any (meet q) (keys_of es) ≡ false → find path_cmp q es ≡ None
none_there q es h = elim (find path_cmp q es) as (λ o. find path_cmp q es ≡ o → o ≡ None) [
  | None ↦ λ e. refl
  | Some v ↦ λ e. absurd (false≢true (sym h ∙ found-meets q es (ap is_some e)))
] refl

pub apart_sorted : (es : Places) → overlap (keys_of es) ≡ false → overlap (keys_of (sorted_by path_cmp es)) ≡ false
apart_sorted [] h = refl
apart_sorted (e ∷ es) h =
    let both = neither (list_any (meet e.0) (keys_of es)) (overlap (keys_of es)) h in
    overlap-put path_cmp path_same (λ k. k) e.0 e.1 (sorted_by path_cmp es) (find-sorted_by path_cmp path_same path_total es e.0 ∙ none_there e.0 es both.0)
    ∙ (λ i. (any-sorted (meet e.0) es ∙ both.0) i || apart_sorted es both.1 i)

pub fit_sorted : (p : Path) (es : Places) → All (FitsBelow p) es → All (FitsBelow p) (sorted_by path_cmp es)
fit_sorted p [] h = All-nil (FitsBelow p)
fit_sorted p (e ∷ es) h =
    subst (All (FitsBelow p)) (insert_entry-put path_cmp e.0 e.1 (sorted_by path_cmp es))
    (fit-put p e.0 e.1 (sorted_by path_cmp es) (All-head (FitsBelow p) e es h) (fit_sorted p es (All-tail (FitsBelow p) e es h)))
