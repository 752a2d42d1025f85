-- A session listens to a path exactly where an On of it has no later Off of it.
use Rattle.std.proofs.Common.{refl, sym, ◌∙◌, ap, ◌≡◌, List, [], ◌∷◌, fold, filter, Bool, true, false, not, cond, ◌||◌, ◌&&◌, Ordering, Less, Equal, Greater}
use Rattle.std.specs.List.{list_any}
use Rattle.std.specs.Ordering.{match_ordering}
use Rattle.std.specs.Cmp.{both_ways}
use Rattle.pres_tree.specs.Paths.{Path, path_cmp, same_path}
use Rattle.pres_tree.specs.Falls.{path_same as path_apart}
use Rattle.pres_tree.proofs.PathOrder.{path_same, path_itself}
use Rattle.pres_ids.specs.declared.id.SessionId.{SessionId}
use Rattle.pres_fan.specs.Listeners.{add_path}
use Rattle.pres_log.specs.declared.entry.Entry.{Entry}
use Rattle.pres_log.specs.declared.entry.Entry.TheVariants as entry
use Rattle.pres_history.specs.Sessions.{own}
use Rattle.pres_history.specs.Listening.{listens_after}
use Rattle.pres_history.specs.Laws.{is_off, has_lasting_on, ListensByOns}

abbrev has_path : Path → List Path → Bool
has_path p paths = list_any (same_path p) paths

one_way : (p y : Path) → same_path p y ≡ true → same_path y p ≡ true
one_way p y e = ap (same_path y) (path_same p y e) ∙ path_itself y

flip : (p y : Path) → same_path p y ≡ same_path y p
flip p y = both_ways (same_path p y) (same_path y p) (one_way p y) (one_way y p)

twice : (a m : Bool) → (a || m) ≡ (a || (a || m))
twice true m = refl
twice false m = refl

swapped : (a b m : Bool) → (b || (a || m)) ≡ (a || (b || m))
swapped true true m = refl
swapped true false m = refl
swapped false true m = refl
swapped false false m = refl

-- ---- one path more, and one less

has-add : (p y : Path) (paths : List Path) → has_path p (add_path y paths) ≡ (same_path y p || has_path p paths)
has-add p y [] = ap (λ b. b || false) (flip p y)
has-add p y (x ∷ xs) = by (path_cmp y x) refl (has-add p y xs) where
  by : (o : Ordering) → path_cmp y x ≡ o → has_path p (add_path y xs) ≡ (same_path y p || has_path p xs)
      → has_path p (match_ordering o (y ∷ x ∷ xs) (x ∷ xs) (x ∷ add_path y xs)) ≡ (same_path y p || (same_path p x || has_path p xs))
  by Less e h = ap (λ b. b || (same_path p x || has_path p xs)) (flip p y)
  by Equal e h =
      let same : same_path p x ≡ same_path y p = flip p x ∙ ap (λ z. same_path z p) (sym (path_apart y x e)) in
      twice (same_path p x) (has_path p xs) ∙ ap (λ b. b || (same_path p x || has_path p xs)) same
  by Greater e h = ap (λ b. same_path p x || b) h ∙ swapped (same_path y p) (same_path p x) (has_path p xs)

out : (a b m : Bool) → (b ≡ true → a ≡ true) → (not a && m) ≡ (not a && (b || m))
out true b m f = refl
out false true m f = ap (λ c. not c && m) (f refl) ∙ ap (λ c. not c && true) (sym (f refl))
out false false m f = refl

stays : (a b m n : Bool) → (b ≡ true → a ≡ false) → n ≡ (not a && m) → (b || n) ≡ (not a && (b || m))
stays a true m n f h = sym (ap (λ c. not c && true) (f refl))
stays a false m n f h = h

has-remove : (p y : Path) (paths : List Path) → has_path p (filter (λ x. not (same_path y x)) paths) ≡ (not (same_path y p) && has_path p paths)
has-remove p y [] = sym (none (same_path y p)) where
  none : (a : Bool) → (not a && false) ≡ false
  none true = refl
  none false = refl
has-remove p y (x ∷ xs) = by (same_path y x) refl (has-remove p y xs) where
  left : List Path
  left = filter (λ z. not (same_path y z)) xs

  by : (b : Bool) → same_path y x ≡ b → has_path p left ≡ (not (same_path y p) && has_path p xs)
      → has_path p (cond (not b) (x ∷ left) left) ≡ (not (same_path y p) && (same_path p x || has_path p xs))
  by true e h = h ∙ out (same_path y p) (same_path p x) (has_path p xs) (λ k. ap (same_path y) (path_same p x k) ∙ e)
  by false e h = stays (same_path y p) (same_path p x) (has_path p xs) (has_path p left) (λ k. ap (same_path y) (path_same p x k) ∙ e) h

-- ---- all entries

whole : (m : Bool) → m ≡ ((m && true) || false)
whole true = refl
whole false = refl

on_more : (a m n l : Bool) → (((a || m) && n) || l) ≡ ((m && n) || ((a && n) || l))
on_more true true true l = refl
on_more true true false l = refl
on_more true false n l = refl
on_more false true true l = refl
on_more false true false l = refl
on_more false false n l = refl

off_more : (a m o l : Bool) → (((not a && m) && not o) || l) ≡ ((m && not (a || o)) || l)
off_more true true o l = refl
off_more true false o l = refl
off_more false m o l = refl

-- what is listened to in the end: what was, with no Off, and what an On added, with no later Off
lasting : (p : Path) (paths : List Path) (es : List Entry) → has_path p (fold listens_after paths es) ≡ ((has_path p paths && not (list_any (is_off p) es)) || has_lasting_on p es)
lasting p paths [] = whole (has_path p paths)
lasting p paths (entry.Open s ∷ es) = lasting p paths es
lasting p paths (entry.Op s q n op outcome ∷ es) = lasting p paths es
lasting p paths (entry.Again s q n ∷ es) = lasting p paths es
lasting p paths (entry.Left s q puts ∷ es) = lasting p paths es
lasting p paths (entry.Cancelled s q path ∷ es) = lasting p paths es
lasting p paths (entry.Denied s q why ∷ es) = lasting p paths es
lasting p paths (entry.On s q path ∷ es) =
    lasting p (add_path path paths) es
    ∙ ap (λ b. (b && not (list_any (is_off p) es)) || has_lasting_on p es) (has-add p path paths)
    ∙ on_more (same_path path p) (has_path p paths) (not (list_any (is_off p) es)) (has_lasting_on p es)
lasting p paths (entry.Off s q path ∷ es) =
    lasting p (filter (λ x. not (same_path path x)) paths) es
    ∙ ap (λ b. (b && not (list_any (is_off p) es)) || has_lasting_on p es) (has-remove p path paths)
    ∙ off_more (same_path path p) (has_path p paths) (list_any (is_off p) es) (has_lasting_on p es)
lasting p paths (entry.Ended s q why rows ∷ es) = lasting p paths es

pub listens_by_ons : (s : SessionId) (p : Path) (es : List Entry) → ListensByOns s p es
listens_by_ons s p es = lasting p [] (own s es)
