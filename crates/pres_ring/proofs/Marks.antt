-- How many lines have no mark.
use Rattle.std.proofs.Common.{refl, sym, ◌∙◌, ap, ◌≡◌, ◌≤◌, ℕ, suc, Bool, true, false, not, cond, true≢false, Some, is_some, List, [], ◌∷◌, filter, length, arith}
use Rattle.std.specs.Map.{lookup, remove_entry, set_value}
use Rattle.pres_ids.specs.declared.id.SessionId.{SessionId}
use Rattle.pres_ring.specs.declared.session_feed.SessionFeed.{SessionFeed}
use Rattle.pres_ring.specs.Lines.{SessionLine, Lines, unmarked}
use Rattle.pres_ring.specs.InternalFeeds.{line_of, lines_of}

-- the lines without a mark
abbrev bare : Lines → Lines
bare lines = filter (λ e. not (is_some e.1.mark)) lines

one_more : (a b : ℕ) → a ≤ b → suc a ≤ suc b
one_more a b h = omega (arith, h)

same_count : (a : ℕ) → a ≤ a
same_count a = omega arith

one_later : (a : ℕ) → a ≤ suc a
one_later a = omega arith

gone : (m : Bool) (x : SessionId × SessionLine) (xs : Lines) → length xs ≤ length (cond m (x ∷ xs) xs)
gone true x xs = one_later (length xs)
gone false x xs = same_count (length xs)

kept : (m : Bool) (x : SessionId × SessionLine) (xs ys : Lines) → length xs ≤ length ys → length (cond m (x ∷ xs) xs) ≤ length (cond m (x ∷ ys) ys)
kept true x xs ys h = one_more (length xs) (length ys) h
kept false x xs ys h = h

swapped : (a b : Bool) (x y : SessionId × SessionLine) (xs : Lines) → (b ≡ false → a ≡ false) → length (cond a (x ∷ xs) xs) ≤ length (cond b (y ∷ xs) xs)
swapped true true x y xs h = same_count (suc (length xs))
swapped true false x y xs h = absurd (true≢false (h refl))
swapped false b x y xs h = gone b y xs

pub removed_fewer : (test : SessionId → Bool) (es : List (SessionId × SessionFeed)) → unmarked (lines_of (remove_entry test es)) ≤ unmarked (lines_of es)
removed_fewer test [] = same_count 0
removed_fewer test (e ∷ es) = elim (test e.0) as (λ b. unmarked (lines_of (cond b es (e ∷ remove_entry test es))) ≤ unmarked (lines_of (e ∷ es))) [
  | true ↦ gone (not (is_some e.1.mark)) (e.0, line_of e.1) (bare (lines_of es))
  | false ↦ kept (not (is_some e.1.mark)) (e.0, line_of e.1) (bare (lines_of (remove_entry test es))) (bare (lines_of es)) (removed_fewer test es)
]

-- a place changes that keeps its mark, or gets one
pub changed_fewer : (test : SessionId → Bool) (es : List (SessionId × SessionFeed)) (v w : SessionFeed) → lookup test es ≡ Some v → (not (is_some v.mark) ≡ false → not (is_some w.mark) ≡ false)
    → unmarked (lines_of (set_value test es w)) ≤ unmarked (lines_of es)
changed_fewer test [] v w e h = same_count 0
changed_fewer test (x ∷ es) v w e h = elim (test x.0) as (λ b. cond b (Some x.1) (lookup test es) ≡ Some v → unmarked (lines_of (cond b ((x.0, w) ∷ es) (x ∷ set_value test es w))) ≤ unmarked (lines_of (x ∷ es))) [
  | true ↦ λ k. swapped (not (is_some w.mark)) (not (is_some x.1.mark)) (x.0, line_of w) (x.0, line_of x.1) (bare (lines_of es)) (λ n. h (ap (λ (p : SessionFeed). not (is_some p.mark)) (sym (here x.1 v k)) ∙ n))
  | false ↦ λ k. kept (not (is_some x.1.mark)) (x.0, line_of x.1) (bare (lines_of (set_value test es w))) (bare (lines_of es)) (changed_fewer test es v w k h)
] e where
  here : (p q : SessionFeed) → Some p ≡ Some q → p ≡ q
  here p q k = cc k
