-- Where an entry stands, and what one batch more adds.
use Rattle.std.proofs.Common.{◌≡◌, ◌+◌, ◌-◌, ◌<◌, ◌≤◌, ℕ, zero, suc, List, [], ◌∷◌, ◌++◌, length, map, max, take, get_or, leb, true, false, refl, sym, ap, subst, ◌∙◌, Some, None, slice_get, arith, inl, inr}
use Rattle.std.proofs.lemmas.List.{append-nil, length-append, map-append, take_all, take-append-le}
use Rattle.std.proofs.lemmas.List.Concat.{flat_map-append}
use Rattle.std.proofs.lemmas.Bool.{cases_lt}
use Rattle.std.proofs.lemmas.List.Sorted.{IsNonDecreasingBy-from_all_adjacent}
use Rattle.std.proofs.lemmas.Option.{slice_get-get_or, get_or_from_slice_get, slice_get_past, slice_get_within, slice_get_cases, same_Some}
use Rattle.std.proofs.lemmas.Bool.Decides.{nat_tests}
use Rattle.std.specs.List.Sorted.{IsNonDecreasingBy, IsPartitionPoint}
use Rattle.pres_tree.specs.Writes.{tree_after}
use Rattle.pres_tree.proofs.Last.{tree_grows}
use Rattle.pres_write.specs.Basics.{applied, write_of}
use Rattle.pres_log.specs.declared.entry.Batch.{Batch}
use Rattle.pres_log.specs.declared.entry.Entry.{Entry}
use Rattle.pres_log.specs.Logs.{Log, IsNumbered, entries, number, entry_at, last_moment, writes, writes_of, tree}

-- ---- items of joined lists

slice_get_left : {A : Type 0} (xs ys : List A) (j : ℕ) → j < length xs → slice_get (xs ++ ys) j ≡ slice_get xs j
slice_get_left [] ys j lt = absurd (omega arith)
slice_get_left (x ∷ xs) ys zero lt = refl
slice_get_left (x ∷ xs) ys (suc j) lt = slice_get_left xs ys j (omega arith)

slice_get_right : {A : Type 0} (xs ys : List A) (j : ℕ) → slice_get (xs ++ ys) (length xs + j) ≡ slice_get ys j
slice_get_right [] ys j = let same : 0 + j ≡ j = omega arith in ap (slice_get ys) same
slice_get_right (x ∷ xs) ys j =
    let next : length (x ∷ xs) + j ≡ suc (length xs + j) = omega arith in
    ap (slice_get (x ∷ (xs ++ ys))) next ∙ slice_get_right xs ys j

-- ---- one batch more

pub entries-push : (log : Log) (b : Batch) → entries (log ++ b ∷ []) ≡ entries log ++ b.entries
entries-push log b = flat_map-append (λ (c : Batch). c.entries) log (b ∷ []) ∙ ap (λ es. entries log ++ es) (append-nil b.entries)

pub number-push : (log : Log) (b : Batch) → number (log ++ b ∷ []) ≡ number log + length b.entries
number-push log b = ap length (entries-push log b) ∙ length-append (entries log) b.entries

pub last_moment-push : (log : Log) (b : Batch) → last_moment (log ++ b ∷ []) ≡ max (last_moment log) b.moment
last_moment-push [] b = omega arith
last_moment-push (c ∷ log) b = let rest = last_moment-push log b in omega (arith, rest)

pub writes-append : (es more : List Entry) → writes (es ++ more) ≡ writes es ++ writes more
writes-append es more = flat_map-append writes_of es more

-- the tree after further entries is the tree after their writes
pub tree-append : (es more : List Entry) → tree (es ++ more) ≡ applied (tree es) (writes more)
tree-append es more =
    ap (λ ws. tree_after (map write_of ws)) (writes-append es more)
    ∙ ap tree_after (map-append write_of (writes es) (writes more))
    ∙ sym (tree_grows (map write_of (writes es)) (map write_of (writes more)))

-- ---- the first numbers

number-take : (log : Log) (i : ℕ) (b : Batch) → slice_get log i ≡ Some b → number (take (suc i) log) ≡ number (take i log) + length b.entries
number-take [] i b is = cc
number-take (c ∷ log) zero b is =
    let long : length (c.entries ++ []) ≡ length c.entries = ap length (append-nil c.entries) in
    let equal : length c.entries ≡ length b.entries = ap (λ (x : Batch). length x.entries) (same_Some c b is) in
    omega (arith, long, equal)
number-take (c ∷ log) (suc i) b is =
    let rest = number-take log i b is in
    let more = length-append c.entries (entries (take (suc i) log)) in
    let less = length-append c.entries (entries (take i log)) in
    omega (arith, more, less, rest)

pub IsNumbered-push : (log : Log) (b : Batch) → IsNumbered log → b.first ≡ number log + 1 → IsNumbered (log ++ b ∷ [])
IsNumbered-push log b is first = λ i c at.
    elim (cases_lt i (length log)) [
      | inl within ↦
          is i c (sym (slice_get_left log (b ∷ []) i within) ∙ at)
          ∙ ap (λ l. number l + 1) (sym (take-append-le i log (b ∷ []) (omega arith)))
      | inr past ↦
          let below = slice_get_within (log ++ b ∷ []) i c at in
          let size = length-append log (b ∷ []) in
          let place : i ≡ length log + 0 = omega (arith, below, size) in
          let same : b ≡ c = same_Some b c (sym (slice_get_right log (b ∷ []) 0) ∙ ap (slice_get (log ++ b ∷ [])) (sym place) ∙ at) in
          let before : take i (log ++ b ∷ []) ≡ log = take-append-le i log (b ∷ []) (omega arith) ∙ take_all i log past in
          ap (λ (x : Batch). x.first) (sym same) ∙ first ∙ ap (λ l. number l + 1) (sym before)
    ]

-- the last batch tells how many entries there are
pub number_by_last : (log : Log) (i : ℕ) (b : Batch) → IsNumbered log → slice_get log i ≡ Some b → suc i ≡ length log → number log ≡ (b.first - 1) + length b.entries
number_by_last log i b is at last =
    let first = is i b at in
    let more = number-take log i b at in
    let whole : number (take (suc i) log) ≡ number log = ap number (take_all (suc i) log (omega (arith, last))) in
    omega (arith, first, more, whole)

-- batches rise by their first numbers
pub firsts_rise : (log : Log) → IsNumbered log → IsNonDecreasingBy (λ (b : Batch). b.first) log
firsts_rise log is =
    IsNonDecreasingBy-from_all_adjacent (λ (b : Batch). b.first) log
    (λ k d within.
    let here = slice_get-get_or log k d (omega (arith, within)) in
    let there = slice_get-get_or log (k + 1) d within in
    let first = is k (get_or log k d) here in
    let next = is (k + 1) (get_or log (k + 1) d) there in
    let more = number-take log k (get_or log k d) here in
    let after : k + 1 ≡ suc k = omega arith in
    let step : number (take (k + 1) log) ≡ number (take (suc k) log) = ap (λ n. number (take n log)) after in
    omega (arith, first, next, more, step))

from_test : (m n : ℕ) → leb m n ≡ true → m ≤ n
from_test m n is = grind (arith, nat_tests)

from_no_test : (m n : ℕ) → leb m n ≡ false → n < m
from_no_test m n is = grind (arith, nat_tests)

-- where a search by the first numbers ends
abbrev pub IsBegun : Log → ℕ → ℕ → Type 0
IsBegun log k i = IsPartitionPoint (λ (b : Batch). leb b.first k ≡ true) (λ (b : Batch). leb b.first k ≡ false) log i

pub begun_before : (log : Log) (k i : ℕ) → IsBegun log k i → (j : ℕ) (b : Batch) → j < i → slice_get log j ≡ Some b → b.first ≤ k
begun_before log k i point j b below at =
    from_test b.first k (subst (λ (x : Batch). leb x.first k ≡ true) (get_or_from_slice_get log j b b at) (point.0 j b (omega arith) below))

pub begun_after : (log : Log) (k i : ℕ) → IsBegun log k i → (b : Batch) → slice_get log i ≡ Some b → k < b.first
begun_after log k i point b at =
    from_no_test b.first k (subst (λ (x : Batch). leb x.first k ≡ false) (get_or_from_slice_get log i b b at) (point.1 i b (omega arith) (slice_get_within log i b at)))

-- ---- an entry by its number

in_batch : (log : Log) (i j : ℕ) (b : Batch) → slice_get log i ≡ Some b → j < length b.entries → slice_get (entries log) (number (take i log) + j) ≡ slice_get b.entries j
in_batch [] i j b at lt = cc
in_batch (c ∷ log) zero j b at lt =
    let same : c ≡ b = same_Some c b at in
    let start : number (take zero (c ∷ log)) + j ≡ j = omega arith in
    let short : j < length c.entries = subst (λ (x : Batch). j < length x.entries) (sym same) lt in
    ap (slice_get (c.entries ++ entries log)) start ∙ slice_get_left c.entries (entries log) j short ∙ ap (λ (x : Batch). slice_get x.entries j) same
in_batch (c ∷ log) (suc i) j b at lt =
    let before = length-append c.entries (entries (take i log)) in
    let place : number (take (suc i) (c ∷ log)) + j ≡ length c.entries + (number (take i log) + j) = omega (arith, before) in
    ap (slice_get (c.entries ++ entries log)) place ∙ slice_get_right c.entries (entries log) (number (take i log) + j) ∙ in_batch log i j b at lt

entry_in : (log : Log) (i k : ℕ) (b : Batch) → IsNumbered log → slice_get log i ≡ Some b → b.first ≤ k → k < b.first + length b.entries → entry_at log k ≡ slice_get b.entries (k - b.first)
entry_in log i zero b is at low high = let first = is i b at in absurd (omega (arith, first))
entry_in log i (suc k) b is at low high =
    let first = is i b at in
    let place : k ≡ number (take i log) + (suc k - b.first) = omega (arith, first) in
    ap (slice_get (entries log)) place ∙ in_batch log i (suc k - b.first) b at (omega (arith, first))

entry_past : (log : Log) (k : ℕ) → number log < k → entry_at log k ≡ None
entry_past log zero past = absurd (omega arith)
entry_past log (suc k) past = slice_get_past (entries log) k (omega arith)

-- no batch begins at the number or before it
pub entry_before_all : (log : Log) (k : ℕ) → IsNumbered log → ((b : Batch) → slice_get log 0 ≡ Some b → k < b.first) → entry_at log k ≡ None
entry_before_all log zero is above = refl
entry_before_all [] (suc k) is above = refl
entry_before_all (b ∷ log) (suc k) is above =
    let first = is 0 b refl in
    let none : number (take 0 (b ∷ log)) ≡ 0 = refl in
    let high = above b refl in
    absurd (omega (arith, first, none, high))

-- the batch at i is the last one that begins at the number or before it
pub entry_found : (log : Log) (i k : ℕ) (b : Batch) → IsNumbered log → slice_get log i ≡ Some b → b.first ≤ k → ((c : Batch) → slice_get log (suc i) ≡ Some c → k < c.first) → entry_at log k ≡ slice_get b.entries (k - b.first)
entry_found log i k b is at low next =
    elim (cases_lt k (b.first + length b.entries)) [
      | inl within ↦ entry_in log i k b is at low within
      | inr past ↦
          let none : slice_get b.entries (k - b.first) ≡ None = slice_get_past b.entries (k - b.first) (omega arith) in
          let first = is i b at in
          let more = number-take log i b at in
          elim (slice_get_cases log (suc i)).1 [
            | inl more_of ↦
                let high = next more_of.0 more_of.2 in
                let after = is (suc i) more_of.0 more_of.2 in
                absurd (omega (arith, first, more, high, after))
            | inr end ↦
                let here = slice_get_within log i b at in
                let count = number_by_last log i b is at (omega (arith, here, end.0)) in
                entry_past log k (omega (arith, count, first)) ∙ sym none
          ]
    ]
