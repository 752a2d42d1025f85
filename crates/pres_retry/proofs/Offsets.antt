-- Numbers as what they are past a first one.
use Rattle.std.proofs.Common.{◌≡◌, ℕ, ◌+◌, ◌≤◌, List, [], ◌∷◌, ◌++◌, ◌-◌, All, Option, Some, None, length, take, map, refl, subst, sym, ◌∙◌, ap, arith}
use Rattle.std.specs.List.{slice_get}
use Rattle.std.specs.Option.{SomeIff, option_map}
use Rattle.std.proofs.lemmas.List.{map_more, map-append, take-map, length-map}
use Rattle.std.proofs.lemmas.List.Elements.{All-get_or}
use Rattle.std.proofs.lemmas.Option.{slice_get-map, slice_get_within, get_or_from_slice_get}
use Rattle.pres_ids.specs.Numbers.{IsNumber}

-- what stands where a fact holds
pub some_where : {X : Type 0} (r : Option X) (P : Type 0) (x : X) → SomeIff r P x → P → r ≡ Some x
some_where None P x none holds = absurd (none holds)
some_where (Some y) P x is holds = ap (λ z. Some z) is.1

-- the number that an offset stands for
pub number_of : (start : ℕ) (offsets : List ℕ) (place offset : ℕ) → slice_get offsets place ≡ Some offset
    → slice_get (map (λ o. start + o) offsets) place ≡ Some (start + offset)
number_of start offsets place offset is = slice_get-map (λ o. start + o) offsets place ∙ ap (option_map (λ o. start + o)) is

-- one that stands among numbers is one
pub is_number : (numbers : List ℕ) (place n : ℕ) → All IsNumber numbers → slice_get numbers place ≡ Some n → IsNumber n
is_number numbers place n all is =
    subst IsNumber (get_or_from_slice_get numbers place n n is) (All-get_or IsNumber numbers place n (slice_get_within numbers place n is) all)

-- the numbers so far, and the one at the place
pub numbers_so_far : (start : ℕ) (offsets : List ℕ) (place offset : ℕ) → slice_get offsets place ≡ Some offset
    → map (λ o. start + o) (take (place + 1) offsets) ≡ map (λ o. start + o) (take place offsets) ++ (start + offset) ∷ []
numbers_so_far start offsets place offset is =
    map_more (λ o. start + o) offsets place offset (slice_get_within offsets place offset is)
    ∙ ap (λ o. map (λ o. start + o) (take place offsets) ++ (start + o) ∷ []) (get_or_from_slice_get offsets place offset offset is)

-- the numbers but the last
pub numbers_left : (start : ℕ) (offsets left : List ℕ) → left ≡ take (length offsets - 1) offsets
    → map (λ o. start + o) left ≡ take (length (map (λ o. start + o) offsets) - 1) (map (λ o. start + o) offsets)
numbers_left start offsets left is =
    ap (map (λ o. start + o)) is
    ∙ sym (take-map (λ o. start + o) (length offsets - 1) offsets)
    ∙ ap (λ n. take (n - 1) (map (λ o. start + o) offsets)) (sym (length-map offsets (λ o. start + o)))

-- a number more
pub numbers_more : (start : ℕ) (offsets : List ℕ) (n : ℕ) → start ≤ n → map (λ o. start + o) (offsets ++ (n - start) ∷ []) ≡ map (λ o. start + o) offsets ++ n ∷ []
numbers_more start offsets n past =
    let is : start + (n - start) ≡ n = omega (arith, past) in
    map-append (λ o. start + o) offsets ((n - start) ∷ []) ∙ ap (λ m. map (λ o. start + o) offsets ++ m ∷ []) is

-- numbers past 0 are what they are past it
pub from_zero : (numbers : List ℕ) → map (λ o. 0 + o) numbers ≡ numbers
from_zero [] = refl
from_zero (n ∷ numbers) =
    let is : 0 + n ≡ n = omega arith in
    ap (λ m. m ∷ map (λ o. 0 + o) numbers) is ∙ ap (λ ns. n ∷ ns) (from_zero numbers)
