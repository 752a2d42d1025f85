-- Lists whose items are printed and read one by one.
use Rattle.std.proofs.Common.{◌≡◌, ℕ, suc, zero, ◌+◌, ◌≤◌, ◌<◌, List, [], ◌∷◌, length, map, Option, Some, refl, ap, arith}
use Rattle.std.specs.Prelude.{slice_index_or}
use Rattle.serde_json.specs.Data.{Data, depth, items_depth}
use Rattle.serde_json.specs.View.{items_of}
use Rattle.pres_batch_json.specs.Entries.{list_json}
use Rattle.pres_batch_json.specs.Reads.{all_of, list_of}

-- the JSON of the first n is read as what is kept of them
abbrev pub AllRead : {A : Type 0} → (Data → Option A) → (A → Data) → (A → A) → List A → ℕ → Type 0
AllRead {A} found json kept xs n = (k : ℕ) (d : A) → k < n → found (json (slice_index_or xs k d)) ≡ Some (kept (slice_index_or xs k d))

-- the JSON of the first n nests at most this many levels
abbrev pub AllLow : {A : Type 0} → (A → Data) → ℕ → List A → ℕ → Type 0
AllLow {A} json levels xs n = (k : ℕ) (d : A) → k < n → depth (json (slice_index_or xs k d)) ≤ levels

items_read : {A : Type 0} (found : Data → Option A) (json : A → Data) (kept : A → A) (xs : List A) → AllRead found json kept xs (length xs) → all_of found (items_of (map json xs)) ≡ Some (map kept xs)
items_read found json kept [] h = refl
items_read found json kept (a ∷ xs) h = rw (h 0 a (omega arith), items_read found json kept xs (λ k d l. h (suc k) d (omega arith))) refl

pub list_read : {A : Type 0} (found : Data → Option A) (json : A → Data) (kept : A → A) (xs : List A) → AllRead found json kept xs (length xs) → list_of found (list_json json xs) ≡ Some (map kept xs)
list_read found json kept xs h = items_read found json kept xs h

items_low : {A : Type 0} (json : A → Data) (levels : ℕ) (xs : List A) → AllLow json levels xs (length xs) → items_depth (items_of (map json xs)) ≤ levels
items_low json levels [] h = omega arith
items_low json levels (a ∷ xs) h = omega (arith, h zero a (omega arith), items_low json levels xs (λ k d l. h (suc k) d (omega arith)))

pub list_low : {A : Type 0} (json : A → Data) (levels : ℕ) (xs : List A) → AllLow json levels xs (length xs) → depth (list_json json xs) ≤ levels + 1
list_low json levels xs h = omega (arith, items_low json levels xs h)

-- a list that is kept as it is
pub map-same : {A : Type 0} (xs : List A) → map (λ a. a) xs ≡ xs
map-same [] = refl
map-same (a ∷ xs) = ap (λ bs. a ∷ bs) (map-same xs)
