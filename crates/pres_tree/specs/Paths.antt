-- Paths: lists of keys from the root to a place, and their texts.
-- Paths are ordered key by key, a prefix first, as Rust orders a `Vec<Vec<u8>>`.
use Rattle.std.specs.Prelude.{◌≤◌, ◌==◌, ◌||◌, ℕ, Bool, false, IsTrue, List, [], ◌∷◌, ◌++◌, if◌then◌else◌, Option, Some, None, is_some, nat_lt, length, filter}
use Rattle.std.specs.List.{list_any, list_all, slice_split}
use Rattle.std.specs.Option.{option_or}
use Rattle.std.specs.declared.cmp.Ordering.{Ordering}
use Rattle.std.specs.Cmp.Lexicographic.{slice_cmp, pointwise}
use Rattle.std.specs.FinMap.Entries.{put}
use Rattle.pres_tree.specs.Keys.{Key, key_cmp, same_key, key_fault, is_key}
use Rattle.pres_tree.specs.declared.fault.TreeFault.{TreeFault}
use Rattle.pres_tree.specs.declared.fault.TreeFault.TheVariants.{TooDeep}

abbrev pub Path : Type 0
Path = List Key

-- the keys from the root to the deepest scalar: Firebase Realtime Database nests data at most 32 levels
abbrev pub max_depth : ℕ
max_depth = 32

-- a path has no more keys than that
abbrev pub IsPath : Path → Type 0
IsPath p = (length p ≤ max_depth) × IsTrue (list_all is_key p)

abbrev pub path_cmp : Path → Path → Ordering
path_cmp = slice_cmp key_cmp

-- the same keys
abbrev pub same_path : Path → Path → Bool
same_path = pointwise (pointwise ◌==◌)

-- what is left of x below p, where p is a prefix of x
abbrev pub below : Path → Path → Option Path
below [] x = Some x
below (k ∷ p) [] = None
below (k ∷ p) (l ∷ x) = if same_key k l then below p x else None

-- p stands at x or above it
abbrev pub is_prefix : Path → Path → Bool
is_prefix p x = is_some (below p x)

-- one of the paths is at the other or above it
abbrev pub meet : Path → Path → Bool
meet p q = is_prefix p q || is_prefix q p

-- two of the paths meet
abbrev pub overlap : List Path → Bool
overlap [] = false
overlap (p ∷ ps) = list_any (meet p) ps || overlap ps

-- entries in the order of their keys; of two with one key the first stays
abbrev pub sorted_by : {K A : Type 0} → (K → K → Ordering) → List (K × A) → List (K × A)
sorted_by R [] = []
sorted_by R (e ∷ es) = put R e.0 e.1 (sorted_by R es)

-- ---- texts

-- the pieces between slashes that have bytes: the leading slash is optional, and empty pieces are skipped
abbrev pub segments : List ℕ → Path
segments text = filter (λ piece. nat_lt 0 (length piece)) (slice_split (λ b. b == 47) text)

-- what is wrong with the keys of a path, in their order
abbrev pub keys_fault : Path → Option TreeFault
keys_fault [] = None
keys_fault (k ∷ p) = option_or (key_fault k) (keys_fault p)

-- what is wrong with a text as a path: its keys first, then its depth
abbrev pub path_fault : List ℕ → Option TreeFault
path_fault text = option_or (keys_fault (segments text)) (if nat_lt max_depth (length (segments text)) then Some TooDeep else None)

abbrev pub keys_text : Path → List ℕ
keys_text [] = []
keys_text (k ∷ p) = 47 ∷ k ++ keys_text p

-- the one text of a path: a slash for the root, else each key after a slash
abbrev pub path_text : Path → List ℕ
path_text [] = 47 ∷ []
path_text (k ∷ p) = keys_text (k ∷ p)
