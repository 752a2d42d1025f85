-- Lists that are written item by item.
use Rattle.std.proofs.Common.{◌≡◌, ℕ, ◌≤◌, List, map, Option, Some}
use Rattle.json.specs.Token.{Token}
use Rattle.json.specs.Tree.{items_tokens}
use Rattle.serde_json.specs.Data.{Data, items_depth}
use Rattle.serde_json.specs.Read.{of_items}
use Rattle.serde_json.specs.View.{items_of}
use Rattle.serde_json.specs.Written.{items_outline}
use Rattle.pres_batch_json.specs.Reads.{all_of}

-- what is written of the last items of a list, with its end
abbrev pub last_items : {A : Type 0} → (A → Data) → List A → List Token
last_items json xs = items_tokens (items_outline (items_of (map json xs)))

-- what the items are written as is read again, and nests few levels
pub record AreRead {A : Type 0} (json : A → Data) (found : Data → Option A) (kept : A → A) (levels : ℕ) (xs : List A) : Type 0 where
  pub plain : of_items (items_outline (items_of (map json xs))) ≡ Some (items_of (map json xs))
  pub reads_back : all_of found (items_of (map json xs)) ≡ Some (map kept xs)
  pub low : items_depth (items_of (map json xs)) ≤ levels
