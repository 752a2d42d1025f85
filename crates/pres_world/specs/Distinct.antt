-- Lists of client ids.
use Rattle.std.specs.Prelude.{◌≡◌, ℕ, List, Some, slice_get}
use Rattle.pres_ids.specs.Ids.{ClientId}

-- no client id stands at two places
pub record AreDistinct (ids : List ClientId) : Type 0 where
  pub once : (i j : ℕ) (id : ClientId) → slice_get ids i ≡ Some id → slice_get ids j ≡ Some id → i ≡ j
