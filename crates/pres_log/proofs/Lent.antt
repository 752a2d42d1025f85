-- An item that a list lends.
use Rattle.std.proofs.Common.{◌≡◌, ◌≤◌, ◌<◌, ℕ, refl, sym, List, Option, Some, None, MatchOption, length, slice_get}
use Rattle.std.proofs.lemmas.Option.{slice_get_read, slice_get_past}
use Rattle.std.specs.List.{HoldsAt}
use Rattle.std.specs.Borrow.{Bor}
use Rattle.std.specs.Option.{option_copied}

pub lent_item : {X : Type 0} (xs : List X) (i : ℕ) (r : Option (Bor X)) → MatchOption r (length xs ≤ i) (λ x. (i < length xs) × HoldsAt (λ y. x.now ≡ y) xs i) → option_copied r ≡ slice_get xs i
lent_item xs i None past = sym (slice_get_past xs i past)
lent_item xs i (Some x) at = sym (slice_get_read xs (length xs) i x.now refl at.0 (at.1 x.now))
