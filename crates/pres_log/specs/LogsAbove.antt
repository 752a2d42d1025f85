-- Logs that count their entries and hold none of them.
use Rattle.std.specs.Prelude.{ℕ}

pub record AboveNumber : Type 0 where
  -- how many entries there are, of which none is held
  pub number : ℕ
  -- how many batches there are
  pub batches : ℕ
