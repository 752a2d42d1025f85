-- Batches: entries that are made at one moment.
use Rattle.std.specs.Prelude.{ℕ, Bool, true, false, List, [], ◌∷◌}
use Rattle.pres_log.specs.declared.entry.Entry.{Entry}
use Rattle.pres_log.specs.declared.entry.Entry.TheVariants as entry

-- the entries, the number of the first one in the log, and the moment of all
pub record MadeTogether : Type 0 where
  pub first : ℕ
  pub moment : ℕ
  pub entries : List Entry

-- the end of a session, and the opening of one
abbrev pub ends_and_opens : Entry → Entry → Bool
ends_and_opens (entry.Ended s q why rows) (entry.Open t) = true
ends_and_opens _ _ = false

-- a batch may hold one entry, or the end of a session and the opening of one
abbrev pub may_hold : List Entry → Bool
may_hold (e ∷ []) = true
may_hold (e ∷ f ∷ []) = ends_and_opens e f
may_hold _ = false
