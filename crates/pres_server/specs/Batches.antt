-- The entries of one batch: a single one, or an end and the newer session.
use Rattle.std.specs.Prelude.{◌≡◌, ◌≢◌}
use Rattle.pres_ids.specs.declared.id.Why.TheVariants.{Superseded}
use Rattle.pres_log.specs.declared.entry.Entry.{Entry}
use Rattle.pres_log.specs.declared.entry.Entry.TheVariants as entry

-- no end for a newer session
abbrev pub IsPlain : Entry → Type 0
IsPlain (entry.Ended s q why rows) = why ≢ Superseded
IsPlain _ = Unit {0}

-- a newer session of the same client takes the place of an open one
abbrev pub Supersedes : Entry → Entry → Type 0
Supersedes (entry.Ended s q why rows) (entry.Open t) = (why ≡ Superseded) × (s.client ≡ t.client)
Supersedes _ _ = ⊥
