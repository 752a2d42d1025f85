-- An index that takes in entries without their answers, all of them or none.
use Rattle.std.specs.Prelude.{◌≡◌, ◌+◌, ◌&&◌, ℕ, Bool, false, not, IsSome, length, Option, Some, None, List, [], ◌∷◌}
use Rattle.pres_tree.specs.declared.scalar.Scalar.{Scalar}
use Rattle.pres_tree.specs.Paths.{Path, meet}
use Rattle.pres_tree.specs.Rows.{Rows, Fits, is_null, rows_in}
use Rattle.pres_tree.specs.Writes.{write, after}
use Rattle.pres_write.specs.Basics.{BasicWrite, applied}
use Rattle.pres_retry.specs.Tables.{rows_of}
use Rattle.pres_log.specs.declared.entry.Entry.{Entry}
use Rattle.pres_log.specs.declared.entry.Entry.TheVariants as entry
use Rattle.pres_server.specs.declared.index.Index.{Index}
use Rattle.pres_server.specs.InternalIndex.{session_at, gone_at}
use Rattle.pres_server.specs.InternalSums.{Agrees}
use Rattle.pres_server.specs.Sums.{Sum}

-- the write puts something at the path, above it or below it
abbrev pub puts_by : Path → BasicWrite → Bool
puts_by path w = meet w.path path && not (is_null (rows_in w.value))

-- with the value in the place of what the write puts, the later writes leave the same
pub record StandsIn (w : BasicWrite) (later : List BasicWrite) (value : Rows Scalar) : Type 0 where
  pub some : is_null value ≡ false
  pub fits : Fits w.path value
  pub same : (tree : Rows Scalar) → applied (after tree (write w.path value ∷ [])) later ≡ applied tree (w ∷ later)

-- a removal that may be carried out after the later writes
abbrev pub MayBeLast : BasicWrite → List BasicWrite → Type 0
MayBeLast w later = (tree : Rows Scalar) → after (applied tree later) (write w.path [] ∷ []) ≡ applied tree (w ∷ later)

-- what stands in for a write while the later ones are carried out; nothing does where it may be the last of them
abbrev pub MayStand : BasicWrite → List BasicWrite → Option (Rows Scalar) → Type 0
MayStand w later None = MayBeLast w later
MayStand w later (Some value) = StandsIn w later value

-- what a sum says of the one index it says of the other
pub record IsAlike (old new : Index) : Type 0 where
  pub says : (sum : Sum) → Agrees old sum → Agrees new sum

-- the answer that an entry keeps is that to its client's next write
abbrev pub MayKeep : Index → Entry → Type 0
MayKeep index (entry.Op s q n op outcome) = n ≡ length (rows_of s.client index.retry) + 1
MayKeep index _ = Unit {0}

-- an entry that ends a session finds it open
abbrev pub FindsOpen : Index → Entry → Type 0
FindsOpen index (entry.Ended s q why rows) = IsSome (session_at index s.client)
FindsOpen index _ = Unit {0}

-- there is room for the last stamp of the session that an entry ends
abbrev pub HasPlace : Index → Entry → Type 0
HasPlace index (entry.Ended s q why rows) = IsSome (gone_at index s.client)
HasPlace index _ = Unit {0}

-- an entry that writes nothing and keeps no answer
abbrev pub IsSilent : Entry → Type 0
IsSilent (entry.Op s q n op outcome) = ⊥
IsSilent (entry.Ended s q why rows) = ⊥
IsSilent _ = Unit {0}
