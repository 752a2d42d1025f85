-- Going over the saved rows, one at a time.
use Rattle.std.specs.Prelude.{◌≡◌, ◌⊎◌, ℕ, List, [], ◌∷◌, ◌++◌, Result, Ok, Err}
use Rattle.sqlite.specs.Order.{Row}
use Rattle.pres_faults.specs.declared.saved_fault.SavedFault.{SavedFault}
use Rattle.pres_faults.specs.declared.saved_fault.SavedFault.TheVariants.{Memory, Database, BadRow}
use Rattle.pres_batch_rows.specs.RowContents.{RowContent, saved_rows, saved_front}

-- these were taken in turn
abbrev pub TakesAll : {T : Type 0} → (T → RowContent → T → Type 0) → List RowContent → T → T → Type 0
TakesAll {T} takes [] old new = new ≡ old
TakesAll {T} takes (row ∷ more) old new = (mid : T) × takes old row mid × TakesAll takes more mid new

-- some rows were taken in turn, of which this holds
pub record TakesRows {T : Type 0} (takes : T → RowContent → T → Type 0) (holds : List RowContent → Type 0) (old new : T) : Type 0 where
  pub rows : List RowContent
  pub taken : TakesAll takes rows old new
  pub held : holds rows

module _ {T : Type 0} (takes : T → RowContent → T → Type 0) (refuses : T → RowContent → SavedFault → T → Type 0) where
  -- these were taken, and then the database gave no more or memory was refused
  pub record StopsEarly (front : List RowContent) (old new : T) (e : SavedFault) : Type 0 where
    pub given : List RowContent
    pub rest : List RowContent
    pub parts : front ≡ given ++ rest
    pub taken : TakesAll takes given old new
    pub why : (e ≡ Memory) ⊎ (e ≡ Database)

  -- a row was refused, after those before it had been taken
  pub record IsRefused (front : List RowContent) (old new : T) (e : SavedFault) : Type 0 where
    pub given : List RowContent
    pub row : RowContent
    pub rest : List RowContent
    pub mid : T
    pub parts : front ≡ given ++ row ∷ rest
    pub taken : TakesAll takes given old mid
    pub refused : refuses mid row e new

  -- all rows before the first bad one were taken, and the fault names its number
  pub record MeetsBadRow (behind : ℕ) (shown : List Row) (old new : T) (e : SavedFault) : Type 0 where
    pub k : ℕ
    pub bad : saved_rows behind shown ≡ Err k
    pub why : e ≡ BadRow k
    pub taken : TakesAll takes (saved_front behind shown) old new

  -- the rows behind this many batches were given in turn
  abbrev pub GoesOver : ℕ → List Row → T → T → Result (Unit {0}) SavedFault → Type 0
  GoesOver behind shown old new (Ok _) = (saved_rows behind shown ≡ Ok (saved_front behind shown)) × TakesAll takes (saved_front behind shown) old new
  GoesOver behind shown old new (Err e) =
      MeetsBadRow behind shown old new e ⊎ (IsRefused (saved_front behind shown) old new e ⊎ StopsEarly (saved_front behind shown) old new e)
