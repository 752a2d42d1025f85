-- Going over the rows of a query, one at a time.
use Rattle.std.proofs.Common.{◌≡◌, ◌⊎◌, inl, inr, ℕ, ◌+◌, List, [], ◌∷◌, ◌++◌, map, length, length-append, Option, Some, None, Ok, Err, IsTrue, refl, sym, ap, subst, ◌∙◌, arith, append_assoc}
use Rattle.sqlite.specs.Store.{Ghosts}
use Rattle.sqlite.specs.Order.{Row}
use Rattle.sqlite.specs.Tree.{IsTable}
use Rattle.sqlite.specs.Effect.{Database}
use Rattle.sqlite.specs.State.{State, HasCleanDisk, IsUnchanged, IsRolledBack, Survives, Shown, ShowsRows}
use Rattle.sqlite.specs.Held.{Held, state}
use Rattle.sqlite.specs.Given.{HasGiven, HasBegun, Advances}
use Rattle.sqlite_schema.specs.declared.command.Returning.{Returning}
use Rattle.sqlite_resolve.specs.declared.compiled.Compiled.{Compiled}
use Rattle.sqlite.proofs.StateLemmas.{survives_then}
use Rattle.sqlite.proofs.Callers.{given_begin, unchanged_then}
use Rattle.pres_faults.specs.declared.saved_fault.SavedFault.{SavedFault}
use Rattle.pres_faults.specs.declared.saved_fault.SavedFault.TheVariants.{Memory, Database as DatabaseFault, BadRow}
use Rattle.pres_batch_rows.specs.TableStates.{HasOurTables, HoldsBatches, Awaits, IsLeft}
use Rattle.pres_batch_rows.specs.RowContents.{RowContent, shown_row, shown_rows, saved_row, saved_from, saved_rows, saved_front, front_from}
use Rattle.pres_batch_rows.specs.RowIteration.{TakesAll, GoesOver}
use Rattle.pres_batch_rows.proofs.Statements.{select_text}
use Rattle.pres_batch_rows.proofs.Plain.{rows_are_read, begun_same}
use Rattle.pres_batch_rows.proofs.Formats.{batches_two}
use Rattle.pres_batch_rows.proofs.Inserting.{left_later}
use Rattle.pres_batch_rows.proofs.Loading.{loads, begins, saved_push, saved_stops, front_append, front_all}

-- ---- the query

shown_open : (old new : State) (sql : List ℕ) (c : Compiled) (params : Row) (rows : List Row) (returning : Option Returning) → ShowsRows old new sql c params rows returning → IsTrue old.is_open
shown_open old new sql c params rows None h = h.3.0.was_open
shown_open old new sql c params rows (Some what) h = h.1.shown.was_open

pub open_if_shown : (sql : List ℕ) (params : Row) (old new : State) (rows : List Row) → Shown sql params old new rows → IsTrue old.is_open
unfolding Shown
open_if_shown sql params old new rows h = shown_open old new sql h.0 _ rows h.0.returning h.2

pub open_if_begun : {S : Type 0} (g : Ghosts S) (sql : List ℕ) (params : Row) (old new : Held S) → HasBegun g sql params old new → IsTrue (state g old).is_open
open_if_begun g sql params old new (inl h) = h.1.0.was_open
open_if_begun g sql params old new (inr h) = open_if_shown sql params (state g old) (state g new) _ h.1

-- ---- the rows so far

pub taken_push : {T : Type 0} (takes : T → RowContent → T → Type 0) (given : List RowContent) (row : RowContent) (old mid new : T) → TakesAll takes given old mid → takes mid row new → TakesAll takes (given ++ row ∷ []) old new
taken_push takes [] row old mid new h one = (new, subst (λ m. takes m row new) h one, refl)
taken_push takes (first ∷ given) row old mid new h one = (h.0, h.1, taken_push takes given row h.0 mid new h.2 one)

-- the query has returned the rows up to this number, where they come behind so many batches, and they save these
pub record Progress {S : Type 0} (g : Ghosts S) (first held : Held S) (behind : ℕ) (saved : List RowContent) (count : ℕ) : Type 0 where
  pub given : List Row
  pub has : HasGiven g select_text [] held given
  pub same : IsUnchanged (state g first) (state g held)
  pub reads : saved_rows behind given ≡ Ok saved
  pub counted : count ≡ behind + length given

-- these were taken, and the query gave them where the disk is clean
pub record SoFar {S T : Type 0} (g : Ghosts S) (takes : T → RowContent → T → Type 0) (first : Held S) (start : T) (behind : ℕ) (held : Held S) (taker : T) (count : ℕ) : Type 0 where
  pub saved : List RowContent
  pub taken : TakesAll takes saved start taker
  pub read : HasCleanDisk (state g held) → (k : ℕ) → Awaits (state g first) k → Progress g first held behind saved count

module _ {S T : Type 0} (g : Ghosts S) (takes : T → RowContent → T → Type 0) (refuses : T → RowContent → SavedFault → T → Type 0) (first : Held S) (start : T) (behind : ℕ) (ours : HoldsBatches (state g first)) where
  pub progress_begins : (held : Held S) → HasBegun g select_text [] first held → Progress g first held behind [] behind
  progress_begins held begun =
      let it = begun_same select_text rows_are_read g first held begun in
      record { given = []; has = it.0; same = it.1; reads = refl; counted = omega arith }

  ours_later : (held : Held S) → IsUnchanged (state g first) (state g held) → HoldsBatches (state g held)
  ours_later held same = record {
    schema = subst (λ (d : Database). HasOurTables d.schema) (sym same.0.now_is) ours.schema;
    rising = subst (λ (d : Database). IsTable (d.trees 2)) (sym same.0.now_is) ours.rising;
  }

  shown_later : (held : Held S) → IsUnchanged (state g first) (state g held) → shown_rows (state g held) ≡ shown_rows (state g first)
  shown_later held same = ap (λ (d : Database). map shown_row (d.trees 2)) same.0.now_is

  -- the rows that were given are the first of all
  all_rows : (held : Held S) (given : List Row) → HasGiven g select_text [] held given → IsUnchanged (state g first) (state g held)
      → (rest : List Row) × (given ++ rest ≡ shown_rows (state g first))
  all_rows held given has same =
      let it = begins (state g held) given (ours_later held same) (given_begin g select_text [] held given has) in
      (it.0, it.1 ∙ shown_later held same)

  module _ (held : Held S) (taker : T) (count : ℕ) (saved : List RowContent) (taken : TakesAll takes saved start taker) (p : Progress g first held behind saved count) where
    -- no row is to come
    pub read_all : (new : Held S) → Advances g held new None → saved_rows behind (shown_rows (state g first)) ≡ Ok saved
    read_all new moved =
        let all : p.given ≡ shown_rows (state g first) = loads (state g held) (state g new) p.given (ours_later held p.same) (moved select_text [] p.given p.has) ∙ shown_later held p.same in
        ap (saved_rows behind) (sym all) ∙ p.reads

    pub ends : (new : Held S) → Advances g held new None → GoesOver takes refuses behind (shown_rows (state g first)) start taker (Ok tt)
    ends new moved =
        let all : p.given ≡ shown_rows (state g first) = loads (state g held) (state g new) p.given (ours_later held p.same) (moved select_text [] p.given p.has) ∙ shown_later held p.same in
        let front : saved_front behind (shown_rows (state g first)) ≡ saved = ap (saved_front behind) (sym all) ∙ front_all (behind + 1) p.given saved p.reads in
        (ap (saved_rows behind) (sym all) ∙ p.reads ∙ ap Ok (sym front), subst (λ rows. TakesAll takes rows start taker) (sym front) taken)

    -- the database gives no more, or memory is refused
    pub stops : (e : SavedFault) → (e ≡ Memory) ⊎ (e ≡ DatabaseFault) → GoesOver takes refuses behind (shown_rows (state g first)) start taker (Err e)
    stops e why =
        let all = all_rows held p.given p.has p.same in
        inr (inr (record {
          given = saved;
          rest = front_from (behind + 1 + length p.given) all.0;
          parts = ap (saved_front behind) (sym all.1) ∙ front_append (behind + 1) p.given all.0 saved p.reads;
          taken = taken;
          why = why;
        }))

    module _ (row : Row) (new : Held S) (moved : Advances g held new (Some row)) (same : IsUnchanged (state g held) (state g new)) where
      given_more : HasGiven g select_text [] new (p.given ++ row ∷ [])
      given_more = moved select_text [] p.given p.has

      still_same : IsUnchanged (state g first) (state g new)
      still_same = unchanged_then (state g first) (state g held) (state g new) p.same same

      counted_more : count + 1 ≡ behind + length (p.given ++ row ∷ [])
      counted_more = omega (arith, p.counted, length-append p.given (row ∷ []))

      -- the row is bad
      pub meets : (k : ℕ) → k ≡ count + 1 → saved_row k row ≡ None → GoesOver takes refuses behind (shown_rows (state g first)) start taker (Err (BadRow k))
      meets k due is =
          let all = all_rows new (p.given ++ row ∷ []) given_more still_same in
          let whole : p.given ++ row ∷ all.0 ≡ shown_rows (state g first) = sym (append_assoc p.given (row ∷ []) all.0) ∙ all.1 in
          let it = saved_stops (behind + 1) k p.given all.0 row saved p.reads (omega (arith, p.counted, due)) is in
          inl (record {
            k = k;
            bad = ap (saved_rows behind) (sym whole) ∙ it.0;
            why = refl;
            taken = subst (λ rows. TakesAll takes rows start taker) (sym (ap (saved_front behind) (sym whole) ∙ it.1)) taken;
          })

      module _ (s : RowContent) (reads : saved_row (count + 1) row ≡ Some s) where
        pushed : saved_from (behind + 1) (p.given ++ row ∷ []) ≡ Ok (saved ++ s ∷ [])
        pushed = saved_push (behind + 1) (count + 1) p.given row saved s p.reads (omega (arith, p.counted)) reads

        -- the row is given
        pub progress_more : Progress g first new behind (saved ++ s ∷ []) (count + 1)
        progress_more = record {
          given = p.given ++ row ∷ [];
          has = given_more;
          same = still_same;
          reads = pushed;
          counted = counted_more;
        }

        -- the row is refused
        pub refuses_it : (last : T) (e : SavedFault) → refuses taker s e last → GoesOver takes refuses behind (shown_rows (state g first)) start last (Err e)
        refuses_it last e refusal =
            let all = all_rows new (p.given ++ row ∷ []) given_more still_same in
            inr (inl (record {
              given = saved;
              row = s;
              rest = front_from (behind + 1 + length (p.given ++ row ∷ [])) all.0;
              mid = taker;
              parts = ap (saved_front behind) (sym all.1) ∙ front_append (behind + 1) (p.given ++ row ∷ []) all.0 (saved ++ s ∷ []) pushed ∙ append_assoc saved (s ∷ []) _;
              taken = taken;
              refused = refusal;
            }))

-- ---- at one row

pub nothing_more : (old held now : State) → Survives old held (λ _. ⊥) → Survives held now (λ _. ⊥) → Survives old now (λ _. ⊥)
nothing_more old held now = survives_then old held now (λ _. ⊥) (λ _. ⊥) (λ _. ⊥) (λ _ _ none. none) (λ _ _ none. none)

pub still : (s : State) → Survives s s (λ _. ⊥)
still s = record { clean = omega arith; shield = λ h. h; counts = omega arith; limit = refl; closes = λ _ h. inl h; crash = λ _ db h. inl h }

module _ {S T : Type 0} (g : Ghosts S) (takes : T → RowContent → T → Type 0) (refuses : T → RowContent → SavedFault → T → Type 0) (first : Held S) (start : T) (behind : ℕ) (held now : Held S) (taker : T) (count : ℕ)
    (k : ℕ) (awaits : Awaits (state g first) k) (kept : Survives (state g first) (state g held) (λ _. ⊥))
    (so_far : SoFar g takes first start behind held taker count)
    (moved : Survives (state g held) (state g now) (λ _. ⊥)) (clean : HasCleanDisk (state g now)) where
  held_clean : HasCleanDisk (state g held)
  held_clean = omega (arith, moved.clean, clean)

  pub first_clean : HasCleanDisk (state g first)
  first_clean = omega (arith, moved.clean, kept.clean, clean)

  progress : Progress g first held behind so_far.saved count
  progress = so_far.read held_clean k awaits

  ours : HoldsBatches (state g first)
  ours = batches_two (state g first) ((awaits first_clean).ready progress.same.0.was_open).ours

  pub at_end_read : Advances g held now None → saved_rows behind (shown_rows (state g first)) ≡ Ok so_far.saved
  at_end_read = read_all g takes refuses first start behind ours held taker count so_far.saved so_far.taken progress now

  pub at_end : Advances g held now None → GoesOver takes refuses behind (shown_rows (state g first)) start taker (Ok tt)
  at_end = ends g takes refuses first start behind ours held taker count so_far.saved so_far.taken progress now

  pub at_stop : (e : SavedFault) → (e ≡ Memory) ⊎ (e ≡ DatabaseFault) → GoesOver takes refuses behind (shown_rows (state g first)) start taker (Err e)
  at_stop = stops g takes refuses first start behind ours held taker count so_far.saved so_far.taken progress

  pub at_bad_row : (row : Row) → Advances g held now (Some row) → IsUnchanged (state g held) (state g now) → (due : ℕ) → due ≡ count + 1 → saved_row due row ≡ None
      → GoesOver takes refuses behind (shown_rows (state g first)) start taker (Err (BadRow due))
  at_bad_row row next same = meets g takes refuses first start behind ours held taker count so_far.saved so_far.taken progress row now next same

  pub at_refusal : (row : Row) → Advances g held now (Some row) → IsUnchanged (state g held) (state g now) → (s : RowContent) → saved_row (count + 1) row ≡ Some s → (last : T) (e : SavedFault) → refuses taker s e last
      → GoesOver takes refuses behind (shown_rows (state g first)) start last (Err e)
  at_refusal row next same s reads = refuses_it g takes refuses first start behind ours held taker count so_far.saved so_far.taken progress row now next same s reads

  pub at_next : (row : Row) → Advances g held now (Some row) → IsUnchanged (state g held) (state g now) → (s : RowContent) → saved_row (count + 1) row ≡ Some s → Progress g first now behind (so_far.saved ++ s ∷ []) (count + 1)
  at_next row next same s reads = progress_more g takes refuses first start behind ours held taker count so_far.saved so_far.taken progress row now next same s reads

  pub left_at : (IsTrue (state g first).is_open → (state g first).now ≡ (state g first).committed) → IsUnchanged (state g held) (state g now) ⊎ IsRolledBack (state g held) (state g now)
      → IsLeft (state g first) (state g now)
  left_at settled after = left_later (state g first) (state g held) (state g now) settled (awaits first_clean).alone progress.same after
