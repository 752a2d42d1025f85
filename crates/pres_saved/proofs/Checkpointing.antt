-- The base of a server in the place of the history that a keeper holds.
use Rattle.std.proofs.Common.{refl, sym, ◌∙◌, ap, ap₂, subst, ◌≡◌, ◌⊎◌, inl, inr, ℕ, max, List, [], ◌∷◌, map, Result, Ok, Err, IsTrue, arith}
use Rattle.std.specs.Result.{OnOk, OnErr}
use Rattle.sqlite.specs.Order.{Row}
use Rattle.sqlite.specs.Tree.{Trees}
use Rattle.sqlite.specs.Store.{Ghosts}
use Rattle.sqlite.specs.Held.{state}
use Rattle.sqlite.specs.Effect.{Database}
use Rattle.sqlite.specs.State.{State, HasCleanDisk, Survives}
use Rattle.sqlite.proofs.StateLemmas.{survives_weaker}
use Rattle.pres_faults.specs.declared.saved_fault.SavedFault.{SavedFault}
use Rattle.pres_batch_rows.specs.RowContents.{RowContent, stored, shown_row, shown_rows, shown_base}
use Rattle.pres_batch_rows.specs.TableStates.{TableState, Serves, IsCheckpointed, Holds, IsLeft, Lasts, MayStay}
use Rattle.pres_batch_rows.specs.TableOpening.{last_in}
use Rattle.pres_server.specs.Sums.{Sum}
use Rattle.pres_server.specs.Histories.{History, LeadsTo, begun_at}
use Rattle.pres_keeper.specs.Keepers.{Readable, BeginsWith, whole}
use Rattle.pres_keeper.proofs.Begins.{begins_later}
use Rattle.pres_keeper.proofs.Nulls.{batches_made}
use Rattle.pres_saved.specs.SavedHistories.{saved_history, readable_rows}
use Rattle.pres_saved.specs.Laws.{kept_whole}
use Rattle.pres_saved.specs.SqlKeepers.{Works, IsReady, KeepsHistory, LeavesHistory, MayFind, OutlastsHistory, IsBaseReadBack}
use Rattle.pres_saved.proofs.Basing.{begun_back}
use Rattle.pres_saved.proofs.Reading.{kept_count}
use Rattle.pres_saved.proofs.Outlasting.{lasts_committed}

module _ {S : Type 0} (g : Ghosts S) (old new : TableState S) (row : RowContent) (r : Result (Unit {0}) SavedFault) where
  abbrev before : State
  before = state g old.connection

  abbrev after : State
  after = state g new.connection

  -- by what is shown
  abbrev last_by : Database → ℕ
  last_by d = last_in (map shown_row (d.trees 3)) (map shown_row (d.trees 2))

  abbrev history_by : Database → Result History ℕ
  history_by d = saved_history (map shown_row (d.trees 3)) (map shown_row (d.trees 2))

  -- the checkpoint alone
  abbrev alone : List Row
  alone = stored old.last row ∷ []

  module _ (puts : HasCleanDisk after → OnOk r (IsCheckpointed before after old.last row)) (leaves : HasCleanDisk after → OnErr r (IsLeft before after)) (survives : Survives before after (Holds before alone [])) where
    was_open : (told : Result (Unit {0}) SavedFault) → r ≡ told → Works g new → IsTrue before.is_open
    was_open (Ok _) is works = (subst (λ x. OnOk x (IsCheckpointed before after old.last row)) is (puts works.clean)).was_open
    was_open (Err e) is works = ((subst (λ x. OnErr x (IsLeft before after)) is (leaves works.clean)).same works.is_open).was_open

    pub worked : Works g new → Works g old
    worked works = record { clean = omega (arith, survives.clean, works.clean); is_open = was_open r refl works }

    last_after : (told : Result (Unit {0}) SavedFault) → r ≡ told → new.last ≡ old.last → Works g new → old.last ≡ last_by before.now → new.last ≡ last_by after.now
    last_after (Ok _) is last works count =
        let put = subst (λ x. OnOk x (IsCheckpointed before after old.last row)) is (puts works.clean) in
        let top : old.last ≡ max old.last 0 = omega arith in
        last ∙ top ∙ ap₂ (λ base rows. last_in (map shown_row base) (map shown_row rows)) (sym put.base) (sym put.rows)
    last_after (Err e) is last works count =
        let same = ((subst (λ x. OnErr x (IsLeft before after)) is (leaves works.clean)).same works.is_open).now in
        last ∙ count ∙ ap last_by (sym same)

    pub still_ready : Serves g new → new.last ≡ old.last → IsReady g old → IsReady g new
    still_ready serves last ready = record { serves = serves; last = λ works. last_after r refl last works (ready.last (worked works)) }

    pub refused : (history : History) → Works g new → KeepsHistory g old history → OnErr r (KeepsHistory g new history)
    refused history works keeps = by r (leaves works.clean)
      where
        by : (told : Result (Unit {0}) SavedFault) → OnErr told (IsLeft before after) → OnErr told (KeepsHistory g new history)
        by (Ok _) h = tt
        by (Err e) h = ap history_by (h.same works.is_open).now ∙ keeps

    module _ (sum : Sum) (back : IsBaseReadBack sum row) (ready : IsReady g old) (history : History) (leads : LeadsTo history sum) where
      -- a database with the checkpoint alone saves the history that begins at the sum
      alone_saves : Works g old → KeepsHistory g old history → saved_history (map shown_row alone) [] ≡ Ok (begun_at sum)
      alone_saves works keeps =
          begun_back sum row old.last back (ready.last works ∙ kept_count (shown_base before) (shown_rows before) history keeps ∙ sym (batches_made history sum leads))

      pub replaced : Works g new → KeepsHistory g old history → OnOk r (KeepsHistory g new (begun_at sum))
      replaced works keeps = by r (puts works.clean)
        where
          by : (told : Result (Unit {0}) SavedFault) → OnOk told (IsCheckpointed before after old.last row) → OnOk told (KeepsHistory g new (begun_at sum))
          by (Ok _) h = ap₂ (λ base rows. saved_history (map shown_row base) (map shown_row rows)) h.base h.rows ∙ alone_saves (worked works) keeps
          by (Err e) h = tt

      pub crashed : KeepsHistory g old history → LeavesHistory g old (begun_at sum) new
      crashed keeps =
          survives_weaker before after _ _
          (λ clean db holds works. ap₂ (λ base rows. saved_history (map shown_row base) (map shown_row rows)) holds.2 holds.1 ∙ alone_saves works keeps)
          survives

      -- what can be read of the checkpoint alone
      alone_read : (db : Trees) → HasCleanDisk before → (Works g old → KeepsHistory g old history) → Holds before alone [] db → readable_rows (map shown_row (db 3)) (map shown_row (db 2)) ≡ whole (begun_at sum)
      alone_read db clean keeps holds =
          let works : Works g old = record { clean = clean; is_open = holds.0 } in
          ap₂ (λ base rows. readable_rows (map shown_row base) (map shown_row rows)) holds.2 holds.1 ∙ kept_whole (map shown_row alone) [] (begun_at sum) (alone_saves works (keeps works))

      -- what an opening finds after a crash: what it could find before, or the base alone
      pub found : (Works g old → KeepsHistory g old history) → (held : Readable) → MayFind g new held → MayFind g old held ⊎ (held ≡ whole (begun_at sum))
      found keeps held finds =
          let now = finds.clean in
          let was : HasCleanDisk before = omega (arith, survives.clean, now) in
          elim (survives.crash finds.clean finds.left finds.may) [
            | inl it ↦ inl (record { clean = was; left = finds.left; may = it; read = finds.read })
            | inr put ↦ inr (finds.read ∙ alone_read finds.left was keeps put)
          ]

      pub durable : (Works g old → KeepsHistory g old history) → (HasCleanDisk after → OnOk r (Lasts after)) → OnOk r (OutlastsHistory g new (begun_at sum))
      durable keeps lasts = lasts_committed g old new alone [] r (begun_at sum) puts lasts (λ works. replaced works (keeps (worked works)))

      -- what outlasted goes on to the sum
      pub outlasts : (earlier : History) → (Works g old → KeepsHistory g old history) → (HasCleanDisk after → MayStay before) → OutlastsHistory g old earlier → OutlastsHistory g new earlier
      outlasts earlier keeps stays lasts clean left may =
          let early : HasCleanDisk before = omega (arith, survives.clean, clean) in
          elim (survives.crash clean left may) [
            | inl it ↦ lasts early left it
            | inr put ↦
                let works : Works g old = record { clean = early; is_open = put.0 } in
                let shown : BeginsWith earlier (whole history) = subst (BeginsWith earlier) (kept_whole (shown_base before) (shown_rows before) history (keeps works)) (lasts early before.now.trees (stays clean put.0)) in
                subst (BeginsWith earlier) (sym (alone_read left early keeps put)) (begins_later earlier history sum leads shown)
          ]
