-- What holds of a state in format 1 or 2, and of one that shows the same.
use Rattle.std.proofs.Common.{◌≡◌, ℕ, List, [], ◌∷◌, ◌++◌, refl, sym, ap, subst, ◌∙◌}
use Rattle.sqlite.specs.Order.{Row}
use Rattle.sqlite.specs.Tree.{IsTable}
use Rattle.sqlite.specs.Schema.{Schema}
use Rattle.sqlite.specs.Effect.{Database}
use Rattle.sqlite.specs.State.{State}
use Rattle.pres_batch_rows.specs.Schemas.{checkpoint}
use Rattle.pres_batch_rows.specs.RowContents.{RowContent, stored, rows_in, checkpoints_in, AreBelow}
use Rattle.pres_batch_rows.specs.TableStates.{HasOurTables, HasThreeTables, HoldsBatches, IsOfFormatOne, IsOfFormatTwo, AreNumbered, CanTake, IsIdle, IsSaved, IsLeft}

-- the first two of the three tables
pub first_two : (schema : Schema) → HasThreeTables schema → HasOurTables schema
first_two schema three = record { others = record checkpoint { tree = 3 } ∷ three.others; tables = three.tables }

pub batches_two : (s : State) → IsOfFormatTwo s.now → HoldsBatches s
batches_two s two = record { schema = first_two s.now.schema two.tables; rising = two.rising }

pub batches_one : (s : State) → IsOfFormatOne s.now → HoldsBatches s
batches_one s one = record { schema = record { others = []; tables = ap (λ (schema : Schema). schema.tables) one.schema }; rising = one.rising }

pub one_same : (old new : State) → new.now ≡ old.now → IsOfFormatOne old.now → IsOfFormatOne new.now
one_same old new now one = subst IsOfFormatOne (sym now) one

pub two_same : (old new : State) → new.now ≡ old.now → IsOfFormatTwo old.now → IsOfFormatTwo new.now
two_same old new now two = subst IsOfFormatTwo (sym now) two

-- where what is shown was committed, a crash may leave it
pub may_stay : (s : State) → s.may_leave s.committed.trees → s.now ≡ s.committed → s.may_leave s.now.trees
may_stay s stays settled = subst (λ (d : Database). s.may_leave d.trees) (sym settled) stays

-- the number that comes next
pub can_same : (old new : State) (k : ℕ) → new.now ≡ old.now → CanTake old k → CanTake new k
can_same old new k now can = record { ours = two_same old new now can.ours; below = subst (λ (d : Database). AreBelow k (d.trees 2)) (sym now) can.below }

-- a checkpoint and rows that were saved
pub two_saved : (old new : State) (base rows : List Row) → IsOfFormatTwo old.now → new.now.schema ≡ old.now.schema → new.now.trees 0 ≡ old.now.trees 0 → rows_in new ≡ rows → checkpoints_in new ≡ base
    → IsTable rows → AreNumbered rows → AreNumbered base → IsOfFormatTwo new.now
two_saved old new base rows two schema format rows_are base_is rising numbered base_numbered = record {
  tables = subst HasThreeTables (sym schema) two.tables;
  format = format ∙ two.format;
  rising = subst IsTable (sym rows_are) rising;
  numbered = subst AreNumbered (sym rows_are) numbered;
  base_numbered = subst AreNumbered (sym base_is) base_numbered;
}

pub idle_saved : (old new : State) (base rows : List Row) (k : ℕ) → IsOfFormatTwo old.now → IsSaved old new base rows → IsTable rows → AreNumbered rows → AreNumbered base → AreBelow k rows → IsIdle new k
idle_saved old new base rows k two saved rising numbered base_numbered below = record {
  alone = saved.mode;
  ready = λ _. record {
    ours = two_saved old new base rows two saved.schema saved.format saved.rows saved.base rising numbered base_numbered;
    below = subst (AreBelow k) (sym saved.rows) below;
  };
}

pub numbered_push : (k : ℕ) (s : RowContent) (rows : List Row) → AreNumbered rows → AreNumbered (rows ++ stored k s ∷ [])
numbered_push k s [] h = (refl, tt)
numbered_push k s (r ∷ rows) h = (h.0, numbered_push k s rows h.1)

pub awaits_left : (old new : State) (k : ℕ) → IsIdle old k → IsLeft old new → IsIdle new k
awaits_left old new k idle left = record {
  alone = left.mode;
  ready = λ live. let same = left.same live in can_same old new k same.now (idle.ready same.was_open);
}
