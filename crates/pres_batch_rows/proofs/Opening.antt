-- How tables of either format are opened.
use Rattle.std.proofs.Common.{◌≡◌, inl, inr, ℕ, ◌+◌, [], map, Option, Some, false, Result, Ok, Err, IfOk, IfErr, OnErr, MatchResult, refl, sym, ap, subst, ◌∙◌, arith}
use Rattle.sqlite.specs.Order.{column}
use Rattle.sqlite.specs.Tree.{IsTable, Trees}
use Rattle.sqlite.specs.Effect.{Database}
use Rattle.sqlite.specs.State.{State, IsUnchanged}
use Rattle.pres_batch_rows.specs.RowContents.{rows_in, shown_row, shown_rows, shown_base, whole_of, AreBelow}
use Rattle.pres_batch_rows.specs.Schemas.{checkpoint_schema}
use Rattle.pres_batch_rows.specs.TableStates.{HasThreeTables, AreNumbered, IsOfFormatOne, IsOfFormatTwo, IsOurs, IsIdle}
use Rattle.pres_batch_rows.specs.TableCreation.{IsMade}
use Rattle.pres_batch_rows.specs.TableOpening.{HasFormat, IsKept, IsFound, last_in}
use Rattle.pres_batch_rows.specs.Migrations.{IsMigrated, HoldsFormatTwo}
use Rattle.pres_batch_rows.proofs.Formats.{batches_one, batches_two, two_same}
use Rattle.pres_batch_rows.proofs.Migrating.{answers}

-- ---- the format that is answered is that of the tables

same_some : (a b : ℕ) (o : Option ℕ) → o ≡ Some a → o ≡ Some b → a ≡ b
same_some a b o p q = let e : Some a ≡ Some b = sym p ∙ q in cc

pub is_one : (old mid : State) → IsOurs old.now → HasFormat 1 old mid → IsOfFormatOne old.now
is_one old mid (inl one) has = one
is_one old mid (inr two) has =
    absurd (omega (arith, same_some 1 2 (whole_of (column has.0 0)) has.2 (answers old mid has.0 2 (batches_two old two).schema two.format has.1)))

pub is_two : (old mid : State) → IsOurs old.now → HasFormat 2 old mid → IsOfFormatTwo old.now
is_two old mid (inl one) has =
    absurd (omega (arith, same_some 2 1 (whole_of (column has.0 0)) has.2 (answers old mid has.0 1 (batches_one old one).schema one.format has.1)))
is_two old mid (inr two) has = two

-- ---- format 1

pub migrated_after : (old mid new : State) → IsUnchanged old mid → IsMigrated mid new → IsMigrated old new
migrated_after old mid new same it = record {
  schema = it.schema;
  rows = it.rows ∙ ap (λ (d : Database). d.trees 2) same.0.now_is;
  base = it.base;
  format = it.format;
  committed = it.committed;
  mode = it.mode;
  was_open = same.0.was_open;
  is_open = it.is_open;
}

pub holds_after : (old mid : State) (db : Trees) → IsUnchanged old mid → HoldsFormatTwo mid db → HoldsFormatTwo old db
holds_after old mid db same it = (same.0.was_open, it.1 ∙ ap (λ (d : Database). d.trees 2) same.0.now_is, it.2, it.3)

pub found_one : (old new : State) (n : ℕ) → IsOfFormatOne old.now → IsMigrated old new → n ≡ last_in [] (shown_rows old) → AreBelow (n + 1) (rows_in old) → IsFound old new n
found_one old new n one it last below = record {
  kept = inr (one, it);
  mode = it.mode;
  last = last ∙ ap (λ rows. last_in [] (map shown_row rows)) (sym it.rows) ∙ ap (λ base. last_in (map shown_row base) (shown_rows new)) (sym it.base);
  below = subst (AreBelow (n + 1)) (sym it.rows) below;
}

-- ---- format 2

pub found_two : (old mid new : State) (n : ℕ) → IsOfFormatTwo old.now → old.in_transaction ≡ false → IsUnchanged old mid → IsUnchanged mid new
    → (n ≡ last_in (shown_base mid) (shown_rows mid)) × AreBelow (n + 1) (rows_in mid) → IsFound old new n
found_two old mid new n two alone first second counted = record {
  kept = inl (two, record { was_open = first.0.was_open; now = second.0.now_is ∙ first.0.now_is; committed = second.0.committed_is ∙ first.0.committed_is });
  mode = second.0.mode ∙ first.0.mode ∙ alone;
  last = counted.0 ∙ ap (λ (d : Database). last_in (map shown_row (d.trees 3)) (map shown_row (d.trees 2))) (sym second.0.now_is);
  below = subst (λ (d : Database). AreBelow (n + 1) (d.trees 2)) (sym second.0.now_is) counted.1;
}

-- ---- what was found or made serves

three_alone : (s : State) → s.now.schema ≡ checkpoint_schema → HasThreeTables s.now.schema
three_alone s is = subst HasThreeTables (sym is) (record { others = []; tables = refl; unreferred = (tt, (tt, (tt, tt))); base_unreferred = (tt, (tt, (tt, tt))) })

migrated_two : (old new : State) → IsOfFormatOne old.now → IsMigrated old new → IsOfFormatTwo new.now
migrated_two old new one it = record {
  tables = three_alone new it.schema;
  format = it.format;
  rising = subst IsTable (sym it.rows) one.rising;
  numbered = subst AreNumbered (sym it.rows) one.numbered;
  base_numbered = subst AreNumbered (sym it.base) tt;
}

pub awaits_made : (s : State) → IsMade s → IsIdle s 1
awaits_made s made = record {
  alone = made.mode;
  ready = λ _. record {
    ours = record {
      tables = three_alone s made.schema;
      format = made.format;
      rising = subst IsTable (sym made.rows) tt;
      numbered = subst AreNumbered (sym made.rows) tt;
      base_numbered = subst AreNumbered (sym made.base) tt;
    };
    below = subst (AreBelow 1) (sym made.rows) tt;
  };
}

found_is_two : (old new : State) → IsKept old new → IsOfFormatTwo new.now
found_is_two old new (inl (two, same)) = two_same old new same.now two
found_is_two old new (inr (one, it)) = migrated_two old new one it

pub awaits_found : (old new : State) (last : ℕ) → IsFound old new last → IsIdle new (last + 1)
awaits_found old new last found = record {
  alone = found.mode;
  ready = λ _. record { ours = found_is_two old new found.kept; below = found.below };
}

-- ---- results

pub ok_so : {A E : Type 0} (r : Result A E) (P Q : A → Type 0) → ((a : A) → P a → Q a) → IfOk r P → IfOk r Q
ok_so (Ok a) P Q so h = so a h
ok_so (Err e) P Q so h = tt

pub on_err_so : {A E : Type 0} (r : Result A E) {P Q : Type 0} → (P → Q) → OnErr r P → OnErr r Q
on_err_so (Ok a) so h = tt
on_err_so (Err e) so h = so h

pub on_err_any : {A E : Type 0} (r : Result A E) {P : Type 0} → P → OnErr r P
on_err_any (Ok a) h = tt
on_err_any (Err e) h = h

pub match_ok : {A E : Type 0} (r : Result A E) (P R : A → Type 0) (Q : E → Type 0) → ((a : A) → P a → R a) → MatchResult r P Q → IfOk r R
match_ok (Ok a) P R Q so h = so a h
match_ok (Err e) P R Q so h = tt

pub match_err : {A E : Type 0} (r : Result A E) (P : A → Type 0) (Q : E → Type 0) → MatchResult r P Q → IfErr r Q
match_err (Ok a) P Q h = tt
match_err (Err e) P Q h = h
