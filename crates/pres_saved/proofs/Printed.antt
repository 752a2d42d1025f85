-- What is printed of batches.
use Rattle.std.proofs.Common.{sym, ◌∙◌, ap, subst, ◌≡◌, ℕ, ◌+◌, ◌<◌, ◌≤◌, nat_le, true, if◌then◌else◌, List, [], ◌∷◌, ◌++◌, map, take, length, get_or, Some, None, IsTrue, arith}
use Rattle.std.proofs.lemmas.Bool.Decides.{nat_tests}
use Rattle.std.proofs.lemmas.List.{map_more, take_more}
use Rattle.std.specs.List.{AllByRecursion}
use Rattle.std.specs.Option.{option_and_then}
use Rattle.std.specs.Str.{IsUtf8}
use Rattle.pres_write.specs.Moments.{last_moment}
use Rattle.pres_ids.specs.Numbers.{IsNumber, greatest_number}
use Rattle.pres_log.specs.declared.entry.Batch.{Batch}
use Rattle.pres_log.specs.declared.entry.Entry.{Entry}
use Rattle.pres_log.specs.Batches.{may_hold}
use Rattle.pres_log.specs.Logs.{Log}
use Rattle.serde_json.specs.Written.{compact_text}
use Rattle.pres_batch_json.specs.Entries.{entries_json}
use Rattle.pres_batch_json.specs.Reads.{entries_in, with_one_null}
use Rattle.pres_batch_rows.specs.declared.row.SavedRow.{SavedRow}
use Rattle.pres_batch_rows.specs.RowContents.{RowContent, saved_of}
use Rattle.pres_batch_rows.proofs.Growing.{map_push}
use Rattle.pres_saved.specs.SavedHistories.{batch_of}
use Rattle.pres_saved.specs.SqlKeepers.{IsReadBack, saved_batch}

pub saves : (b : Batch) (s : RowContent) → s.moment ≡ b.moment → s.body ≡ compact_text (entries_json b.entries) → s ≡ saved_batch b
saves b s moment body = ap (λ m. saved m s.body) moment ∙ ap (saved b.moment) body
  where
    saved : ℕ → List ℕ → RowContent
    saved m text = record { moment = m; body = text }

in_range : (n : ℕ) → n ≤ greatest_number → nat_le n greatest_number ≡ true
in_range n h = grind (arith, nat_tests)

-- it is read as the batch
pub read_back : (b : Batch) (es : List Entry) (text : List ℕ) → es ≡ b.entries → text ≡ compact_text (entries_json es) → (IsTrue (may_hold es) → entries_in text ≡ Some (map with_one_null es))
    → IsTrue (may_hold b.entries) → IsNumber b.first → b.moment ≤ last_moment → IsUtf8 text → IsReadBack b
read_back b es text same printed back together range low utf8 =
    let is : text ≡ (saved_batch b).body = printed ∙ ap (λ es. compact_text (entries_json es)) same in
    record {
      moment = low;
      text = subst IsUtf8 is utf8;
      read = λ before first nulls.
          ap (option_and_then (batch_of (before + 1) b.moment))
          (ap entries_in (sym is) ∙ back (subst (λ es. IsTrue (may_hold es)) (sym same) together) ∙ ap (λ es. Some (map with_one_null es)) same ∙ ap Some nulls)
          ∙ ap (λ n. batch_of n b.moment b.entries) (sym first)
          ∙ ap (λ fits. if fits then Some b else None) (in_range b.first range.1);
    }

-- ---- of one batch more

all_push : {X : Type 0} (P : X → Type 0) (xs : List X) (x : X) → AllByRecursion P xs → P x → AllByRecursion P (xs ++ x ∷ [])
all_push P [] x all one = (one, tt)
all_push P (first ∷ xs) x all one = (all.0, all_push P xs x all.1 one)

module _ (batches : Log) (at : ℕ) (b : Batch) (low : at < length batches) (is : b ≡ get_or batches at b) where
  pub saved_more : (rows : List SavedRow) (row : SavedRow) → map saved_of rows ≡ map saved_batch (take at batches) → saved_of row ≡ saved_batch b
      → map saved_of (rows ++ row ∷ []) ≡ map saved_batch (take (at + 1) batches)
  saved_more rows row all one =
      map_push saved_of rows row ∙ ap (λ l. l ++ saved_of row ∷ []) all ∙ ap (λ s. map saved_batch (take at batches) ++ s ∷ []) (one ∙ ap saved_batch is)
      ∙ sym (map_more saved_batch batches at b low)

  pub back_more : AllByRecursion IsReadBack (take at batches) → IsReadBack b → AllByRecursion IsReadBack (take (at + 1) batches)
  back_more all one =
      subst (AllByRecursion IsReadBack) (sym (take_more batches at b low)) (all_push IsReadBack (take at batches) (get_or batches at b) all (subst IsReadBack is one))
