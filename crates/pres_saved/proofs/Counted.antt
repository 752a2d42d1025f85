-- Rows that are numbered one after another: the greatest number is how many they are, with those before them.
use Rattle.std.proofs.Common.{◌≡◌, ◌==◌, ◌&&◌, Bool, true, false, ℕ, ◌+◌, max, nat_le, if◌then◌else◌, List, [], ◌∷◌, ◌++◌, length, Option, Some, None, Result, Ok, Err, refl, sym, ap, ◌∙◌, map, append-nil, arith}
use Rattle.std.proofs.lemmas.List.{append_assoc}
use Rattle.std.proofs.lemmas.Bool.Decides.{nat_tests}
use Rattle.std.specs.Option.{unwrap_or}
use Rattle.sqlite.specs.Order.{Row, column}
use Rattle.pres_write.specs.Moments.{last_moment}
use Rattle.pres_batch_rows.specs.RowContents.{RowContent, stored, stored_from, shown_row, saved_as, saved_row, saved_from, saved_rows, rows_then, saved_front, front_from, front_then, whole_of, text_of}
use Rattle.pres_batch_rows.specs.TableOpening.{greatest_in, last_in}
use Rattle.pres_batch_rows.proofs.Finding.{greatest_push}
use Rattle.pres_batch_rows.proofs.Growing.{map_push}
use Rattle.pres_batch_rows.proofs.Loading.{then_ok}

chosen : (b c : Bool) (x s : RowContent) → (if b && c then Some x else None) ≡ Some s → b ≡ true
chosen true c x s e = refl
chosen false c x s e = absurd (cc)

same_by : (k due : ℕ) → (k == due) ≡ true → k ≡ due
same_by k due h = grind (arith, nat_tests)

number_by : (due : ℕ) (k moment : Option ℕ) (body : Option (List ℕ)) (s : RowContent) → saved_as due k moment body ≡ Some s → unwrap_or k 0 ≡ due
number_by due (Some k) (Some moment) (Some body) s e =
    same_by k due (chosen (k == due) (nat_le moment last_moment) (record { moment = moment; body = body }) s e)
number_by due (Some k) (Some moment) None s e = absurd (cc)
number_by due (Some k) None body s e = absurd (cc)
number_by due None moment body s e = absurd (cc)

number_read : (due : ℕ) (row : Row) (s : RowContent) → saved_row due row ≡ Some s → unwrap_or (whole_of (column row 0)) 0 ≡ due
number_read due row s e = number_by due (whole_of (column row 0)) (whole_of (column row 1)) (text_of (column row 2)) s e

-- after this many
greatest_from : (before : ℕ) (rows : List Row) (saved : List RowContent) → saved_from (before + 1) rows ≡ Ok saved → max before (greatest_in rows) ≡ before + length saved
greatest_from before [] saved e = let none : saved ≡ [] = cc in let many = ap length none in omega (arith, many)
greatest_from before (row ∷ rows) saved e =
    let parts = then_ok (before + 1) (saved_row (before + 1) row) (saved_from (before + 1 + 1) rows) saved e in
    let later = greatest_from (before + 1) rows parts.1 parts.3 in
    let first = number_read (before + 1) row parts.0 parts.2 in
    let many = ap length parts.4 in
    omega (arith, later, first, many)

-- the number of the last row, where the checkpoint has the number before the first
pub last_read : (behind : ℕ) (base rows : List Row) (saved : List RowContent) → greatest_in base ≡ behind → saved_rows behind rows ≡ Ok saved → last_in base rows ≡ behind + length saved
last_read behind base [] saved top e = let none : saved ≡ [] = cc in let many = ap length none in omega (arith, top, many)
last_read behind base (row ∷ rows) saved top e =
    let parts = then_ok (behind + 1) (saved_row (behind + 1) row) (saved_from (behind + 1 + 1) rows) saved e in
    let most = greatest_from behind (row ∷ rows) saved e in
    let many = ap length parts.4 in
    omega (arith, most, many)

-- the number that was due at the first row that saves nothing
due_then : (due k : ℕ) (o : Option RowContent) (more : Result (List RowContent) ℕ) (front : List RowContent) → ((j : ℕ) → more ≡ Err j → j ≡ due + 1 + length front) → rows_then due o more ≡ Err k → k ≡ due + length (front_then o front)
due_then due k None more front ih e = let it : due ≡ k = cc in omega (arith, it)
due_then due k (Some s) (Ok rows) front ih e = absurd (cc)
due_then due k (Some s) (Err j) front ih e = let it : j ≡ k = cc in omega (arith, it, ih j refl)

due_from : (due : ℕ) (rows : List Row) (k : ℕ) → saved_from due rows ≡ Err k → k ≡ due + length (front_from due rows)
due_from due [] k e = absurd (cc)
due_from due (row ∷ rows) k e = due_then due k (saved_row due row) (saved_from (due + 1) rows) (front_from (due + 1) rows) (due_from (due + 1) rows) e

pub due_is : (behind : ℕ) (rows : List Row) (k : ℕ) → saved_rows behind rows ≡ Err k → k ≡ behind + length (saved_front behind rows) + 1
due_is behind rows k e = let it = due_from (behind + 1) rows k e in omega (arith, it)

-- ---- the number of the last row, with more

-- with a row more, numbered one after it
pub last_push : (base rows : List Row) (row : Row) (n : ℕ) → n ≡ last_in base rows → unwrap_or (whole_of (column row 0)) 0 ≡ n + 1 → last_in base (rows ++ row ∷ []) ≡ n + 1
last_push base [] row n last next = omega (arith, next)
last_push base (r ∷ rows) row n last next = let pushed = greatest_push (r ∷ rows) row in omega (arith, pushed, last, next)

-- with these rows more, numbered on from it
pub last_group : (base rows : List Row) (all : List RowContent) (n : ℕ) → n ≡ last_in base (map shown_row rows) → last_in base (map shown_row (rows ++ stored_from (n + 1) all)) ≡ n + length all
last_group base rows [] n last =
    let same : n ≡ n + 0 = omega arith in
    ap (λ l. last_in base (map shown_row l)) (append-nil rows) ∙ sym last ∙ same
last_group base rows (s ∷ all) n last =
    let row = stored (n + 1) s in
    let pushed = ap (last_in base) (map_push shown_row rows row) ∙ last_push base (map shown_row rows) (shown_row row) n last refl in
    let count : n + 1 + length all ≡ n + length (s ∷ all) = omega arith in
    ap (λ l. last_in base (map shown_row l)) (sym (append_assoc rows (row ∷ []) (stored_from (n + 1 + 1) all)))
    ∙ last_group base (rows ++ row ∷ []) all (n + 1) (sym pushed) ∙ count
