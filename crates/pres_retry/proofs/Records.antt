-- One row more, client by client.
use Rattle.std.proofs.Common.{◌≡◌, ◌≢◌, ℕ, ◌+◌, Bool, true, false, cond, List, [], ◌∷◌, ◌++◌, length, Option, Some, None, unwrap_or, ◌≤◌, append-nil, length-append, refl, sym, ◌∙◌, ap, subst, arith}
use Rattle.std.specs.Prelude.{IfSome, if◌then◌else◌}
use Rattle.std.specs.Map.{lookup}
use Rattle.std.specs.BTreeMap.{is_at}
use Rattle.std.specs.Cmp.{IsTotalOrder, eq_by_cmp_equiv}
use Rattle.std.specs.Cmp.Lexicographic.{nat_list_cmp_total, texts_ties, bytes_decides}
use Rattle.std.specs.FinMap.Entries.{find, put, find-put}
use Rattle.pres_ids.specs.Ids.{ClientId, client_cmp, same_client}
use Rattle.pres_ids.specs.Numbers.{IsNumber, greatest_number}
use Rattle.pres_retry.specs.declared.table.Row.{Row}
use Rattle.pres_retry.specs.Tables.{Table, AreNumbered, recorded, rows_of, with_row}
use Rattle.pres_retry.proofs.Puts.{find_lookup}

pub clients_total : IsTotalOrder client_cmp
clients_total = nat_list_cmp_total

-- a map has the rows of a client
pub rows_at : (client : ClientId) (table : Table) (found : Option (List Row)) → lookup (is_at (client_cmp client)) table ≡ found → rows_of client table ≡ unwrap_or found []
rows_at client table found has = ap (λ rows. unwrap_or rows []) (find_lookup client_cmp client table ∙ has)

pub rows_counted : (client : ClientId) (table : Table) → AreNumbered table → length (rows_of client table) ≤ greatest_number
rows_counted client table numbered = by (find client_cmp client table) (numbered client) where
  by : (found : Option (List Row)) → IfSome found (λ rows. IsNumber (length rows)) → length (unwrap_or found []) ≤ greatest_number
  by None none = omega arith
  by (Some rows) number = number.1

-- what is at a client, after rows were put at one
found_put : (c client : ClientId) (rows : List Row) (table : Table) → find client_cmp c (put client_cmp client rows table) ≡ cond (same_client client c) (Some rows) (find client_cmp c table)
found_put c client rows table =
    find-put client_cmp clients_total c client rows table
    ∙ ap (λ same. cond same (Some rows) (find client_cmp c table)) ((eq_by_cmp_equiv clients_total).symm c client ∙ sym (texts_ties client c))

-- one more record adds its row to those of its own client
pub rows_of_recorded : (c client : ClientId) (n : ℕ) (row : Row) (table : Table)
    → rows_of c (recorded client n row table) ≡ rows_of c table ++ (if same_client client c then row ∷ [] else [])
rows_of_recorded c client n row table =
    ap (λ found. unwrap_or found []) (found_put c client (rows_of client table ++ row ∷ []) table) ∙ by (same_client client c) refl where
      by : (same : Bool) → same_client client c ≡ same
          → unwrap_or (cond same (Some (rows_of client table ++ row ∷ [])) (find client_cmp c table)) [] ≡ rows_of c table ++ (if same then row ∷ [] else [])
      by true same = ap (λ x. rows_of x table ++ row ∷ []) ((bytes_decides client c).0 same)
      by false other = sym (append-nil (rows_of c table))

pub own_rows : (client : ClientId) (row : Row) (table : Table) → rows_of client (with_row client row table) ≡ rows_of client table ++ row ∷ []
own_rows client row table =
    rows_of_recorded client client 0 row table
    ∙ ap (λ same. rows_of client table ++ (if same then row ∷ [] else [])) ((bytes_decides client client).1 refl)

pub other_rows : (client : ClientId) (row : Row) (table : Table) (other : ClientId) → other ≢ client → rows_of other (with_row client row table) ≡ rows_of other table
other_rows client row table other differs =
    rows_of_recorded other client 0 row table
    ∙ ap (λ same. rows_of other table ++ (if same then row ∷ [] else [])) (not_same (same_client client other) (λ same. differs (sym ((bytes_decides client other).0 same))))
    ∙ append-nil (rows_of other table) where
      not_same : (b : Bool) → (b ≡ true → ⊥) → b ≡ false
      not_same true never = absurd (never refl)
      not_same false never = refl

-- the client's next write keeps the numbers in turn
pub numbered_further : (client : ClientId) (n : ℕ) (row : Row) (table : Table) → IsNumber n → n ≡ length (rows_of client table) + 1 → AreNumbered table → AreNumbered (with_row client row table)
numbered_further client n row table number next numbered c =
    subst (λ found. IfSome found (λ rows. IsNumber (length rows))) (sym (found_put c client (rows_of client table ++ row ∷ []) table)) (by (same_client client c)) where
      by : (same : Bool) → IfSome (cond same (Some (rows_of client table ++ row ∷ [])) (find client_cmp c table)) (λ rows. IsNumber (length rows))
      by true = subst IsNumber (next ∙ sym (length-append (rows_of client table) (row ∷ []))) number
      by false = numbered c

-- ---- all rows of a client at once

pub put_rows : (client : ClientId) (rows : List Row) (table : Table) → rows_of client (put client_cmp client rows table) ≡ rows
put_rows client rows table =
    ap (λ found. unwrap_or found []) (found_put client client rows table)
    ∙ ap (λ same. unwrap_or (cond same (Some rows) (find client_cmp client table)) []) ((bytes_decides client client).1 refl)

pub numbered_put : (client : ClientId) (rows : List Row) (table : Table) → IsNumber (length rows) → AreNumbered table → AreNumbered (put client_cmp client rows table)
numbered_put client rows table number numbered c =
    subst (λ found. IfSome found (λ rows. IsNumber (length rows))) (sym (found_put c client rows table)) (by (same_client client c)) where
      by : (same : Bool) → IfSome (cond same (Some rows) (find client_cmp c table)) (λ rows. IsNumber (length rows))
      by true = number
      by false = numbered c
