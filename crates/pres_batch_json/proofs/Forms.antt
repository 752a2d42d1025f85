-- The JSON of parts and of entries is read as they are, where that of their parts is.
use Rattle.std.proofs.Common.{◌≡◌, ℕ, ◌≤◌, List, [], map, Option, Some, None, ap, subst, ◌∙◌, Result, Ok, Err}
use Rattle.std.specs.Prelude.{IfOk, option_map}
use Rattle.std.specs.Option.{unwrap_or}
use Rattle.serde_json.specs.Data.{depth}
use Rattle.pres_tree.specs.declared.scalar.Scalar.{Scalar}
use Rattle.pres_tree.specs.Paths.{Path}
use Rattle.pres_tree.specs.Rows.{Rows, rows_in}
use Rattle.pres_tree.specs.JsonPrinting.{json_of}
use Rattle.pres_tree.specs.Scalars.{scalar_reading, scalar_printing}
use Rattle.pres_write.specs.declared.basic.Basic.{Basic}
use Rattle.pres_write.specs.declared.draft.DraftLeaf.{DraftLeaf}
use Rattle.pres_write.specs.Drafts.{slot_reading, slot_printing}
use Rattle.pres_write.specs.Updates.{Places}
use Rattle.pres_ids.specs.declared.id.SessionId.{SessionId}
use Rattle.pres_ids.specs.declared.id.Why.{Why}
use Rattle.pres_ids.specs.Forms.{whole, session_json, message_number, session_of, why_word, why_of}
use Rattle.pres_wire.specs.DownReads.{given}
use Rattle.pres_log.specs.declared.entry.Entry.TheVariants as entry
use Rattle.pres_batch_json.specs.Entries.{list_json, row_json, write_json, put_json, number_or_null}
use Rattle.pres_batch_json.specs.Reads.{list_of, rows_below, write_in, puts_in, number_or_none, HasForm}
use Rattle.pres_batch_json.proofs.Below.{write_low, put_low}
use Rattle.pres_batch_json.proofs.Listed.{map-same}

-- what follows where a call succeeds
pub ok_so : {A E P Q : Type 0} (r : Result A E) → (P → Q) → IfOk r (λ _. P) → IfOk r (λ _. Q)
ok_so (Ok a) f h = f h
ok_so (Err e) f h = tt

-- ---- rows

-- the value of a write, or null
pub unwrapped : {R : Type 0} (now : R → Rows Scalar) (o : Option R) (d : R) (v : Option (Rows Scalar)) → option_map now o ≡ v → now d ≡ [] → now (unwrap_or o d) ≡ rows_in v
unwrapped now None d v h null = null ∙ ap rows_in h
unwrapped now (Some r) d v h null = ap rows_in h

pub write_nests : (w : Basic) (p : Path) (v : Rows Scalar) → p ≡ w.path → v ≡ rows_in w.value → rows_below scalar_reading p (json_of scalar_printing v) ≡ Some v → depth (write_json w) ≤ 34
write_nests w p v there value reads =
    subst (λ (row : Path × Rows Scalar). depth (row_json row.0 (json_of scalar_printing row.1)) ≤ 34) (λ i. (there i, value i)) (write_low p v reads)

pub put_nests : (put : Path × Rows DraftLeaf) (p : Path) (v : Rows DraftLeaf) → p ≡ put.0 → v ≡ put.1 → rows_below slot_reading p (json_of slot_printing v) ≡ Some v → depth (put_json put) ≤ 35
put_nests put p v there draft reads =
    subst (λ (row : Path × Rows DraftLeaf). depth (row_json row.0 (json_of slot_printing row.1)) ≤ 35) (λ i. (there i, draft i)) (put_low p v reads)

pub writes_read : (writes : List Basic) → list_of write_in (list_json write_json writes) ≡ Some (map (λ w. w) writes) → list_of write_in (list_json write_json writes) ≡ Some writes
writes_read writes reads = reads ∙ ap Some (map-same writes)

-- ---- entries

pub again_form : (s : SessionId) (q n : ℕ) → message_number (whole q) ≡ Some q → message_number (whole n) ≡ Some n → session_of (session_json s) ≡ Some s → HasForm (entry.Again s q n)
again_form s q n is_q is_n is_s = λ i. given (is_q i) (λ q. given (is_n i) (λ n. given (is_s i) (λ s. Some (entry.Again s q n))))

pub ended_form : (s : SessionId) (q : Option ℕ) (why : Why) (rows : List Basic) → number_or_none (number_or_null q) ≡ Some q → why_of (why_word why) ≡ Some why → list_of write_in (list_json write_json rows) ≡ Some (map (λ w. w) rows)
    → session_of (session_json s) ≡ Some s → HasForm (entry.Ended s q why rows)
ended_form s q why rows is_q is_why is_rows is_s =
    λ i. given (is_q i) (λ q. given (is_why i) (λ why. given (is_s i) (λ s. given (writes_read rows is_rows i) (λ rows. Some (entry.Ended s q why rows)))))

pub left_form : (s : SessionId) (q : ℕ) (puts : Places) → message_number (whole q) ≡ Some q → puts_in (list_json put_json puts) ≡ Some puts → session_of (session_json s) ≡ Some s → HasForm (entry.Left s q puts)
left_form s q puts is_q is_puts is_s = λ i. given (is_q i) (λ q. given (is_s i) (λ s. given (is_puts i) (λ puts. Some (entry.Left s q puts))))
