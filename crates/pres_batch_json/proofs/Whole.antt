-- The JSON of entries has no floats, so that its text is stated.
use Rattle.std.proofs.Common.{◌≡◌, ℕ, false, List, [], ◌∷◌, map, Option, Some, None, refl}
use Rattle.serde_json.specs.Data.{Data}
use Rattle.serde_json.specs.View.{items_of}
use Rattle.serde_json.specs.Written.{has_float, items_have_float}
use Rattle.pres_tree.specs.declared.scalar.Scalar.{Scalar}
use Rattle.pres_tree.specs.Paths.{Path}
use Rattle.pres_tree.specs.Rows.{Rows, rows_in}
use Rattle.pres_tree.specs.JsonPrinting.{json_of}
use Rattle.pres_tree.specs.Scalars.{scalar_printing}
use Rattle.pres_write.specs.declared.basic.Basic.{Basic}
use Rattle.pres_write.specs.declared.draft.DraftLeaf.{DraftLeaf}
use Rattle.pres_write.specs.declared.outcome.Outcome.{Outcome}
use Rattle.pres_write.specs.declared.outcome.Outcome.TheVariants.{Wrote, Stale}
use Rattle.pres_write.specs.Drafts.{slot_printing}
use Rattle.pres_write.specs.OpForms.{op_json}
use Rattle.pres_wire.specs.declared.down.Limit.TheVariants as limit
use Rattle.pres_wire.proofs.Whole.{neither, whole_rows, whole_scalar, whole_slot, whole_op}
use Rattle.pres_log.specs.declared.entry.Entry.{Entry}
use Rattle.pres_log.specs.declared.entry.Entry.TheVariants as entry
use Rattle.pres_batch_json.specs.Entries.{list_json, write_json, put_json, outcome_json, number_or_null, entry_json, entries_json}

whole_items : {A : Type 0} (json : A → Data) (xs : List A) → ((a : A) → has_float (json a) ≡ false) → items_have_float (items_of (map json xs)) ≡ false
whole_items json [] h = refl
whole_items json (a ∷ xs) h = neither (has_float (json a)) (items_have_float (items_of (map json xs))) (h a) (whole_items json xs h)

whole_value : (v : Rows Scalar) → has_float (json_of scalar_printing v) ≡ false
whole_value v = whole_rows scalar_printing v whole_scalar

whole_write : (w : Basic) → has_float (write_json w) ≡ false
whole_write w = neither (has_float (json_of scalar_printing (rows_in w.value))) false (whole_value (rows_in w.value)) refl

whole_put : (p : Path × Rows DraftLeaf) → has_float (put_json p) ≡ false
whole_put p = neither (has_float (json_of slot_printing p.1)) false (whole_rows slot_printing p.1 whole_slot) refl

whole_outcome : (out : Outcome) → has_float (outcome_json out) ≡ false
whole_outcome (Wrote writes) = neither (has_float (list_json write_json writes)) false (whole_items write_json writes whole_write) refl
whole_outcome (Stale held) = neither (has_float (json_of scalar_printing (rows_in held))) false (whole_value (rows_in held)) refl

whole_number : (q : Option ℕ) → has_float (number_or_null q) ≡ false
whole_number None = refl
whole_number (Some n) = refl

whole_entry : (e : Entry) → has_float (entry_json e) ≡ false
whole_entry (entry.Open s) = refl
whole_entry (entry.Op s q n op out) = neither (has_float (op_json op)) _ (whole_op op) (neither (has_float (outcome_json out)) false (whole_outcome out) refl)
whole_entry (entry.Again s q n) = refl
whole_entry (entry.Ended s q why rows) =
    neither (has_float (number_or_null q)) _ (whole_number q) (neither (has_float (list_json write_json rows)) false (whole_items write_json rows whole_write) refl)
whole_entry (entry.Left s q puts) = neither (has_float (list_json put_json puts)) false (whole_items put_json puts whole_put) refl
whole_entry (entry.Cancelled s q p) = refl
whole_entry (entry.Denied s q limit.Plan) = refl
whole_entry (entry.Denied s q limit.Listens) = refl
whole_entry (entry.On s q p) = refl
whole_entry (entry.Off s q p) = refl

pub whole_entries : (es : List Entry) → has_float (entries_json es) ≡ false
whole_entries es = whole_items entry_json es whole_entry
