-- The JSON of messages has no floats, so that its text is stated.
use Rattle.std.proofs.Common.{◌≡◌, ℕ, pos, negsuc, Bool, true, false, List, drop, map, Option, Some, None, [], ◌∷◌, refl, ap, ◌∙◌, ◌||◌}
use Rattle.std.specs.Ordering.{nat_cmp}
use Rattle.std.specs.declared.cmp.Ordering.TheVariants.{Less, Equal, Greater}
use Rattle.std.specs.Cmp.Lexicographic.{slice_cmp}
use Rattle.std.specs.FinMap.Entries.{put, by_order}
use Rattle.std.specs.Prelude.{IfOk, Result, Ok, Err, String, string_bytes}
use Rattle.std.specs.declared.alloc.AllocError.{AllocError}
use Rattle.std.specs.declared.alloc.Global.{Global}
use Rattle.serde_json.specs.Data.{Data, null, boolean, number, string, array, object, Members, no_members, member}
use Rattle.serde_json.specs.Written.{has_float, items_have_float, members_have_float, compact_text}
use Rattle.pres_tree.specs.declared.scalar.Scalar.{Scalar}
use Rattle.pres_tree.specs.declared.scalar.Scalar.TheVariants.{Bool as BoolOf, Int, Text}
use Rattle.pres_tree.specs.Keys.{Key, same_key}
use Rattle.pres_tree.specs.Paths.{Path, path_text, sorted_by}
use Rattle.pres_tree.specs.Rows.{Rows, rows_in}
use Rattle.pres_tree.specs.JsonPrinting.{json_of, with_row, with_first, members_in}
use Rattle.pres_tree.specs.Scalars.{scalar_printing}
use Rattle.pres_write.specs.declared.draft.DraftLeaf.{DraftLeaf}
use Rattle.pres_write.specs.declared.draft.DraftLeaf.TheVariants.{Fixed, Timestamp, Increment}
use Rattle.pres_write.specs.declared.op.Op.{Op}
use Rattle.pres_write.specs.declared.op.Op.TheVariants.{Set, Update, Tx}
use Rattle.pres_write.specs.Drafts.{slot_printing}
use Rattle.pres_write.specs.OpForms.{op_json, named, members_from, values_json}
use Rattle.pres_write.specs.Unconditionals.{as_op}
use Rattle.pres_write.specs.Updates.{Places}
use Rattle.pres_wire.specs.declared.up.Up.{Up}
use Rattle.pres_wire.specs.declared.up.Up.TheVariants as up
use Rattle.pres_wire.specs.UpForms.{up_json}
use Rattle.pres_write.specs.declared.outcome.Kept.{Kept}
use Rattle.pres_write.specs.declared.outcome.Kept.TheVariants as kept
use Rattle.pres_ids.specs.declared.id.SessionId.{SessionId}
use Rattle.pres_wire.specs.declared.down.Code.{Code}
use Rattle.pres_wire.specs.declared.down.Code.TheVariants as code
use Rattle.pres_wire.specs.declared.down.Limit.TheVariants as limit
use Rattle.pres_wire.specs.declared.down.Down.{Down}
use Rattle.pres_wire.specs.declared.down.Down.TheVariants as down
use Rattle.pres_wire.specs.DownForms.{out_json, session_or_null, path_value_json, values_json as pushed_json, down_json}
use Rattle.pres_wire.specs.declared.values.PathValue.{PathValue}
use Rattle.serde_json.specs.View.{items_of}

either_part : (a b : Bool) → (a || b) ≡ false → (a ≡ false) × (b ≡ false)
either_part false b h = (refl, h)
either_part true b h = cc

pub neither : (a b : Bool) → a ≡ false → b ≡ false → (a || b) ≡ false
neither false b h k = k
neither true b h k = h

whole_members : (d : Data) → has_float d ≡ false → members_have_float (members_in d) ≡ false
whole_members null h = refl
whole_members (boolean b) h = refl
whole_members (number n) h = refl
whole_members (string s) h = refl
whole_members (array ds) h = refl
whole_members (object ms) h = h

first_by : (t : Bool) (k l : Key) (f : Data → Data) (d : Data) (ms : Members)
    → (same_key k l ≡ t)
    → ((e : Data) → has_float e ≡ false → has_float (f e) ≡ false)
    → members_have_float (member l d ms) ≡ false
    → members_have_float (with_first k f (member l d ms)) ≡ false
first_by true k l f d ms e g h =
    let parts = either_part (has_float d) (members_have_float ms) h in
    rw e (neither (has_float (f d)) (members_have_float ms) (g d parts.0) parts.1)
first_by false k l f d ms e g h =
    rw e (neither (has_float (f null)) (has_float d || members_have_float ms) (g null refl) h)

whole_first : (k : Key) (f : Data → Data) (ms : Members)
    → ((e : Data) → has_float e ≡ false → has_float (f e) ≡ false)
    → members_have_float ms ≡ false
    → members_have_float (with_first k f ms) ≡ false
whole_first k f no_members g h = neither (has_float (f null)) false (g null refl) refl
whole_first k f (member l d ms) g h = first_by (same_key k l) k l f d ms refl g h

whole_row : (p : Path) (a d : Data) → has_float a ≡ false → has_float d ≡ false → has_float (with_row p a d) ≡ false
whole_row [] a d h k = h
whole_row (x ∷ p) a d h k = whole_first x (with_row p a) (members_in d) (λ e g. whole_row p a e h g) (whole_members d k)

-- the JSON of rows has no float where that of no leaf has
pub whole_rows : {A : Type 0} (g : A → Data) (v : Rows A) → ((a : A) → has_float (g a) ≡ false) → has_float (json_of g v) ≡ false
whole_rows g [] h = refl
whole_rows g (r ∷ v) h = whole_row r.0 (g r.1) (json_of g v) (h r.1) (whole_rows g v h)

pub whole_scalar : (a : Scalar) → has_float (scalar_printing a) ≡ false
whole_scalar (BoolOf b) = refl
whole_scalar (Int (pos n)) = refl
whole_scalar (Int (negsuc n)) = refl
whole_scalar (Text s) = refl

pub whole_slot : (s : DraftLeaf) → has_float (slot_printing s) ≡ false
whole_slot (Fixed s) = whole_scalar s
whole_slot Timestamp = refl
whole_slot (Increment (pos n)) = refl
whole_slot (Increment (negsuc n)) = refl

whole_puts : (k : List ℕ) (d : Data) (es : List (List ℕ × Data)) → has_float d ≡ false → members_have_float (members_from es) ≡ false → members_have_float (members_from (put (slice_cmp nat_cmp) k d es)) ≡ false
whole_puts k d [] h g = neither (has_float d) false h refl
whole_puts k d (e ∷ es) h g =
    let parts = either_part (has_float e.1) (members_have_float (members_from es)) g in
    elim (slice_cmp nat_cmp k e.0) as (λ o. members_have_float (members_from (by_order o ((k, d) ∷ e ∷ es) ((e.0, d) ∷ es) (e ∷ put (slice_cmp nat_cmp) k d es))) ≡ false) [
      | Less ↦ neither (has_float d) _ h g
      | Equal ↦ neither (has_float d) _ h parts.1
      | Greater ↦ neither (has_float e.1) _ parts.0 (whole_puts k d es h parts.1)
    ]

whole_values : (places : Places) → members_have_float (values_json places) ≡ false
whole_values [] = refl
whole_values (e ∷ es) = whole_puts (drop 1 (path_text e.0)) (json_of slot_printing e.1) (sorted_by (slice_cmp nat_cmp) (named es)) (whole_rows slot_printing e.1 whole_slot) (whole_values es)

pub whole_op : (op : Op) → has_float (op_json op) ≡ false
whole_op (Set p) = neither (has_float (json_of slot_printing p.1)) false (whole_rows slot_printing p.1 whole_slot) refl
whole_op (Update u) = neither (members_have_float (values_json u.places)) false (whole_values u.places) refl
whole_op (Tx t) =
    neither (has_float (json_of scalar_printing t.expect)) _ (whole_rows scalar_printing t.expect whole_scalar)
    (neither (has_float (json_of slot_printing t.new)) false (whole_rows slot_printing t.new whole_slot) refl)

pub whole_up : (m : Up) → has_float (up_json m) ≡ false
whole_up (up.Hello s) = refl
whole_up (up.Op s q n op) = neither (has_float (op_json op)) false (whole_op op) refl
whole_up (up.Bye s q) = refl
whole_up (up.Left s q op) = neither (has_float (op_json (as_op op))) false (whole_op (as_op op)) refl
whole_up (up.Cancel s q p) = refl
whole_up (up.Beat s) = refl
whole_up (up.On s q p) = refl
whole_up (up.Off s q p) = refl

-- the text of a value that has no float
pub whole_text : (r : Result (String Global) AllocError) (made d : Data) → made ≡ d → has_float d ≡ false → IfOk r (λ t. has_float made ≡ false → string_bytes t ≡ compact_text made) → IfOk r (λ t. string_bytes t ≡ compact_text d)
whole_text (Ok t) made d is whole h = h (ap has_float is ∙ whole) ∙ ap compact_text is
whole_text (Err e) made d is whole h = tt

whole_out : (out : Kept) → has_float (out_json out) ≡ false
whole_out kept.Wrote = refl
whole_out (kept.Stale held) = neither (has_float (json_of scalar_printing (rows_in held))) false (whole_rows scalar_printing (rows_in held) whole_scalar) refl

whole_session : (s : Option SessionId) → has_float (session_or_null s) ≡ false
whole_session None = refl
whole_session (Some s) = refl

whole_fault : (s : Option SessionId) (c : Code) → has_float (down_json (down.Fault s c)) ≡ false
whole_fault s code.Bad = neither (has_float (session_or_null s)) false (whole_session s) refl
whole_fault s (code.Old last) = neither (has_float (session_or_null s)) false (whole_session s) refl
whole_fault s code.Session = neither (has_float (session_or_null s)) false (whole_session s) refl
whole_fault s code.Order = neither (has_float (session_or_null s)) false (whole_session s) refl
whole_fault s code.Full = neither (has_float (session_or_null s)) false (whole_session s) refl
whole_fault s code.Busy = neither (has_float (session_or_null s)) false (whole_session s) refl
whole_fault s code.Spent = neither (has_float (session_or_null s)) false (whole_session s) refl
whole_fault s code.Down = neither (has_float (session_or_null s)) false (whole_session s) refl

whole_path_values : (vs : List PathValue) → items_have_float (items_of (map path_value_json vs)) ≡ false
whole_path_values [] = refl
whole_path_values (v ∷ vs) =
    neither (has_float (path_value_json v)) (items_have_float (items_of (map path_value_json vs)))
    (neither (has_float (json_of scalar_printing v.value)) false (whole_rows scalar_printing v.value whole_scalar) refl)
    (whole_path_values vs)

pub whole_down : (m : Down) → has_float (down_json m) ≡ false
whole_down (down.Welcome s z ops) = refl
whole_down (down.Reply s r z q n done out) = neither (has_float (out_json out)) false (whole_out out) refl
whole_down (down.Gone s r z why) = refl
whole_down (down.Fault s c) = whole_fault s c
whole_down (down.Armed s r z q) = refl
whole_down (down.Snap s r z q p v) = neither (has_float (json_of scalar_printing v)) false (whole_rows scalar_printing v whole_scalar) refl
whole_down (down.Push s r z vs) = neither (has_float (pushed_json vs)) false (whole_path_values vs) refl
whole_down (down.OffDone s r z q) = refl
whole_down (down.Denied s r z q limit.Plan) = refl
whole_down (down.Denied s r z q limit.Listens) = refl
