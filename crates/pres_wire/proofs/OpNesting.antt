-- No operation's JSON nests deep.
use Rattle.std.proofs.Common.{◌≡◌, ℕ, ◌+◌, ◌-◌, ◌≤◌, Bool, true, false, cond, List, [], ◌∷◌, length, Option, Some, None, Result, Ok, Err, refl, ap, sym, ◌∙◌, arith, ◌&&◌, ◌^◌, codes, pos}
use Rattle.std.specs.Prelude.{nat_lt, IfOk}
use Rattle.std.specs.declared.alloc.AllocError.{AllocError}
use Rattle.serde_json.specs.View.{view}
use Rattle.serde_json.specs.declared.value.Value.{Value}
use Rattle.std.specs.Option.{option_or}
use Rattle.std.specs.Ordering.{nat_cmp, match_ordering}
use Rattle.std.specs.declared.cmp.Ordering.TheVariants.{Less, Equal, Greater}
use Rattle.std.specs.Cmp.Lexicographic.{slice_cmp}
use Rattle.std.specs.FinMap.Entries.{put, by_order}
use Rattle.serde_json.specs.Data.{Num, unsigned, negative, float, Data, null, boolean, number, string, array, object, Members, no_members, member, depth, members_depth}
use Rattle.serde_json.specs.Find.{get_member}
use Rattle.pres_tree.specs.declared.fault.TreeFault.{TreeFault}
use Rattle.pres_tree.specs.declared.fault.TreeFault.TheVariants.{TooDeep, Range, Placeholder}
use Rattle.pres_tree.specs.declared.scalar.Scalar.{Scalar}
use Rattle.pres_tree.specs.declared.scalar.Scalar.TheVariants.{Bool as BoolOf, Int, Text}
use Rattle.pres_tree.specs.Paths.{Path, path_text, path_fault, segments, sorted_by}
use Rattle.pres_tree.specs.Rows.{Rows}
use Rattle.pres_tree.specs.JsonReading.{Reading, branch, leaf, bad, is_leaf, fault_of}
use Rattle.pres_tree.specs.JsonPrinting.{json_of}
use Rattle.pres_tree.specs.Scalars.{scalar_printing, number_reading}
use Rattle.pres_write.specs.declared.draft.DraftLeaf.{DraftLeaf}
use Rattle.pres_write.specs.declared.draft.DraftLeaf.TheVariants.{Fixed, Timestamp, Increment}
use Rattle.pres_write.specs.declared.fault.WriteFault.{WriteFault}
use Rattle.pres_write.specs.declared.fault.WriteFault.TheVariants.{ManyPaths}
use Rattle.pres_write.specs.declared.op.Op.{Op}
use Rattle.pres_write.specs.declared.op.Op.TheVariants.{Set, Update, Tx}
use Rattle.pres_write.specs.Drafts.{fixed, increment_of, server_value, is_one, placeholder, slot_reading, unless_placeholder, fixed_reading, slot_printing}
use Rattle.pres_write.specs.Updates.{Places, PlacesBelow, most_places}
use Rattle.pres_write.specs.OpForms.{unless, set_read, update_read, tx_read, set_form, update_form, tx_form, op_json, op_read, place_fault, places_fault, places_read, below_read, as_update, named, members_from, values_json}
use Rattle.pres_wire.proofs.Nesting.{Flat, Solid, rows_low}

-- ---- leaves of values and of drafts

pub scalar_solid : (s : Scalar) → Solid (scalar_printing s)
scalar_solid (BoolOf b) = tt
scalar_solid (Int z) = tt
scalar_solid (Text s) = tt

slot_solid : (s : DraftLeaf) → Solid (slot_printing s)
slot_solid (Fixed s) = scalar_solid s
slot_solid Timestamp = (tt, (tt, tt))
slot_solid (Increment by) = (tt, ((tt, (tt, tt)), tt))

range_leaf : {A : Type 0} (b : Bool) (a : A) (e : TreeFault) → is_leaf (cond b (leaf a) (bad e)) ≡ true
range_leaf true a e = refl
range_leaf false a e = refl

pub number_leaf : (x : Num) → is_leaf (number_reading x) ≡ true
number_leaf (unsigned n) = range_leaf (nat_lt n (2 ^ 63)) (Int (pos n)) Range
number_leaf (negative z) = refl
number_leaf (float x) = refl

fixed_leaf : (r : Reading Scalar) → is_leaf (fixed r) ≡ is_leaf r
fixed_leaf branch = refl
fixed_leaf (leaf a) = refl
fixed_leaf (bad e) = refl

no_leaf : (o : Option Data) (a : Scalar) → unless_placeholder o ≡ leaf a → ⊥
no_leaf None a h = cc
no_leaf (Some d) a h = cc

expected_low : (d : Data) (a : Scalar) → fixed_reading d ≡ leaf a → depth d ≤ 1
expected_low null a h = omega arith
expected_low (boolean b) a h = omega arith
expected_low (number n) a h = omega arith
expected_low (string s) a h = omega arith
expected_low (array ds) a h = cc
expected_low (object ms) a h = absurd (no_leaf (get_member (codes ".sv") ms) a h)

expected_flat : Flat 0 fixed_reading
expected_flat = record { low = expected_low; booleans = λ b. refl; numbers = number_leaf; strings = λ s. refl }

here : (k : List ℕ) (d v : Data) → get_member (codes ".sv") (member k d no_members) ≡ Some v → d ≡ v
here k d v h =
    elim (slice_cmp nat_cmp (codes ".sv") k) as (λ o. match_ordering o None (Some d) None ≡ Some v → d ≡ v) [
      | Less ↦ λ e. cc
      | Equal ↦ λ e. cc
      | Greater ↦ λ e. cc
    ] h

-- the one member under the name
here_of : (name : List ℕ) (same : (k : List ℕ) (d v : Data) → get_member name (member k d no_members) ≡ Some v → d ≡ v) (ms : Members) (v : Data) → is_one ms ≡ true → get_member name ms ≡ Some v → depth (object ms) ≡ depth v + 1
here_of name same no_members v o g = cc
here_of name same (member k d no_members) v o g = let low = ap depth (same k d v g) in omega (arith, low)
here_of name same (member k d (member l e ms)) v o g = cc

number_here : (k : List ℕ) (d v : Data) → get_member (codes "increment") (member k d no_members) ≡ Some v → d ≡ v
number_here k d v h =
    elim (slice_cmp nat_cmp (codes "increment") k) as (λ o. match_ordering o None (Some d) None ≡ Some v → d ≡ v) [
      | Less ↦ λ e. cc
      | Equal ↦ λ e. cc
      | Greater ↦ λ e. cc
    ] h

increment_low : (o : Option Data) (s : DraftLeaf) → increment_of o ≡ leaf s → (v : Data) × (o ≡ Some v) × (depth v ≡ 0)
increment_low None s h = cc
increment_low (Some null) s h = cc
increment_low (Some (boolean b)) s h = cc
increment_low (Some (number n)) s h = (number n, refl, refl)
increment_low (Some (string t)) s h = cc
increment_low (Some (array ds)) s h = cc
increment_low (Some (object ms)) s h = cc

-- where a test chooses a leaf or none, it holds
chosen : (b : Bool) (r : Reading DraftLeaf) (s : DraftLeaf) → cond b r (bad Placeholder) ≡ leaf s → (b ≡ true) × (r ≡ leaf s)
chosen true r s h = (refl, h)
chosen false r s h = cc

server_low : (d : Data) (s : DraftLeaf) → server_value d ≡ leaf s → depth d ≤ 1
server_low null s h = cc
server_low (boolean b) s h = cc
server_low (number n) s h = cc
server_low (string t) s h = omega arith
server_low (array ds) s h = cc
server_low (object ms) s h =
    let one = chosen (is_one ms) (increment_of (get_member (codes "increment") ms)) s h in
    let found = increment_low (get_member (codes "increment") ms) s one.1 in
    let low = here_of (codes "increment") number_here ms found.0 one.0 found.1 in
    let none = found.2 in
    omega (arith, low, none)

placeholder_low : (ms : Members) (o : Option Data) (s : DraftLeaf) → get_member (codes ".sv") ms ≡ o → placeholder ms o ≡ leaf s → depth (object ms) ≤ 2
placeholder_low ms None s g h = cc
placeholder_low ms (Some v) s g h =
    let one = chosen (is_one ms) (server_value v) s h in
    let low = here_of (codes ".sv") here ms v one.0 g in
    let inner = server_low v s one.1 in
    omega (arith, low, inner)

slot_low : (d : Data) (s : DraftLeaf) → slot_reading d ≡ leaf s → depth d ≤ 2
slot_low null s h = omega arith
slot_low (boolean b) s h = omega arith
slot_low (number n) s h = omega arith
slot_low (string t) s h = omega arith
slot_low (array ds) s h = cc
slot_low (object ms) s h = placeholder_low ms (get_member (codes ".sv") ms) s refl h

slot_flat : Flat 1 slot_reading
slot_flat = record { low = slot_low; booleans = λ b. refl; numbers = λ x. fixed_leaf (number_reading x) ∙ number_leaf x; strings = λ s. refl }

-- ---- parts that are read without a fault

pub draft_low : (v : Rows DraftLeaf) (n : ℕ) → fault_of slot_reading n (json_of slot_printing v) ≡ None → depth (json_of slot_printing v) ≤ n + 1
draft_low v n h = rows_low slot_reading slot_printing slot_flat slot_solid v n h

value_low : (v : Rows Scalar) (n : ℕ) → fault_of fixed_reading n (json_of scalar_printing v) ≡ None → depth (json_of scalar_printing v) ≤ n
value_low v n h = let low = rows_low fixed_reading scalar_printing expected_flat scalar_solid v n h in omega (arith, low)

accepted : {A : Type 0} (o : Option TreeFault) (r : Result A WriteFault) (a : A) → unless o r ≡ Ok a → (o ≡ None) × (r ≡ Ok a)
accepted None r a h = (refl, h)
accepted (Some e) r a h = cc

-- ---- the three forms

put_low : (p : Path) (v : Rows DraftLeaf) (op : Op) → set_read (path_text p) (json_of slot_printing v) ≡ Ok op → depth (set_form (path_text p) (json_of slot_printing v)) ≤ 64
put_low p v op read =
    let fault : fault_of slot_reading (33 - length (segments (path_text p))) (json_of slot_printing v) ≡ None = (accepted _ _ _ (accepted _ _ _ read).1).0 in
    let low : depth (json_of slot_printing v) ≤ 33 - length (segments (path_text p)) + 1 = draft_low v _ fault in
    omega (arith, low)

tx_low : (p : Path) (expect : Rows Scalar) (new : Rows DraftLeaf) (op : Op) → tx_read (path_text p) (json_of scalar_printing expect) (json_of slot_printing new) ≡ Ok op
    → depth (tx_form (path_text p) (json_of scalar_printing expect) (json_of slot_printing new)) ≤ 64
tx_low p expect new op read =
    let first : depth (json_of scalar_printing expect) ≤ 33 - length (segments (path_text p)) = value_low expect _ (accepted _ _ _ (accepted _ _ _ read).1).0 in
    let second : depth (json_of slot_printing new) ≤ 33 - length (segments (path_text p)) + 1 = draft_low new _ (accepted _ _ _ (accepted _ _ _ (accepted _ _ _ read).1).1).0 in
    omega (arith, first, second)

-- each value is printed rows, so that it is low where it is read
abbrev Lows : List (List ℕ × Data) → Type 0
Lows [] = Unit {0}
Lows (e ∷ es) = ((n : ℕ) → fault_of slot_reading n e.1 ≡ None → depth e.1 ≤ n + 1) × Lows es

lows_named : (places : Places) → Lows (named places)
lows_named [] = tt
lows_named (e ∷ es) = (λ n h. draft_low e.1 n h, lows_named es)

lows_put : (k : List ℕ) (d : Data) (es : List (List ℕ × Data)) → ((n : ℕ) → fault_of slot_reading n d ≡ None → depth d ≤ n + 1) → Lows es → Lows (put (slice_cmp nat_cmp) k d es)
lows_put k d [] low h = (low, tt)
lows_put k d (e ∷ es) low h =
    elim (slice_cmp nat_cmp k e.0) as (λ o. Lows (by_order o ((k, d) ∷ e ∷ es) ((e.0, d) ∷ es) (e ∷ put (slice_cmp nat_cmp) k d es))) [
      | Less ↦ (low, h)
      | Equal ↦ (low, h.1)
      | Greater ↦ (h.0, lows_put k d es low h.1)
    ]

lows_sorted : (es : List (List ℕ × Data)) → Lows es → Lows (sorted_by (slice_cmp nat_cmp) es)
lows_sorted [] h = tt
lows_sorted (e ∷ es) h = lows_put e.0 e.1 (sorted_by (slice_cmp nat_cmp) es) h.0 (lows_sorted es h.1)

no_fault : {X : Type 0} (a b : Option X) → option_or a b ≡ None → (a ≡ None) × (b ≡ None)
no_fault None b h = (refl, h)
no_fault (Some x) b h = cc

not_deep : (b : Bool) (o : Option TreeFault) → cond b (Some TooDeep) o ≡ None → o ≡ None
not_deep true o h = cc
not_deep false o h = h

members_low : (p : Path) (es : List (List ℕ × Data)) → Lows es → places_fault p (members_from es) ≡ None → members_depth (members_from es) ≤ 34
members_low p [] h f = omega arith
members_low p (e ∷ es) h f =
    let faults = no_fault (place_fault p e.0 e.1) (places_fault p (members_from es)) f in
    let fault = not_deep (nat_lt 32 (length p + length (segments e.0))) _ (no_fault (path_fault e.0) _ faults.0).1 in
    omega (arith, h.0 (33 - (length p + length (segments e.0))) fault, members_low p es h.1 faults.1)

not_many : {A : Type 0} (b : Bool) (r : Result A WriteFault) (a : A) → cond b (Err ManyPaths) r ≡ Ok a → r ≡ Ok a
not_many true r a h = cc
not_many false r a h = h

below_of : (r : Result PlacesBelow WriteFault) (op : Op) → as_update r ≡ Ok op → (u : PlacesBelow) × (r ≡ Ok u)
below_of (Ok u) op h = (u, refl)
below_of (Err e) op h = cc

update_low : (p : Path) (places : Places) (op : Op) → update_read (path_text p) (values_json places) ≡ Ok op → depth (update_form (path_text p) (object (values_json places))) ≤ 64
update_low p places op read =
    let below = below_of (below_read (segments (path_text p)) (values_json places)) op (accepted _ _ _ read).1 in
    let fault : places_fault (segments (path_text p)) (values_json places) ≡ None = (accepted _ _ _ (not_many (nat_lt most_places (length (places_read (values_json places)))) _ _ below.1)).0 in
    let low : members_depth (values_json places) ≤ 34 = members_low (segments (path_text p)) (sorted_by (slice_cmp nat_cmp) (named places)) (lows_sorted (named places) (lows_named places)) fault in
    omega (arith, low)

-- what is read as itself nests little
pub op_low : (op : Op) → op_read (op_json op) ≡ Ok op → depth (op_json op) ≤ 64
op_low (Set p) h = put_low p.0 p.1 (Set p) h
op_low (Update u) h = update_low u.path u.places (Update u) h
op_low (Tx t) h = tx_low t.path t.expect t.new (Tx t) h

pub made_low : (r : Result Value AllocError) (op : Op) → IfOk r (λ made. view made ≡ op_json op) → IfOk r (λ made. op_read (view made) ≡ Ok op) → IfOk r (λ _. depth (op_json op) ≤ 64)
made_low (Ok made) op is reads = op_low op (ap op_read (sym is) ∙ reads)
made_low (Err e) op is reads = tt
