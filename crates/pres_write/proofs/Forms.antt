-- A value without faults is read the same by both forms of values.
use Rattle.std.proofs.Common.{◌≡◌, ℕ, ◌-◌, ◌+◌, ◌++◌, [], ◌∷◌, Bool, true, false, cond, Option, Some, None, is_none, refl, ap, ◌∙◌, arith}
use Rattle.std.specs.Option.{option_or}
use Rattle.std.specs.Ordering.{is_lt}
use Rattle.std.specs.Fmt.{decimal}
use Rattle.serde_json.specs.Data.{Data, null, boolean, number, string, array, object, Items, no_items, item, Members, no_members, member}
use Rattle.pres_tree.specs.declared.scalar.Scalar.{Scalar}
use Rattle.pres_tree.specs.declared.fault.TreeFault.{TreeFault}
use Rattle.pres_tree.specs.Keys.{Key, key_cmp, key_fault}
use Rattle.pres_tree.specs.Paths.{path_cmp, sorted_by}
use Rattle.pres_tree.specs.JsonReading.{HasKeys, KeyedFault, rows_or, fault_or, fault_at, fault_in, first_of, rows_of, fault_of, items_rows, items_fault, members_rows, members_fault}
use Rattle.pres_tree.specs.Rows.{Rows, height, placed}
use Rattle.pres_tree.specs.JsonPrinting.{ReadsBack}
use Rattle.pres_tree.specs.Scalars.{scalar_reading}
use Rattle.pres_write.specs.Drafts.{fixed_reading, unless_placeholder}
use Rattle.pres_write.specs.Placeholders.{no_placeholder}

-- both read the same, without faults
record Same (n : ℕ) (d : Data) : Type 0 where
  pub rows : rows_of fixed_reading d ≡ rows_of scalar_reading d
  pub fault : fault_of fixed_reading n d ≡ None

record SameItems (n i : ℕ) (ds : Items) : Type 0 where
  pub rows : items_rows fixed_reading i ds ≡ items_rows scalar_reading i ds
  pub fault : items_fault fixed_reading n i ds ≡ None

record SameMembers (n : ℕ) (ms : Members) : Type 0 where
  pub rows : members_rows fixed_reading ms ≡ members_rows scalar_reading ms
  pub fault : members_fault fixed_reading n ms ≡ None
  pub keys : HasKeys ms

none_first : {A : Type 0} (o p : Option A) → option_or o p ≡ None → (o ≡ None) × (p ≡ None)
none_first None p h = (refl, h)
none_first (Some a) p h = absurd cc

none_either : (o p : KeyedFault) → fault_in (first_of o p) ≡ None → (fault_in o ≡ None) × (fault_in p ≡ None)
none_either None p h = (refl, h)
none_either (Some a) None h = absurd cc
none_either (Some a) (Some b) h = absurd (one_of (is_lt (key_cmp b.0 a.0)) h)
  where
    one_of : (c : Bool) → fault_in (cond c (Some b) (Some a)) ≡ None → ⊥
    one_of true g = cc
    one_of false g = cc

none_at : (k : Key) (o : Option TreeFault) → fault_in (fault_at k o) ≡ None → o ≡ None
none_at k None h = refl
none_at k (Some e) h = absurd cc

mutual
  same : (n : ℕ) (d : Data) → fault_of scalar_reading n d ≡ None → Same n d
  same n null h = record { rows = refl; fault = refl }
  same n (boolean b) h = record { rows = refl; fault = h }
  same n (number x) h = record { rows = refl; fault = h }
  same n (string s) h = record { rows = refl; fault = h }
  same n (array ds) h =
      let items = same_items (n - 1) 0 ds h in
      record { rows = ap (sorted_by path_cmp) items.rows; fault = ap fault_in items.fault }
  same n (object ms) h =
      let members = same_members (n - 1) ms h in
      let branch = ap unless_placeholder (no_placeholder ms members.keys) in
      record {
        rows = ap (λ r. rows_or r (sorted_by path_cmp (members_rows fixed_reading ms))) branch ∙ ap (sorted_by path_cmp) members.rows;
        fault = ap (λ r. fault_or n r (members_fault fixed_reading (n - 1) ms)) branch ∙ members.fault;
      }

  same_items : (n i : ℕ) (ds : Items) → fault_in (items_fault scalar_reading n i ds) ≡ None → SameItems n i ds
  same_items n i no_items h = record { rows = refl; fault = refl }
  same_items n i (item d ds) h =
      let each = none_either (fault_at (decimal i) (fault_of scalar_reading n d)) (items_fault scalar_reading n (i + 1) ds) h in
      let here = same n d (none_at (decimal i) (fault_of scalar_reading n d) each.0) in
      let rest = same_items n (i + 1) ds each.1 in
      record {
        rows = λ j. placed (decimal i ∷ []) (here.rows j) ++ rest.rows j;
        fault = λ j. first_of (fault_at (decimal i) (here.fault j)) (rest.fault j);
      }

  same_members : (n : ℕ) (ms : Members) → members_fault scalar_reading n ms ≡ None → SameMembers n ms
  same_members n no_members h = record { rows = refl; fault = refl; keys = tt }
  same_members n (member k d ms) h =
      let name = none_first (key_fault k) (option_or (fault_of scalar_reading n d) (members_fault scalar_reading n ms)) h in
      let each = none_first (fault_of scalar_reading n d) (members_fault scalar_reading n ms) name.1 in
      let here = same n d each.0 in
      let rest = same_members n ms each.1 in
      record {
        rows = λ j. placed (k ∷ []) (here.rows j) ++ rest.rows j;
        fault = λ j. option_or (name.0 j) (option_or (here.fault j) (rest.fault j));
        keys = (ap is_none name.0, rest.keys);
      }

pub reads_fixed : (v : Rows Scalar) (d : Data) → ReadsBack scalar_reading v d → ReadsBack fixed_reading v d
reads_fixed v d reads = ((same (height v) d (reads.1 (height v) (omega arith))).rows ∙ reads.0, λ n h. (same n d (reads.1 n h)).fault)
