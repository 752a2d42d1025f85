-- Steps of the walk over the items of an array.
use Rattle.std.proofs.Common.{◌≡◌, ℕ, ◌+◌, ◌<◌, ◌^◌, List, [], cond, Some, None, refl, sym, ap, subst, ◌∙◌}
use Rattle.std.specs.Map.{lookup, keys_of}
use Rattle.std.specs.BTreeMap.{is_at, insert_entry}
use Rattle.std.specs.Fmt.{decimal}
use Rattle.serde_json.specs.Data.{Data, Items, no_items, item}
use Rattle.pres_tree.specs.Keys.{Key, key_cmp, same_key}
use Rattle.pres_tree.specs.Paths.{path_cmp, sorted_by}
use Rattle.pres_tree.specs.Rows.{Rows}
use Rattle.pres_tree.specs.Layer.{child_rows}
use Rattle.pres_tree.specs.declared.fault.TreeFault.{TreeFault}
use Rattle.pres_tree.specs.JsonReading.{Reading, KeyedFault, rows_of, items_rows, fault_of, items_fault, fault_at, first_of}
use Rattle.pres_tree.proofs.Found.{SetsChild}
use Rattle.pres_tree.proofs.Firsts.{first_of-assoc}
use Rattle.pres_tree.proofs.Shallow.{Kid, Kids, Kids-insert}
use Rattle.pres_tree.proofs.Reading.{Rise, Walked, walked_start, walked_null, walked_insert, walked_end}

-- the items below i are read: their children, and the first of their faults
pub record ItemsRead {A : Type 0} (f : Data → Reading A) (left i : ℕ) (es : List (Key × Rows A)) (first : KeyedFault) (all rest : Items) : Type 0 where
  pub fault : items_fault f left 0 all ≡ first_of first (items_fault f left i rest)
  pub walked : first ≡ None → Walked f i es all rest
  pub kids : Kids left es
  pub order : Rise (keys_of es)

pub items_start : {A : Type 0} (f : Data → Reading A) (left : ℕ) (all : Items) (es : List (Key × Rows A)) → es ≡ [] → Rise (keys_of es) → ItemsRead f left 0 es None all all
items_start f left all es none order = record {
  fault = refl;
  walked = λ h. subst (λ fs. Walked f 0 fs all all) (sym none) (walked_start f all);
  kids = subst (Kids left) (sym none) tt;
  order = order;
}

-- an item without a fault leaves those that are left
fault_none : {A : Type 0} (f : Data → Reading A) (left i : ℕ) (first : KeyedFault) (all rest : Items) (d : Data) → fault_of f left d ≡ None → items_fault f left 0 all ≡ first_of first (items_fault f left i (item d rest)) → items_fault f left 0 all ≡ first_of first (items_fault f left (i + 1) rest)
fault_none f left i first all rest d good is =
    is ∙ (λ j. first_of first (first_of (fault_at (decimal i) (good j)) (items_fault f left (i + 1) rest)))

pub items_null : {A : Type 0} {f : Data → Reading A} {left i : ℕ} {es : List (Key × Rows A)} {first : KeyedFault} {all rest : Items} (d : Data) → fault_of f left d ≡ None → rows_of f d ≡ [] → ItemsRead f left i es first all (item d rest) → ItemsRead f left (i + 1) es first all rest
items_null {f = f} {left = left} {i = i} {first = first} {all = all} {rest = rest} d good null r = record { fault = fault_none f left i first all rest d good r.fault; walked = λ h. walked_null d (r.walked h) null; kids = r.kids; order = r.order }

pub items_insert : {A : Type 0} {f : Data → Reading A} {left i : ℕ} {es fs : List (Key × Rows A)} {first : KeyedFault} {all rest : Items} (d : Data) (k : Key) (v : Rows A) → fault_of f left d ≡ None → v ≡ rows_of f d → k ≡ decimal i → i < 2 ^ 64
    → Kid left k v → fs ≡ insert_entry key_cmp es k v → SetsChild k (Some v) es fs → Rise (keys_of fs) → ItemsRead f left i es first all (item d rest) → ItemsRead f left (i + 1) fs first all rest
items_insert {f = f} {left = left} {i = i} {es = es} {first = first} {all = all} {rest = rest} d k v good is key small kid inserted sets order r = record {
  fault = fault_none f left i first all rest d good r.fault;
  walked = λ h. walked_insert d (r.walked h) small (λ q. sets q ∙ (λ j. cond (same_key (key j) q) (Some (is j)) (lookup (is_at (key_cmp q)) es)));
  kids = subst (Kids left) (sym inserted) (Kids-insert left k v es r.kids kid);
  order = order;
}

pub items_fail : {A : Type 0} {f : Data → Reading A} {left i : ℕ} {es : List (Key × Rows A)} {first : KeyedFault} {all rest : Items} (d : Data) (k : Key) (e : TreeFault) (p : Key × TreeFault) → fault_of f left d ≡ Some e → k ≡ decimal i → Some p ≡ first_of first (Some (k, e)) → ItemsRead f left i es first all (item d rest) → ItemsRead f left (i + 1) es (Some p) all rest
items_fail {f = f} {left = left} {i = i} {first = first} {rest = rest} d k e p bad key is r = record {
  fault = r.fault
      ∙ (λ j. first_of first (first_of (fault_at (sym key j) (bad j)) (items_fault f left (i + 1) rest)))
      ∙ sym (first_of-assoc first (Some (k, e)) (items_fault f left (i + 1) rest))
      ∙ ap (λ o. first_of o (items_fault f left (i + 1) rest)) (sym is);
  walked = λ h. absurd cc;
  kids = r.kids;
  order = r.order;
}

pub items_end : {A : Type 0} {f : Data → Reading A} {left i : ℕ} {es : List (Key × Rows A)} {first : KeyedFault} {all : Items} → first ≡ None → ItemsRead f left i es first all no_items → (items_fault f left 0 all ≡ None) × (sorted_by path_cmp (child_rows es) ≡ sorted_by path_cmp (items_rows f 0 all))
items_end h r = (r.fault ∙ ap (λ o. first_of o None) h, walked_end (r.walked h) r.order)

pub items_fault-end : {A : Type 0} {f : Data → Reading A} {left i : ℕ} {es : List (Key × Rows A)} {first : KeyedFault} {all : Items} (p : Key × TreeFault) → first ≡ Some p → ItemsRead f left i es first all no_items → items_fault f left 0 all ≡ Some p
items_fault-end p h r = r.fault ∙ ap (λ o. first_of o None) h
