-- How deep the JSON of an operation nests: what is read without a fault nests no deeper than the levels left.
use Rattle.std.proofs.Common.{◌≡◌, ◌⊎◌, ℕ, ◌+◌, ◌-◌, ◌≤◌, ◌==◌, Bool, true, false, cond, List, [], ◌∷◌, Option, Some, None, refl, ap, sym, ◌∙◌, arith, inl, inr}
use Rattle.std.proofs.lemmas.Bool.Decides.{nat_tests}
use Rattle.std.specs.Option.{option_or}
use Rattle.serde_json.specs.Data.{Data, null, boolean, number, string, array, object, Members, no_members, member, depth, members_depth}
use Rattle.pres_tree.specs.declared.fault.TreeFault.{TreeFault}
use Rattle.pres_tree.specs.declared.fault.TreeFault.TheVariants.{TooDeep}
use Rattle.pres_tree.specs.Keys.{Key, same_key, key_fault}
use Rattle.pres_tree.specs.Paths.{Path}
use Rattle.pres_tree.specs.Rows.{Rows}
use Rattle.pres_tree.specs.JsonReading.{Reading, branch, leaf, bad, is_leaf, fault_or, fault_of, members_fault}
use Rattle.pres_tree.specs.JsonPrinting.{members_in, with_first, with_row, json_of}

-- ---- JSON whose leaves are no nulls and no empty objects

abbrev pub HasMembers : Members → Type 0
HasMembers no_members = ⊥
HasMembers (member k d ms) = Unit {0}

abbrev mutual
  pub Solid : Data → Type 0
  Solid null = ⊥
  Solid (boolean b) = Unit {0}
  Solid (number n) = Unit {0}
  Solid (string s) = Unit {0}
  Solid (array ds) = ⊥
  Solid (object ms) = HasMembers ms × AllSolid ms

  pub AllSolid : Members → Type 0
  AllSolid no_members = Unit {0}
  AllSolid (member k d ms) = Solid d × AllSolid ms

members_solid : (d : Data) → Solid d → AllSolid (members_in d)
members_solid null h = absurd h
members_solid (boolean b) h = tt
members_solid (number n) h = tt
members_solid (string s) h = tt
members_solid (array ds) h = absurd h
members_solid (object ms) h = h.1

first_by : (t : Bool) (k l : Key) (f : Data → Data) (d : Data) (ms : Members)
    → same_key k l ≡ t
    → ((e : Data) → AllSolid (members_in e) → Solid (f e))
    → Solid d × AllSolid ms
    → HasMembers (with_first k f (member l d ms)) × AllSolid (with_first k f (member l d ms))
first_by true k l f d ms e g h = rw e (tt, (g d (members_solid d h.0), h.1))
first_by false k l f d ms e g h = rw e (tt, (g null tt, h))

first_solid : (k : Key) (f : Data → Data) (ms : Members)
    → ((e : Data) → AllSolid (members_in e) → Solid (f e))
    → AllSolid ms
    → HasMembers (with_first k f ms) × AllSolid (with_first k f ms)
first_solid k f no_members g h = (tt, (g null tt, tt))
first_solid k f (member l d ms) g h = first_by (same_key k l) k l f d ms refl g h

row_solid : (p : Path) (a d : Data) → Solid a → AllSolid (members_in d) → Solid (with_row p a d)
row_solid [] a d h k = h
row_solid (x ∷ p) a d h k = first_solid x (with_row p a) (members_in d) (λ e g. row_solid p a e h g) k

rows_solid : {A : Type 0} (g : A → Data) (v : Rows A) → ((a : A) → Solid (g a)) → AllSolid (members_in (json_of g v))
rows_solid g [] h = tt
rows_solid g (r ∷ v) h = members_solid (with_row r.0 (g r.1) (json_of g v)) (row_solid r.0 (g r.1) (json_of g v) (h r.1) (rows_solid g v h))

-- ---- reading without a fault

-- what a kind of leaf reads as a leaf nests one level and so many more at most, and all that holds nothing is read as a leaf
pub record Flat {A : Type 0} (more : ℕ) (f : Data → Reading A) : Type 0 where
  pub low : (d : Data) (a : A) → f d ≡ leaf a → depth d ≤ 1 + more
  pub booleans : (b : Bool) → is_leaf (f (boolean b)) ≡ true
  pub numbers : (n : _) → is_leaf (f (number n)) ≡ true
  pub strings : (s : List ℕ) → is_leaf (f (string s)) ≡ true

no_fault : {X : Type 0} (a b : Option X) → option_or a b ≡ None → (a ≡ None) × (b ≡ None)
no_fault None b h = (refl, h)
no_fault (Some x) b h = cc

level : (n : ℕ) (b : Bool) → (n == 0) ≡ b → cond b (Some TooDeep) None ≡ None → 1 ≤ n
level n true e h = cc
level n false e h = grind (arith, nat_tests)

refused : (b : Bool) (e : TreeFault) → cond b (Some TooDeep) (Some e) ≡ None → ⊥
refused true e h = cc
refused false e h = cc

by_reading : {A : Type 0} (n : ℕ) (r : Reading A) (o : Option TreeFault) → fault_or n r o ≡ None → ((r ≡ branch) × (o ≡ None)) ⊎ ((a : A) × (r ≡ leaf a) × (1 ≤ n))
by_reading n branch o h = inl (refl, h)
by_reading n (leaf a) o h = inr (a, refl, level n (n == 0) refl h)
by_reading n (bad e) o h = absurd (refused (n == 0) e h)

not_branch : {A : Type 0} (r : Reading A) → is_leaf r ≡ true → r ≡ branch → ⊥
not_branch r h e = let no : false ≡ true = ap is_leaf (sym e) ∙ h in cc

leaf_low : {A : Type 0} {more : ℕ} (f : Data → Reading A) → Flat more f → (d : Data) (n : ℕ) → depth d ≡ 0 → is_leaf (f d) ≡ true → (o : Option TreeFault) → fault_or n (f d) o ≡ None → (1 ≤ n) × (depth d ≤ n + more)
leaf_low f flat d n e held o h = elim (by_reading n (f d) o h) [
  | inl w ↦ absurd (not_branch (f d) held w.0)
  | inr w ↦ (w.2, omega (arith, e))
]

object_low : {A : Type 0} {more : ℕ} (f : Data → Reading A) → Flat more f → (ms : Members) (n : ℕ) → (members_fault f (n - 1) ms ≡ None → (1 ≤ n - 1) × (members_depth ms ≤ n - 1 + more)) → fault_or n (f (object ms)) (members_fault f (n - 1) ms) ≡ None → (1 ≤ n) × (depth (object ms) ≤ n + more)
object_low f flat ms n members h = elim (by_reading n (f (object ms)) (members_fault f (n - 1) ms) h) [
  | inl w ↦ let low = members w.1 in (omega (arith, low.0), omega (arith, low.0, low.1))
  | inr w ↦ (w.2, omega (arith, flat.low (object ms) w.0 w.1, w.2))
]

-- something solid takes a level, and nests no deeper than the levels left
mutual
  solid_low : {A : Type 0} {more : ℕ} (f : Data → Reading A) → Flat more f → (d : Data) (n : ℕ) → Solid d → fault_of f n d ≡ None → (1 ≤ n) × (depth d ≤ n + more)
  solid_low f flat null n s h = absurd s
  solid_low f flat (boolean b) n s h = leaf_low f flat (boolean b) n refl (flat.booleans b) None h
  solid_low f flat (number x) n s h = leaf_low f flat (number x) n refl (flat.numbers x) None h
  solid_low f flat (string t) n s h = leaf_low f flat (string t) n refl (flat.strings t) None h
  solid_low f flat (array ds) n s h = absurd s
  solid_low f flat (object ms) n s h = object_low f flat ms n (λ e. members_low f flat ms (n - 1) s.0 s.1 e) h

  members_low : {A : Type 0} {more : ℕ} (f : Data → Reading A) → Flat more f → (ms : Members) (n : ℕ) → HasMembers ms → AllSolid ms → members_fault f n ms ≡ None → (1 ≤ n) × (members_depth ms ≤ n + more)
  members_low f flat no_members n some s h = absurd some
  members_low f flat (member k d ms) n some s h =
      let faults = no_fault (fault_of f n d) (members_fault f n ms) ((no_fault (key_fault k) _ h).1) in
      let first = solid_low f flat d n s.0 faults.0 in
      (first.0, omega (arith, first.1, rest_low f flat ms n s.1 faults.1))

  rest_low : {A : Type 0} {more : ℕ} (f : Data → Reading A) → Flat more f → (ms : Members) (n : ℕ) → AllSolid ms → members_fault f n ms ≡ None → members_depth ms ≤ n + more
  rest_low f flat no_members n s h = omega arith
  rest_low f flat (member k d ms) n s h =
      let faults = no_fault (fault_of f n d) (members_fault f n ms) ((no_fault (key_fault k) _ h).1) in
      omega (arith, (solid_low f flat d n s.0 faults.0).1, rest_low f flat ms n s.1 faults.1)

-- printed rows that are read without a fault nest no deeper than the levels
pub rows_low : {A B : Type 0} {more : ℕ} (f : Data → Reading A) (g : B → Data) → Flat more f → ((b : B) → Solid (g b)) → (v : Rows B) (n : ℕ) → fault_of f n (json_of g v) ≡ None → depth (json_of g v) ≤ n + more
rows_low f g flat solid [] n h = omega arith
rows_low f g flat solid (r ∷ v) n h =
    (solid_low f flat (with_row r.0 (g r.1) (json_of g v)) n (row_solid r.0 (g r.1) (json_of g v) (solid r.1) (rows_solid g v solid)) h).1
