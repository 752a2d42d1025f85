-- The JSON value of rows: that of an object's children is the object of theirs, and it is read back.
use Rattle.std.proofs.Common.{◌≡◌, ◌+◌, ◌-◌, ◌<◌, ◌≤◌, ℕ, List, [], ◌∷◌, ◌++◌, length, map, Bool, true, false, cond, ◌&&◌, Option, Some, None, is_none, IsTrue, ◌==◌, Result, Ok, Err, IfOk, refl, sym, ap, subst, ◌∙◌, arith, T, true≢false, append_assoc}
use Rattle.std.specs.Prelude.{String, string_bytes}
use Rattle.std.specs.Result.{OnOk}
use Rattle.std.specs.declared.alloc.Global.{Global}
use Rattle.std.specs.declared.cmp.Ordering.TheVariants.{Less, Greater}
use Rattle.std.specs.Ordering.{is_lt, is_eq, ordering_then, ordering_reverse, match_ordering}
use Rattle.std.specs.Option.{option_or}
use Rattle.std.specs.Cmp.{tied_itself}
use Rattle.std.specs.Cmp.Lexicographic.{nat_list_cmp_total}
use Rattle.std.specs.List.{AllByRecursion}
use Rattle.std.specs.List.Sorted.{IsStrictlySortedBy}
use Rattle.std.specs.Map.{keys_of}
use Rattle.std.specs.BTreeMap.{insert_entry}
use Rattle.std.specs.FinMap.Entries.{below_all}
use Rattle.serde_json.specs.Data.{Data, null, boolean, number, string, array, object, Members, no_members, member}
use Rattle.serde_json.specs.View.{view, members_view}
use Rattle.serde_json.specs.declared.value.Value.{Value}
use Rattle.pres_tree.specs.Keys.{Key, key_cmp, same_key, is_key, key_fault}
use Rattle.pres_tree.specs.Paths.{Path, path_cmp, sorted_by}
use Rattle.pres_tree.specs.Rows.{Rows, InOrder, is_null, height, placed}
use Rattle.pres_tree.specs.Layer.{Children, child_rows}
use Rattle.pres_tree.specs.Falls.{height-sorted_by, height-append, height-placed, height-positive}
use Rattle.pres_tree.specs.JsonReading.{Reading, branch, leaf, HasKeys, rows_or, fault_or, fault_in, rows_of, fault_of, items_rows, items_fault, members_rows, members_fault}
use Rattle.pres_tree.specs.declared.fault.TreeFault.{TreeFault}
use Rattle.pres_tree.specs.declared.fault.TreeFault.TheVariants.{TooDeep}
use Rattle.std.proofs.lemmas.Bool.Decides.{nat_tests}
use Rattle.pres_tree.specs.JsonPrinting.{members_in, with_first, with_row, json_of, members_of, ReadsBack, MembersReadBack, IsPlain}
use Rattle.pres_tree.proofs.Plain.{ArePlain}
use Rattle.pres_tree.proofs.Last.{find-sorted_by}
use Rattle.pres_tree.proofs.Found.{same_rows, in_order}

-- ---- the rows of children in order are in order

both : (a b : Bool) → T a → T b → T (a && b)
both true b h k = k
both false b h k = absurd h

first : (a b : Bool) → T (a && b) → T a
first true b h = tt
first false b h = absurd h

second : (a b : Bool) → T (a && b) → T b
second true b h = h
second false b h = absurd h

below_all-append : {A : Type 0} (x : Path) (v w : Rows A) → T (below_all path_cmp x v) → T (below_all path_cmp x w) → T (below_all path_cmp x (v ++ w))
below_all-append x [] w h k = k
below_all-append x (r ∷ v) w h k = both (is_lt (path_cmp x r.0)) _ (first _ _ h) (below_all-append x v w (second _ _ h) k)

under_key : (k : Key) (x y : Path) → T (is_lt (path_cmp x y)) → T (is_lt (path_cmp (k ∷ x) (k ∷ y)))
under_key k x y h = subst (λ o. T (is_lt (ordering_then o (path_cmp x y)))) (sym (tied_itself nat_list_cmp_total k)) h

below_all-placed : {A : Type 0} (k : Key) (x : Path) (v : Rows A) → T (below_all path_cmp x v) → T (below_all path_cmp (k ∷ x) (placed (k ∷ []) v))
below_all-placed k x [] h = tt
below_all-placed k x (r ∷ v) h = both (is_lt (path_cmp (k ∷ x) (k ∷ r.0))) _ (under_key k x r.0 (first _ _ h)) (below_all-placed k x v (second _ _ h))

below_all-later : {A : Type 0} (k l : Key) (x : Path) (v : Rows A) → key_cmp k l ≡ Less → T (below_all path_cmp (k ∷ x) (placed (l ∷ []) v))
below_all-later k l x [] e = tt
below_all-later k l x (r ∷ v) e = both (is_lt (path_cmp (k ∷ x) (l ∷ r.0))) _ (subst (λ o. T (is_lt (ordering_then o (path_cmp x r.0)))) (sym e) tt) (below_all-later k l x v e)

below_all-children : {A : Type 0} (k : Key) (x : Path) (es : List (Key × Rows A)) → AllByRecursion (λ y. key_cmp k y ≡ Less) (keys_of es) → T (below_all path_cmp (k ∷ x) (child_rows es))
below_all-children k x [] h = tt
below_all-children k x (e ∷ es) h = below_all-append (k ∷ x) (placed (e.0 ∷ []) e.1) (child_rows es) (below_all-later k e.0 x e.1 h.0) (below_all-children k x es h.1)

sorted-placed : {A : Type 0} (k : Key) (v w : Rows A) → InOrder v → InOrder w → ((x : Path) → T (below_all path_cmp (k ∷ x) w)) → InOrder (placed (k ∷ []) v ++ w)
sorted-placed k [] w h g later = g
sorted-placed k (r ∷ v) w h g later =
    both (below_all path_cmp (k ∷ r.0) (placed (k ∷ []) v ++ w)) _
    (below_all-append (k ∷ r.0) (placed (k ∷ []) v) w (below_all-placed k r.0 v (first _ _ h)) (later r.0))
    (sorted-placed k v w (second _ _ h) g later)

in_order-children : {A : Type 0} (es : List (Key × Rows A)) → Children es → IsStrictlySortedBy key_cmp (keys_of es) → InOrder (child_rows es)
unfolding IsStrictlySortedBy
in_order-children [] h o = tt
in_order-children (e ∷ es) h o = sorted-placed e.0 e.1 (child_rows es) h.0.1 (in_order-children es h.1 o.1) (λ x. below_all-children e.0 x es o.0)

pub sorted-children : {A : Type 0} (es : List (Key × Rows A)) → Children es → IsStrictlySortedBy key_cmp (keys_of es) → sorted_by path_cmp (child_rows es) ≡ child_rows es
sorted-children es h o = same_rows (sorted_by path_cmp (child_rows es)) (child_rows es) (in_order (child_rows es)) (in_order-children es h o) (λ x. find-sorted_by (child_rows es) x)

-- ---- the object of children

-- the key comes before all members
Past : Key → Members → Type 0
Past k no_members = Unit {0}
Past k (member l d ms) = same_key k l ≡ false

with_first-past : (k : Key) (f : Data → Data) (ms : Members) → Past k ms → with_first k f ms ≡ member k (f null) ms
unfolding Past
with_first-past k f no_members p = refl
with_first-past k f (member l d ms) p = ap (λ b. cond b (member k (f d) ms) (member k (f null) (member l d ms))) p

with_first-here : (k : Key) (f : Data → Data) (d : Data) (ms : Members) → with_first k f (member k d ms) ≡ member k (f d) ms
with_first-here k f d ms = ap (λ b. cond b (member k (f d) ms) (member k (f null) (member k d ms))) (ap is_eq (tied_itself nat_list_cmp_total k))

json-placed : {A : Type 0} (g : A → Data) (k : Key) (v w : Rows A) (ms : Members) → is_null v ≡ false → members_in (json_of g w) ≡ ms → Past k ms → json_of g (placed (k ∷ []) v ++ w) ≡ object (member k (json_of g v) ms)
json-placed g k [] w ms h e p = absurd (true≢false h)
json-placed g k (r ∷ []) w ms h e p = ap (λ m. object (with_first k (with_row r.0 (g r.1)) m)) e ∙ ap object (with_first-past k (with_row r.0 (g r.1)) ms p)
json-placed g k (r ∷ q ∷ v) w ms h e p =
    ap (λ d. object (with_first k (with_row r.0 (g r.1)) (members_in d))) (json-placed g k (q ∷ v) w ms refl e p)
    ∙ ap object (with_first-here k (with_row r.0 (g r.1)) (json_of g (q ∷ v)) ms)

past-children : {A : Type 0} (g : A → Data) (k : Key) (es : List (Key × Rows A)) → AllByRecursion (λ y. key_cmp k y ≡ Less) (keys_of es) → Past k (members_of g es)
unfolding Past
past-children g k [] h = tt
past-children g k (e ∷ es) h = ap is_eq h.0

json-children : {A : Type 0} (g : A → Data) (es : List (Key × Rows A)) → Children es → IsStrictlySortedBy key_cmp (keys_of es) → members_in (json_of g (child_rows es)) ≡ members_of g es
unfolding IsStrictlySortedBy
json-children g [] h o = refl
json-children g (e ∷ es) h o =
    ap members_in (json-placed g e.0 e.1 (child_rows es) (members_of g es) h.0.0 (json-children g es h.1 o.1) (past-children g e.0 es o.0))

pub json-object : {A : Type 0} (g : A → Data) (es : List (Key × Rows A)) → 0 < length es → Children es → IsStrictlySortedBy key_cmp (keys_of es) → json_of g (sorted_by path_cmp (child_rows es)) ≡ object (members_of g es)
unfolding IsStrictlySortedBy
json-object g [] some h o = absurd (omega arith)
json-object g (e ∷ es) some h o =
    ap (json_of g) (sorted-children (e ∷ es) h o)
    ∙ json-placed g e.0 e.1 (child_rows es) (members_of g es) h.0.0 (json-children g es h.1 o.1) (past-children g e.0 es o.0)

-- ---- what is printed member by member

-- each entry has its member: the name, the value's JSON, and that it is read back
pub Printed : {A : Type 0} → (A → Data) → (Data → Reading A) → List (Key × Rows A) → List (String Global × Value) → Type 0
Printed g f [] [] = Unit {0}
Printed g f [] (m ∷ ms) = ⊥
Printed g f (e ∷ es) [] = ⊥
Printed g f (e ∷ es) (m ∷ ms) = (string_bytes m.0 ≡ e.0) × IsTrue (is_key e.0) × (view m.1 ≡ json_of g e.1) × ReadsBack f e.1 (view m.1) × Printed g f es ms

pub printed-none : {A : Type 0} (g : A → Data) (f : Data → Reading A) → Printed g f [] []
unfolding Printed
printed-none g f = tt

pub printed-more : {A : Type 0} (g : A → Data) (f : Data → Reading A) (es : List (Key × Rows A)) (ms : List (String Global × Value)) (k : Key) (v : Rows A) (name : String Global) (d : Value)
    → Printed g f es ms → string_bytes name ≡ k → IsTrue (is_key k) → view d ≡ json_of g v → ReadsBack f v (view d) → Printed g f (es ++ (k, v) ∷ []) (ms ++ (name, d) ∷ [])
unfolding Printed
printed-more g f [] [] k v name d p a b c r = (a, b, c, r, tt)
printed-more g f [] (m ∷ ms) k v name d p a b c r = absurd p
printed-more g f (e ∷ es) [] k v name d p a b c r = absurd p
printed-more g f (e ∷ es) (m ∷ ms) k v name d p a b c r = (p.0, p.1, p.2, p.3, printed-more g f es ms k v name d p.4 a b c r)

pub printed-json : {A : Type 0} (g : A → Data) (f : Data → Reading A) (es : List (Key × Rows A)) (ms : List (String Global × Value)) → Printed g f es ms → members_view ms ≡ members_of g es
unfolding Printed
printed-json g f [] [] p = refl
printed-json g f [] (m ∷ ms) p = absurd p
printed-json g f (e ∷ es) [] p = absurd p
printed-json g f (e ∷ es) (m ∷ ms) p = λ i. member (p.0 i) (p.2 i) (printed-json g f es ms p.4 i)

-- each child has a key, and is read back from its JSON
AreRead : {A : Type 0} → (A → Data) → (Data → Reading A) → List (Key × Rows A) → Type 0
AreRead g f [] = Unit {0}
AreRead g f (e ∷ es) = IsTrue (is_key e.0) × ReadsBack f e.1 (json_of g e.1) × AreRead g f es

read-keys : {A : Type 0} (g : A → Data) (f : Data → Reading A) (es : List (Key × Rows A)) → AreRead g f es → HasKeys (members_of g es)
unfolding AreRead
read-keys g f [] p = tt
read-keys g f (e ∷ es) p = (p.0, read-keys g f es p.2)

read-rows : {A : Type 0} (g : A → Data) (f : Data → Reading A) (es : List (Key × Rows A)) → AreRead g f es → members_rows f (members_of g es) ≡ child_rows es
unfolding AreRead
read-rows g f [] p = refl
read-rows g f (e ∷ es) p = λ i. placed (e.0 ∷ []) (p.1.0 i) ++ read-rows g f es p.2 i

no_fault : {X : Type 0} (o : Option X) → is_none o ≡ true → o ≡ None
no_fault None h = refl
no_fault (Some x) h = absurd (true≢false (sym h))

height-child : {A : Type 0} (n : ℕ) (k : Key) (v : Rows A) → height (placed (k ∷ []) v) ≤ n + 1 → height v ≤ n
height-child n k [] h = omega arith
height-child n k (r ∷ v) h = omega (arith, h, height-placed k (r ∷ v) (height-positive (r ∷ v) refl))

read-fault : {A : Type 0} (g : A → Data) (f : Data → Reading A) (es : List (Key × Rows A)) (n : ℕ) → AreRead g f es → height (child_rows es) ≤ n + 1 → members_fault f n (members_of g es) ≡ None
unfolding AreRead
read-fault g f [] n p h = refl
read-fault g f (e ∷ es) n p h =
    let both_heights = height-append (placed (e.0 ∷ []) e.1) (child_rows es) in
    let here : height (placed (e.0 ∷ []) e.1) ≤ n + 1 = omega (arith, h, both_heights) in
    let later : height (child_rows es) ≤ n + 1 = omega (arith, h, both_heights) in
    λ i. option_or (no_fault (key_fault e.0) p.0 i) (option_or (p.1.1 n (height-child n e.0 e.1 here) i) (read-fault g f es n p.2 later i))

read-reads_back : {A : Type 0} (g : A → Data) (f : Data → Reading A) (es : List (Key × Rows A)) → AreRead g f es → MembersReadBack f es (members_of g es)
read-reads_back g f es p = (read-keys g f es p, read-rows g f es p, λ n h. read-fault g f es n p h)

printed-read : {A : Type 0} (g : A → Data) (f : Data → Reading A) (es : List (Key × Rows A)) (ms : List (String Global × Value)) → Printed g f es ms → AreRead g f es
unfolding Printed AreRead
printed-read g f [] [] p = tt
printed-read g f [] (m ∷ ms) p = absurd p
printed-read g f (e ∷ es) [] p = absurd p
printed-read g f (e ∷ es) (m ∷ ms) p = (p.1, subst (ReadsBack f e.1) p.2 p.3, printed-read g f es ms p.4)

pub printed-reads_back : {A : Type 0} (g : A → Data) (f : Data → Reading A) (es : List (Key × Rows A)) (ms : List (String Global × Value)) → Printed g f es ms → MembersReadBack f es (members_view ms)
printed-reads_back g f es ms p = subst (MembersReadBack f es) (sym (printed-json g f es ms p)) (read-reads_back g f es (printed-read g f es ms p))

-- ---- what is read back member by member

-- each child has a key, is read back from its JSON, and that is plain
pub AreWritten : {A : Type 0} → (A → Data) → (Data → Reading A) → List (Key × Rows A) → Type 0
AreWritten g f [] = Unit {0}
AreWritten g f (e ∷ es) = IsTrue (is_key e.0) × ReadsBack f e.1 (json_of g e.1) × IsPlain (json_of g e.1) × AreWritten g f es

pub written-none : {A : Type 0} (g : A → Data) (f : Data → Reading A) → AreWritten g f []
unfolding AreWritten
written-none g f = tt

pub written-more : {A : Type 0} (g : A → Data) (f : Data → Reading A) (es : List (Key × Rows A)) (k : Key) (v : Rows A)
    → AreWritten g f es → IsTrue (is_key k) → ReadsBack f v (json_of g v) → IsPlain (json_of g v) → AreWritten g f (es ++ (k, v) ∷ [])
unfolding AreWritten
written-more g f [] k v w key back plain = (key, back, plain, tt)
written-more g f (e ∷ es) k v w key back plain = (w.0, w.1, w.2, written-more g f es k v w.3 key back plain)

pub written-plain : {A : Type 0} (g : A → Data) (f : Data → Reading A) (es : List (Key × Rows A)) → AreWritten g f es → ArePlain g es
unfolding AreWritten ArePlain
written-plain g f [] w = tt
written-plain g f (e ∷ es) w = (w.2, written-plain g f es w.3)

written-read : {A : Type 0} (g : A → Data) (f : Data → Reading A) (es : List (Key × Rows A)) → AreWritten g f es → AreRead g f es
unfolding AreWritten AreRead
written-read g f [] w = tt
written-read g f (e ∷ es) w = (w.0, w.1, written-read g f es w.3)

pub written-reads_back : {A : Type 0} (g : A → Data) (f : Data → Reading A) (es : List (Key × Rows A)) → AreWritten g f es → MembersReadBack f es (members_of g es)
written-reads_back g f es w = read-reads_back g f es (written-read g f es w)

-- an object is read as its children are
pub object_read : {A : Type 0} (f : Data → Reading A) (es : List (Key × Rows A)) (t : Rows A) (ms : Members) → sorted_by path_cmp (child_rows es) ≡ t → f (object ms) ≡ branch → MembersReadBack f es ms → ReadsBack f t (object ms)
object_read f es t ms is is_branch back = (
  ap (λ r. rows_or r (sorted_by path_cmp (members_rows f ms))) is_branch ∙ ap (sorted_by path_cmp) back.1 ∙ is,
  λ n h.
      let room : height (child_rows es) ≤ (n - 1) + 1 = omega (arith, height-sorted_by (child_rows es), ap height is, h) in
      ap (λ r. fault_or n r (members_fault f (n - 1) ms)) is_branch ∙ back.2 (n - 1) room,
)

pub on_ok : {T E P Q : Type 0} (r : Result T E) → (P → Q) → OnOk r P → OnOk r Q
on_ok (Ok x) f h = f h
on_ok (Err e) f h = tt

pub on_any : {T E P : Type 0} (r : Result T E) → P → OnOk r P
on_any (Ok x) h = h
on_any (Err e) h = tt

-- ---- members in order

abbrev pub texts : {V : Type 0} → List (String Global × V) → List Key
texts ms = map (λ m. string_bytes m.0) ms

pub text_end : {V : Type 0} (ms : List (String Global × V)) (name : String Global) (w : V) (ks : List Key) → IsStrictlySortedBy key_cmp (texts ms ++ string_bytes name ∷ ks) → insert_entry (λ x y. key_cmp (string_bytes x) (string_bytes y)) ms name w ≡ ms ++ (name, w) ∷ []
unfolding IsStrictlySortedBy
text_end [] name w ks h = refl
text_end {V} (m ∷ ms) name w ks h =
    ap (λ r. match_ordering r ((name, w) ∷ m ∷ ms) ((m.0, w) ∷ ms) (m ∷ insert_entry (λ x y. key_cmp (string_bytes x) (string_bytes y)) ms name w)) (above m ms h.0)
    ∙ ap (λ fs. m ∷ fs) (text_end ms name w ks h.1)
  where
    above : (m : String Global × V) (ms : List (String Global × V)) → AllByRecursion (λ y. key_cmp (string_bytes m.0) y ≡ Less) (texts ms ++ string_bytes name ∷ ks) → key_cmp (string_bytes name) (string_bytes m.0) ≡ Greater
    above m [] h = nat_list_cmp_total.antisymm (string_bytes name) (string_bytes m.0) ∙ ap ordering_reverse h.0
    above m (n ∷ ms) h = above m ms h.1

texts-append : {V : Type 0} (ms ns : List (String Global × V)) → texts (ms ++ ns) ≡ texts ms ++ texts ns
texts-append [] ns = refl
texts-append (m ∷ ms) ns = ap (λ ks. string_bytes m.0 ∷ ks) (texts-append ms ns)

pub texts_rise : {V : Type 0} (ms : List (String Global × V)) (name : String Global) (w : V) (ks : List Key) → IsStrictlySortedBy key_cmp (texts ms ++ string_bytes name ∷ ks) → IsStrictlySortedBy key_cmp (texts (ms ++ (name, w) ∷ []) ++ ks)
texts_rise ms name w ks h =
    subst (IsStrictlySortedBy key_cmp) (sym (ap (λ ls. ls ++ ks) (texts-append ms ((name, w) ∷ [])) ∙ append_assoc (texts ms) (string_bytes name ∷ []) ks)) h

-- ---- a leaf

leaf_rows : {A : Type 0} (f : Data → Reading A) (d : Data) (a : A) → f d ≡ leaf a → rows_of f d ≡ ([], a) ∷ []
leaf_rows f null a e = ap (λ r. rows_or r []) e
leaf_rows f (boolean b) a e = ap (λ r. rows_or r []) e
leaf_rows f (number n) a e = ap (λ r. rows_or r []) e
leaf_rows f (string s) a e = ap (λ r. rows_or r []) e
leaf_rows f (array ds) a e = ap (λ r. rows_or r (sorted_by path_cmp (items_rows f 0 ds))) e
leaf_rows f (object ms) a e = ap (λ r. rows_or r (sorted_by path_cmp (members_rows f ms))) e

some_level : (n : ℕ) → 1 ≤ n → (n == 0) ≡ false
some_level n h = grind (arith, nat_tests)

leaf_fault : {A : Type 0} (n : ℕ) (r : Reading A) (o : Option TreeFault) (a : A) → r ≡ leaf a → 1 ≤ n → fault_or n r o ≡ None
leaf_fault n r o a e h = ap (λ q. fault_or n q o) e ∙ ap (λ b. cond b (Some TooDeep) None) (some_level n h)

leaf_no_fault : {A : Type 0} (f : Data → Reading A) (d : Data) (a : A) (n : ℕ) → f d ≡ leaf a → 1 ≤ n → fault_of f n d ≡ None
leaf_no_fault f null a n e h = leaf_fault n (f null) None a e h
leaf_no_fault f (boolean b) a n e h = leaf_fault n (f (boolean b)) None a e h
leaf_no_fault f (number x) a n e h = leaf_fault n (f (number x)) None a e h
leaf_no_fault f (string s) a n e h = leaf_fault n (f (string s)) None a e h
leaf_no_fault f (array ds) a n e h = leaf_fault n (f (array ds)) (fault_in (items_fault f (n - 1) 0 ds)) a e h
leaf_no_fault f (object ms) a n e h = leaf_fault n (f (object ms)) (members_fault f (n - 1) ms) a e h

leaf_reads_back : {A : Type 0} (f : Data → Reading A) (d : Data) (a : A) → f d ≡ leaf a → ReadsBack f (([], a) ∷ []) d
leaf_reads_back f d a e = (leaf_rows f d a e, λ n h. leaf_no_fault f d a n e (omega (arith, h)))

pub leaf_printed : {A V E : Type 0} (shown : V → Data) (f : Data → Reading A) (r : Result V E) (a : A) (t : Rows A) → ([], a) ∷ [] ≡ t → IfOk r (λ made. f (shown made) ≡ leaf a) → IfOk r (λ made. ReadsBack f t (shown made))
leaf_printed shown f (Ok v) a t is h = subst (λ u. ReadsBack f u (shown v)) is (leaf_reads_back f (shown v) a h)
leaf_printed shown f (Err e) a t is h = h

pub leaf_written : {A T E : Type 0} (g : A → Data) (f : Data → Reading A) (r : Result T E) (a : A) (t : Rows A) → ([], a) ∷ [] ≡ t → OnOk r (f (g a) ≡ leaf a) → OnOk r (ReadsBack f t (json_of g t))
leaf_written g f r a t is h = on_ok r (λ reads. subst (λ u. ReadsBack f u (json_of g u)) is (leaf_reads_back f (g a) a reads)) h
