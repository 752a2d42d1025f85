-- The places of an update under their names, in byte order of these, and read back.
use Rattle.std.proofs.Common.{◌≡◌, ℕ, suc, ◌+◌, ◌-◌, ◌≤◌, nat_lt, List, [], ◌∷◌, ◌++◌, length, length-append, map, All, Bool, true, false, cond, ◌||◌, Some, None, Ok, Err, refl, sym, ap, subst, ◌∙◌, arith, drop}
use Rattle.std.proofs.lemmas.Bool.{false≢true}
use Rattle.std.proofs.lemmas.Bool.Decides.{nat_tests}
use Rattle.std.proofs.lemmas.List.Elements.{All-head, All-tail}
use Rattle.std.specs.Prelude.{String, string_bytes}
use Rattle.std.specs.List.{list_any, AllByRecursion}
use Rattle.std.specs.List.Sorted.{IsStrictlySortedBy}
use Rattle.std.specs.Map.{keys_of}
use Rattle.std.specs.Option.{option_or}
use Rattle.std.specs.BTreeMap.{insert_entry}
use Rattle.std.specs.Ordering.{eq_by_cmp, match_ordering}
use Rattle.std.specs.declared.alloc.Global.{Global}
use Rattle.std.specs.declared.cmp.Ordering.TheVariants.{Less, Equal, Greater}
use Rattle.std.specs.Cmp.{tied_itself}
use Rattle.std.specs.Cmp.Lexicographic.{nat_list_cmp_total}
use Rattle.std.specs.FinMap.{nat_cmp-IsAntisymmetric, slice_cmp-IsAntisymmetric}
use Rattle.std.specs.FinMap.Entries.{find, put, by_order}
use Rattle.serde_json.specs.Data.{Data, member}
use Rattle.serde_json.specs.View.{view, members_view}
use Rattle.serde_json.specs.declared.value.Value.{Value}
use Rattle.pres_tree.specs.declared.fault.TreeFault.TheVariants.{TooDeep}
use Rattle.pres_tree.specs.Falls.{path_total, path_same}
use Rattle.pres_tree.specs.Keys.{Key, key_cmp}
use Rattle.pres_tree.specs.Paths.{Path, IsPath, path_cmp, path_text, segments, meet, overlap, sorted_by}
use Rattle.pres_tree.specs.JsonPrinting.{json_of, ReadsBack}
use Rattle.pres_tree.specs.JsonReading.{rows_of}
use Rattle.pres_tree.specs.Rows.{Rows, height}
use Rattle.pres_tree.proofs.Texts.{segments-name, path_fault-name, path_rest}
use Rattle.pres_write.specs.declared.draft.DraftLeaf.{DraftLeaf}
use Rattle.pres_write.specs.declared.fault.WriteFault.TheVariants.{Overlap, ManyPaths}
use Rattle.pres_write.specs.Drafts.{slot_reading, slot_printing}
use Rattle.pres_write.specs.OpForms.{unless, below_read, place_fault, places_fault, places_read, named, members_from, values_json}
use Rattle.pres_write.specs.Updates.{Places, FitsBelow, most_places}
use Rattle.pres_write.proofs.Depths.{fits_height}
use Rattle.pres_write.proofs.Ordered.{tied, each-middle, rising_keys, length-sorted_by, each-sorted_by, any-put, find-sorted_by, sorted_by-rises, sorted_by-same, sorted_by-more, put-swap}
use Rattle.pres_write.proofs.Overlaps.{meet-itself, overlap-put}

key_same : (k l : Key) → key_cmp k l ≡ Equal → k ≡ l
key_same = slice_cmp-IsAntisymmetric nat_cmp-IsAntisymmetric

-- a name and the JSON value under it
abbrev Named : Type 0
Named = List (List ℕ × Data)

abbrev name_of : Path → List ℕ
name_of p = drop 1 (path_text p)

abbrev named_place : Path × Rows DraftLeaf → List ℕ × Data
named_place e = (name_of e.0, json_of slot_printing e.1)

-- ---- the members that are made

abbrev pub pairs : List (String Global × Value) → Named
pairs ms = map (λ m. (string_bytes m.0, view m.1)) ms

pub members_view-pairs : (ms : List (String Global × Value)) → members_view ms ≡ members_from (pairs ms)
members_view-pairs [] = refl
members_view-pairs (m ∷ ms) = ap (member (string_bytes m.0) (view m.1)) (members_view-pairs ms)

pairs-insert : (ms : List (String Global × Value)) (name : String Global) (v : Value) → pairs (insert_entry (λ x y. key_cmp (string_bytes x) (string_bytes y)) ms name v) ≡ put key_cmp (string_bytes name) (view v) (pairs ms)
pairs-insert [] name v = refl
pairs-insert (m ∷ ms) name v = elim (key_cmp (string_bytes name) (string_bytes m.0)) as (λ r. pairs (match_ordering r ((name, v) ∷ m ∷ ms) ((m.0, v) ∷ ms) (m ∷ insert_entry (λ x y. key_cmp (string_bytes x) (string_bytes y)) ms name v)) ≡ by_order r ((string_bytes name, view v) ∷ pairs (m ∷ ms)) ((string_bytes m.0, view v) ∷ pairs ms) ((string_bytes m.0, view m.1) ∷ put key_cmp (string_bytes name) (view v) (pairs ms))) [
  | Less ↦ refl
  | Equal ↦ refl
  | Greater ↦ ap (λ es. (string_bytes m.0, view m.1) ∷ es) (pairs-insert ms name v)
]

named-append : (done : Places) (e : Path × Rows DraftLeaf) → named (done ++ e ∷ []) ≡ named done ++ named_place e ∷ []
named-append [] e = refl
named-append (f ∷ done) e = ap (λ es. named_place f ∷ es) (named-append done e)

fits_path : (p q : Path) (v : Rows DraftLeaf) → FitsBelow p (q, v) → IsPath q
fits_path p q v h = path_rest p q h.0

-- different places have different names
same_names : (p q r : Path) (v w : Rows DraftLeaf) → FitsBelow p (q, v) → FitsBelow p (r, w) → name_of q ≡ name_of r → q ≡ r
same_names p q r v w h g e = sym (segments-name q (fits_path p q v h)) ∙ ap segments e ∙ segments-name r (fits_path p r w g)

less-later : (q : Path) (done : Places) (e : Path × Rows DraftLeaf) (left : Places) → AllByRecursion (λ x. path_cmp q x ≡ Less) (keys_of (done ++ e ∷ left)) → path_cmp q e.0 ≡ Less
less-later q [] e left h = h.0
less-later q (f ∷ done) e left h = less-later q done e left h.1

new_name : (p : Path) (done : Places) (e : Path × Rows DraftLeaf) (left : Places) → IsStrictlySortedBy path_cmp (keys_of (done ++ e ∷ left)) → All (FitsBelow p) (done ++ e ∷ left) → find key_cmp (name_of e.0) (named done) ≡ None
unfolding IsStrictlySortedBy
new_name p [] e left order fit = refl
new_name p (f ∷ done) e left order fit = elim (eq_by_cmp key_cmp (name_of e.0) (name_of f.0)) as (λ b. eq_by_cmp key_cmp (name_of e.0) (name_of f.0) ≡ b → cond b (Some (json_of slot_printing f.1)) (find key_cmp (name_of e.0) (named done)) ≡ None) [
  | true ↦ λ t.
      let here : f.0 ≡ e.0 = same_names p f.0 e.0 f.1 e.1 (All-head (FitsBelow p) f (done ++ e ∷ left) fit) (each-middle path_cmp (FitsBelow p) (f ∷ done) e left fit) (sym (tied key_cmp key_same (name_of e.0) (name_of f.0) t)) in
      let low : Equal ≡ Less = sym (tied_itself path_total e.0) ∙ ap (λ q. path_cmp q e.0) (sym here) ∙ less-later f.0 done e left order.0 in
      absurd cc
  | false ↦ λ t. new_name p done e left order.1 (All-tail (FitsBelow p) f (done ++ e ∷ left) fit)
] refl

-- one place more is printed
pub pairs-more : (p : Path) (ms : List (String Global × Value)) (name : String Global) (v : Value) (done : Places) (e : Path × Rows DraftLeaf) (left : Places)
    → pairs ms ≡ sorted_by key_cmp (named done) → string_bytes name ≡ drop 1 (path_text e.0) → view v ≡ json_of slot_printing e.1
    → IsStrictlySortedBy path_cmp (keys_of (done ++ e ∷ left)) → All (FitsBelow p) (done ++ e ∷ left)
    → pairs (insert_entry (λ x y. key_cmp (string_bytes x) (string_bytes y)) ms name v) ≡ sorted_by key_cmp (named (done ++ e ∷ []))
pairs-more p ms name v done e left so_far named_as made order fit =
    pairs-insert ms name v
    ∙ (λ i. put key_cmp (named_as i) (made i) (so_far i))
    ∙ sorted_by-more key_cmp key_same nat_list_cmp_total (named done) (name_of e.0) (json_of slot_printing e.1) (new_name p done e left order fit)
    ∙ ap (sorted_by key_cmp) (sym (named-append done e))

-- ---- and read back

abbrev seg : List ℕ × Data → Path
seg x = segments x.0

abbrev place_of : List ℕ × Data → Path × Rows DraftLeaf
place_of x = (segments x.0, rows_of slot_reading x.1)

places_read-from : (es : Named) → places_read (members_from es) ≡ map place_of es
places_read-from [] = refl
places_read-from (e ∷ es) = ap (λ ps. place_of e ∷ ps) (places_read-from es)

keys-places : (es : Named) → keys_of (map place_of es) ≡ map seg es
keys-places [] = refl
keys-places (e ∷ es) = ap (λ ps. segments e.0 ∷ ps) (keys-places es)

-- what is read of a place's draft is that draft
abbrev pub DraftReads : Path × Rows DraftLeaf → Type 0
DraftReads e = ReadsBack slot_reading e.1 (json_of slot_printing e.1)

pub reads-append : (done : Places) (e : Path × Rows DraftLeaf) → AllByRecursion DraftReads done → DraftReads e → AllByRecursion DraftReads (done ++ e ∷ [])
reads-append [] e h here = (here, tt)
reads-append (f ∷ done) e h here = (h.0, reads-append done e h.1 here)

named-places : (p : Path) (places : Places) → All (FitsBelow p) places → AllByRecursion DraftReads places → map place_of (named places) ≡ places
named-places p [] fit reads = refl
named-places p (e ∷ es) fit reads =
    let path = fits_path p e.0 e.1 (All-head (FitsBelow p) e es fit) in
    λ i. (segments-name e.0 path i, reads.0.0 i) ∷ named-places p es (All-tail (FitsBelow p) e es fit) reads.1 i

abbrev Sound : Path → List ℕ × Data → Type 0
Sound p x = place_fault p x.0 x.1 ≡ None

sound-place : (p : Path) (e : Path × Rows DraftLeaf) → FitsBelow p e → DraftReads e → Sound p (named_place e)
sound-place p e fits reads =
    let path = fits_path p e.0 e.1 fits in
    let keys : length p + length (segments (name_of e.0)) ≡ length (p ++ e.0) = ap (λ q. length p + length q) (segments-name e.0 path) ∙ sym (length-append p e.0) in
    let few : nat_lt 32 (length p + length (segments (name_of e.0))) ≡ false = grind (arith, nat_tests, keys, fits.0.0) in
    let room = reads.1 (33 - (length p + length (segments (name_of e.0)))) (subst (λ m. height e.1 ≤ 33 - m) (sym keys) (fits_height (p ++ e.0) e.1 fits.1)) in
    λ i. option_or (path_fault-name e.0 path i) (cond (few i) (Some TooDeep) (room i))

sound-named : (p : Path) (places : Places) → All (FitsBelow p) places → AllByRecursion DraftReads places → AllByRecursion (Sound p) (named places)
sound-named p [] fit reads = tt
sound-named p (e ∷ es) fit reads = (sound-place p e (All-head (FitsBelow p) e es fit) reads.0, sound-named p es (All-tail (FitsBelow p) e es fit) reads.1)

sound-members : (p : Path) (es : Named) → AllByRecursion (Sound p) es → places_fault p (members_from es) ≡ None
sound-members p [] h = refl
sound-members p (e ∷ es) h = (λ i. option_or (h.0 i) (places_fault p (members_from es))) ∙ sound-members p es h.1

neither_of : (a b : Bool) → (a || b) ≡ false → (a ≡ false) × (b ≡ false)
neither_of true b h = absurd cc
neither_of false b h = (refl, h)

-- a name that meets none of the list is not in it
not_found : (k : List ℕ) (es : Named) → list_any (meet (segments k)) (map seg es) ≡ false → find key_cmp k es ≡ None
not_found k [] h = refl
not_found k (e ∷ es) h =
    let each = neither_of (meet (segments k) (segments e.0)) (list_any (meet (segments k)) (map seg es)) h in
    elim (eq_by_cmp key_cmp k e.0) as (λ b. eq_by_cmp key_cmp k e.0 ≡ b → cond b (Some e.1) (find key_cmp k es) ≡ None) [
      | true ↦ λ t. absurd (false≢true (sym each.0 ∙ ap (λ l. meet (segments k) (segments l)) (sym (tied key_cmp key_same k e.0 t)) ∙ meet-itself (segments k)))
      | false ↦ λ t. not_found k es each.1
    ] refl

any-sorted_by : (f : Path → Bool) (es : Named) → list_any f (map seg (sorted_by key_cmp es)) ≡ list_any f (map seg es)
any-sorted_by f [] = refl
any-sorted_by f (e ∷ es) = any-put key_cmp key_same segments f e.0 e.1 (sorted_by key_cmp es) ∙ ap (λ b. f (segments e.0) || b) (any-sorted_by f es)

apart-sorted_by : (es : Named) → overlap (map seg es) ≡ false → overlap (map seg (sorted_by key_cmp es)) ≡ false
apart-sorted_by [] h = refl
apart-sorted_by (e ∷ es) h =
    let each = neither_of (list_any (meet (segments e.0)) (map seg es)) (overlap (map seg es)) h in
    let none : find key_cmp e.0 (sorted_by key_cmp es) ≡ None = find-sorted_by key_cmp key_same nat_list_cmp_total es e.0 ∙ not_found e.0 es each.0 in
    overlap-put key_cmp key_same segments e.0 e.1 (sorted_by key_cmp es) none
    ∙ (λ i. (any-sorted_by (meet (segments e.0)) es ∙ each.0) i || apart-sorted_by es each.1 i)

-- in path order it doesn't matter where a name was put
put-through : (k : List ℕ) (d : Data) (es : Named) → list_any (meet (segments k)) (map seg es) ≡ false
    → sorted_by path_cmp (map place_of (put key_cmp k d es)) ≡ sorted_by path_cmp (map place_of ((k, d) ∷ es))
put-through k d [] h = refl
put-through k d (e ∷ es) h =
    let each = neither_of (meet (segments k) (segments e.0)) (list_any (meet (segments k)) (map seg es)) h in
    elim (key_cmp k e.0) as (λ r. key_cmp k e.0 ≡ r → sorted_by path_cmp (map place_of (by_order r ((k, d) ∷ e ∷ es) ((e.0, d) ∷ es) (e ∷ put key_cmp k d es))) ≡ sorted_by path_cmp (map place_of ((k, d) ∷ e ∷ es))) [
      | Less ↦ λ t. refl
      | Equal ↦ λ t. absurd (false≢true (sym each.0 ∙ ap (λ l. meet (segments k) (segments l)) (sym (key_same k e.0 t)) ∙ meet-itself (segments k)))
      | Greater ↦ λ t.
          ap (put path_cmp (segments e.0) (rows_of slot_reading e.1)) (put-through k d es each.1)
          ∙ put-swap path_cmp path_same path_total (segments e.0) (segments k) (rows_of slot_reading e.1) (rows_of slot_reading d) (sorted_by path_cmp (map place_of es))
          (λ same. false≢true (sym each.0 ∙ ap (meet (segments k)) same ∙ meet-itself (segments k)))
          (sorted_by-rises path_cmp path_same path_total (map place_of es))
    ] refl

sorted-sorted : (es : Named) → overlap (map seg es) ≡ false → sorted_by path_cmp (map place_of (sorted_by key_cmp es)) ≡ sorted_by path_cmp (map place_of es)
sorted-sorted [] h = refl
sorted-sorted (e ∷ es) h =
    let each = neither_of (list_any (meet (segments e.0)) (map seg es)) (overlap (map seg es)) h in
    put-through e.0 e.1 (sorted_by key_cmp es) (any-sorted_by (meet (segments e.0)) es ∙ each.0)
    ∙ ap (put path_cmp (segments e.0) (rows_of slot_reading e.1)) (sorted-sorted es each.1)

length-places : (es : Named) → length (map place_of es) ≡ length es
length-places [] = refl
length-places (e ∷ es) = ap suc (length-places es)

length-named : (places : Places) → length (named places) ≡ length places
length-named [] = refl
length-named (e ∷ es) = ap suc (length-named es)

pub values_read : (p : Path) (places : Places) → IsStrictlySortedBy path_cmp (keys_of places) → overlap (keys_of places) ≡ false → length places ≤ most_places → All (FitsBelow p) places → AllByRecursion DraftReads places
    → below_read p (values_json places) ≡ Ok (record { path = p; places = places })
values_read p places order apart few fit reads =
    let es = named places in
    let ms = sorted_by key_cmp es in
    let is = places_read-from ms in
    let back = named-places p places fit reads in
    let small : nat_lt most_places (length (places_read (members_from ms))) ≡ false = grind (arith, nat_tests, ap length is, length-places ms, length-sorted_by key_cmp es, length-named places) in
    let sound = sound-members p ms (each-sorted_by key_cmp key_same (Sound p) es (sound-named p places fit reads)) in
    let free : overlap (map seg es) ≡ false = ap overlap (sym (keys-places es) ∙ ap keys_of back) ∙ apart in
    let still : overlap (keys_of (places_read (members_from ms))) ≡ false = ap overlap (ap keys_of is ∙ keys-places ms) ∙ apart-sorted_by es free in
    let same : sorted_by path_cmp (places_read (members_from ms)) ≡ places =
    ap (sorted_by path_cmp) is ∙ sorted-sorted es free ∙ ap (sorted_by path_cmp) back ∙ sorted_by-same path_cmp path_same path_total places (rising_keys path_cmp places order) in
    λ i. cond (small i) (Err ManyPaths) (unless (sound i) (cond (still i) (Err Overlap) (Ok (record { path = p; places = same i }))))
