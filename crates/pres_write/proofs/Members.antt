-- The walk over the members that name an update's places.
use Rattle.std.proofs.Common.{◌≡◌, ℕ, suc, ◌<◌, ◌≤◌, nat_lt, List, [], ◌∷◌, ◌++◌, length, length-append, append_assoc, append-nil, All, Bool, true, false, true≢false, cond, ◌||◌, Some, None, is_some, Result, Ok, Err, refl, sym, ap, subst, ◌∙◌, arith}
use Rattle.std.proofs.lemmas.Bool.{false≢true}
use Rattle.std.proofs.lemmas.List.Folds.{list_any-append}
use Rattle.std.proofs.lemmas.List.Elements.{All-nil, All-cons, All-head, All-tail}
use Rattle.std.proofs.lemmas.Bool.Decides.{nat_tests}
use Rattle.std.specs.Prelude.{String, IsErr, IsErrAnd, MatchResult}
use Rattle.std.specs.declared.alloc.Global.{Global}
use Rattle.serde_json.specs.View.{members_view}
use Rattle.serde_json.specs.declared.value.Value.{Value}
use Rattle.pres_write.specs.declared.fault.WriteFault.{WriteFault}
use Rattle.pres_write.specs.declared.fault.WriteFault.TheVariants.{Tree, Overlap, ManyPaths}
use Rattle.std.specs.List.{list_any}
use Rattle.std.specs.Map.{keys_of, lookup}
use Rattle.std.specs.Option.{option_or}
use Rattle.std.specs.BTreeMap.{insert_entry, is_at}
use Rattle.std.specs.Ordering.{eq_by_cmp, match_ordering}
use Rattle.std.specs.declared.cmp.Ordering.TheVariants.{Less, Equal, Greater}
use Rattle.std.specs.FinMap.Entries.{find, put}
use Rattle.serde_json.specs.Data.{Data, Members, no_members, member}
use Rattle.pres_tree.specs.declared.fault.TreeFault.{TreeFault}
use Rattle.pres_tree.specs.Falls.{path_total, path_same}
use Rattle.pres_tree.specs.Paths.{Path, path_cmp, segments, meet, overlap, sorted_by}
use Rattle.pres_tree.specs.JsonReading.{rows_of}
use Rattle.pres_tree.specs.Rows.{Rows}
use Rattle.pres_write.specs.declared.draft.DraftLeaf.{DraftLeaf}
use Rattle.pres_write.specs.Drafts.{slot_reading}
use Rattle.pres_write.specs.OpForms.{unless, below_read, place_fault, places_fault, places_read}
use Rattle.pres_write.specs.Updates.{Places, FitsBelow, most_places}
use Rattle.pres_write.proofs.Ordered.{either_first, insert_entry-put, lookup-find, length-put, any-put, tied, find-sorted_by, sorted_by-more}
use Rattle.pres_write.proofs.Overlaps.{meet-itself, or_false, or_swap, overlap-put, overlap-more}

-- the members before those that are left are read
pub record Read (p : Path) (all left : Members) (twice : Bool) (es : Places) : Type 0 where
  pub done : Places
  pub is : places_read all ≡ done ++ places_read left
  pub fault : places_fault p all ≡ places_fault p left
  pub few : length es ≤ length done
  pub fit : All (FitsBelow p) es
  pub same_keys : (f : Path → Bool) → list_any f (keys_of es) ≡ list_any f (keys_of done)
  pub meets : (twice || overlap (keys_of es)) ≡ overlap (keys_of done)
  pub sorted : twice ≡ false → es ≡ sorted_by path_cmp done

pub read_start : (p : Path) (all : Members) → Read p all all false []
read_start p all = record { done = []; is = refl; fault = refl; few = omega arith; fit = All-nil (FitsBelow p); same_keys = λ f. refl; meets = refl; sorted = λ h. refl }

keys-append : (es : Places) (e : Path × Rows DraftLeaf) → keys_of (es ++ e ∷ []) ≡ keys_of es ++ e.0 ∷ []
keys-append [] e = refl
keys-append (f ∷ es) e = ap (λ ks. f.0 ∷ ks) (keys-append es e)

pub fit-put : (p : Path) (k : Path) (v : Rows DraftLeaf) (es : Places) → FitsBelow p (k, v) → All (FitsBelow p) es → All (FitsBelow p) (insert_entry path_cmp es k v)
fit-put p k v [] here h = All-cons (FitsBelow p) (k, v) [] here h
fit-put p k v (e ∷ es) here h = elim (path_cmp k e.0) as (λ r. path_cmp k e.0 ≡ r → All (FitsBelow p) (match_ordering r ((k, v) ∷ e ∷ es) ((e.0, v) ∷ es) (e ∷ insert_entry path_cmp es k v))) [
  | Less ↦ λ t. All-cons (FitsBelow p) (k, v) (e ∷ es) here h
  | Equal ↦ λ t. All-cons (FitsBelow p) (e.0, v) es (subst (λ l. FitsBelow p (l, v)) (path_same k e.0 t) here) (All-tail (FitsBelow p) e es h)
  | Greater ↦ λ t. All-cons (FitsBelow p) e (insert_entry path_cmp es k v) (All-head (FitsBelow p) e es h) (fit-put p k v es here (All-tail (FitsBelow p) e es h))
] refl

-- a place that stands in the list meets one there
pub found-meets : (q : Path) (es : Places) → is_some (find path_cmp q es) ≡ true → list_any (meet q) (keys_of es) ≡ true
found-meets q [] h = absurd (false≢true h)
found-meets q (e ∷ es) h = elim (eq_by_cmp path_cmp q e.0) as (λ b. eq_by_cmp path_cmp q e.0 ≡ b → is_some (cond b (Some e.1) (find path_cmp q es)) ≡ true → (meet q e.0 || list_any (meet q) (keys_of es)) ≡ true) [
  | true ↦ λ t g. ap (λ b. b || list_any (meet q) (keys_of es)) (ap (meet q) (sym (tied path_cmp path_same q e.0 t)) ∙ meet-itself q)
  | false ↦ λ t g. ap (λ b. meet q e.0 || b) (found-meets q es g) ∙ or_swap (meet q e.0) true
] refl h

module _ (p : Path) (all left : Members) (name : List ℕ) (d : Data) (twice : Bool) (es : Places) (r : Read p all (member name d left) twice es) (q : Path) (v : Rows DraftLeaf) (place : ◌≡◌ {A = Path × Rows DraftLeaf} (q, v) (segments name, rows_of slot_reading d)) (good : place_fault p name d ≡ None) (fits : FitsBelow p (q, v)) where
  abbrev pub now : Places
  now = insert_entry path_cmp es q v

  abbrev pub next : Places
  next = r.done ++ (q, v) ∷ []

  next-is : places_read all ≡ next ++ places_read left
  next-is = r.is ∙ ap (λ e. r.done ++ e ∷ places_read left) (sym place) ∙ sym (append_assoc r.done ((q, v) ∷ []) (places_read left))

  next-fault : places_fault p all ≡ places_fault p left
  next-fault = r.fault ∙ ap (λ o. option_or o (places_fault p left)) good

  next-few : length now ≤ length next
  next-few = omega (arith, ap length (insert_entry-put path_cmp q v es), length-put path_cmp q v es, r.few, length-append r.done ((q, v) ∷ []))

  next-keys : (f : Path → Bool) → list_any f (keys_of now) ≡ list_any f (keys_of next)
  next-keys f =
      ap (λ fs. list_any f (keys_of fs)) (insert_entry-put path_cmp q v es)
      ∙ any-put path_cmp path_same (λ k. k) f q v es
      ∙ ap (λ b. f q || b) (r.same_keys f)
      ∙ or_swap (f q) (list_any f (keys_of r.done))
      ∙ ap (λ b. list_any f (keys_of r.done) || b) (sym (or_false (f q)))
      ∙ sym (list_any-append f (keys_of r.done) (q ∷ []))
      ∙ ap (list_any f) (sym (keys-append r.done (q, v)))

  next-overlap : overlap (keys_of next) ≡ (list_any (meet q) (keys_of es) || (twice || overlap (keys_of es)))
  next-overlap =
      ap overlap (keys-append r.done (q, v))
      ∙ overlap-more (keys_of r.done) q
      ∙ (λ i. sym (r.same_keys (meet q)) i || sym r.meets i)

  -- the place is new
  pub read_more : None ≡ lookup (is_at (path_cmp q)) es → Read p all left twice now
  read_more none = record {
    done = next;
    is = next-is;
    fault = next-fault;
    few = next-few;
    fit = fit-put p q v es fits r.fit;
    same_keys = next-keys;
    meets =
        ap (λ fs. twice || overlap (keys_of fs)) (insert_entry-put path_cmp q v es)
        ∙ ap (λ b. twice || b) (overlap-put path_cmp path_same (λ k. k) q v es missing)
        ∙ either_first twice (list_any (meet q) (keys_of es)) (overlap (keys_of es))
        ∙ sym next-overlap;
    sorted = λ h.
        insert_entry-put path_cmp q v es
        ∙ ap (put path_cmp q v) (r.sorted h)
        ∙ sorted_by-more path_cmp path_same path_total r.done q v (sym (find-sorted_by path_cmp path_same path_total r.done q) ∙ ap (find path_cmp q) (sym (r.sorted h)) ∙ missing);
  }
    where
      missing : find path_cmp q es ≡ None
      missing = sym (lookup-find path_cmp q es) ∙ sym none

  -- the place was there already
  pub read_again : is_some (lookup (is_at (path_cmp q)) es) ≡ true → Read p all left true now
  read_again some = record {
    done = next;
    is = next-is;
    fault = next-fault;
    few = next-few;
    fit = fit-put p q v es fits r.fit;
    same_keys = next-keys;
    meets = sym (next-overlap ∙ ap (λ b. b || (twice || overlap (keys_of es))) (found-meets q es (ap is_some (sym (lookup-find path_cmp q es)) ∙ some)));
    sorted = λ h. absurd (true≢false h);
  }

-- ---- what the walk ends with

pub length-members : (ms : List (String Global × Value)) → length (places_read (members_view ms)) ≡ length ms
length-members [] = refl
length-members (m ∷ ms) = ap suc (length-members ms)

pub read_many : (p : Path) (all : Members) → most_places < length (places_read all) → below_read p all ≡ Err ManyPaths
read_many p all h =
    let many : nat_lt most_places (length (places_read all)) ≡ true = grind (arith, nat_tests) in
    ap (λ b. cond b (Err ManyPaths) (unless (places_fault p all) (cond (overlap (keys_of (places_read all))) (Err Overlap) (Ok (record { path = p; places = sorted_by path_cmp (places_read all) }))))) many

few_read : (p : Path) (all : Members) → length (places_read all) ≤ most_places
    → below_read p all ≡ unless (places_fault p all) (cond (overlap (keys_of (places_read all))) (Err Overlap) (Ok (record { path = p; places = sorted_by path_cmp (places_read all) })))
few_read p all h =
    let few : nat_lt most_places (length (places_read all)) ≡ false = grind (arith, nat_tests) in
    ap (λ b. cond b (Err ManyPaths) (unless (places_fault p all) (cond (overlap (keys_of (places_read all))) (Err Overlap) (Ok (record { path = p; places = sorted_by path_cmp (places_read all) }))))) few

pub read_bad : (p : Path) (all left : Members) (name : List ℕ) (d : Data) (twice : Bool) (es : Places) (e : TreeFault) → Read p all (member name d left) twice es → place_fault p name d ≡ Some e → length (places_read all) ≤ most_places → below_read p all ≡ Err (Tree e)
read_bad p all left name d twice es e r bad few =
    few_read p all few
    ∙ ap (λ o. unless o (cond (overlap (keys_of (places_read all))) (Err Overlap) (Ok (record { path = p; places = sorted_by path_cmp (places_read all) })))) (r.fault ∙ ap (λ o. option_or o (places_fault p left)) bad)

overlap-all : (p : Path) (all : Members) (twice : Bool) (es : Places) → Read p all no_members twice es → overlap (keys_of (places_read all)) ≡ (twice || overlap (keys_of es))
overlap-all p all twice es r = ap (λ fs. overlap (keys_of fs)) (r.is ∙ append-nil r.done) ∙ sym r.meets

pub read_overlap : (p : Path) (all : Members) (twice : Bool) (es : Places) → Read p all no_members twice es → (twice || overlap (keys_of es)) ≡ true → length (places_read all) ≤ most_places → below_read p all ≡ Err Overlap
read_overlap p all twice es r meets few =
    few_read p all few
    ∙ (λ i. unless (r.fault i) (cond ((overlap-all p all twice es r ∙ meets) i) (Err Overlap) (Ok (record { path = p; places = sorted_by path_cmp (places_read all) }))))

pub read_all : (p : Path) (all : Members) (twice : Bool) (es : Places) → Read p all no_members twice es → twice ≡ false → overlap (keys_of es) ≡ false → length (places_read all) ≤ most_places → below_read p all ≡ Ok (record { path = p; places = es })
read_all p all twice es r once apart few =
    few_read p all few
    ∙ (λ i. unless (r.fault i) (cond ((overlap-all p all twice es r ∙ (λ j. once j || apart j)) i) (Err Overlap) (Ok (record { path = p; places = (ap (sorted_by path_cmp) (r.is ∙ append-nil r.done) ∙ sym (r.sorted once)) i }))))

pub read_few : (p : Path) (all : Members) (twice : Bool) (es : Places) → Read p all no_members twice es → length (places_read all) ≤ most_places → length es ≤ most_places
read_few p all twice es r few = omega (arith, r.few, ap length (r.is ∙ append-nil r.done))

-- what `?` makes of the tree's refusal
pub refused_as : {A : Type 0} (P : A → Type 0) (Q : WriteFault → Type 0) (r : Result A WriteFault) (e : TreeFault) → IsErr r × IsErrAnd r (λ x. x ≡ Tree e) → Q (Tree e) → MatchResult r P Q
refused_as P Q (Ok a) e h q = absurd (false≢true h.0)
refused_as P Q (Err x) e h q = subst Q (sym h.1) q

-- the same at a fault of the tree's own
pub refused_by : {A : Type 0} (P : A → Type 0) (Q : TreeFault → Type 0) (r : Result A TreeFault) (e : TreeFault) → IsErr r × IsErrAnd r (λ x. x ≡ e) → Q e → MatchResult r P Q
refused_by P Q (Ok a) e h q = absurd (false≢true h.0)
refused_by P Q (Err x) e h q = subst Q (sym h.1) q
