-- JSON that is read as it is from what is written for it.
use Rattle.std.proofs.Common.{◌≡◌, ℕ, suc, ◌≤◌, max, List, [], ◌∷◌, ◌++◌, Some, refl, sym, ap, ◌∙◌, subst, arith, append_assoc, append-nil}
use Rattle.std.specs.Prelude.{option_and_then}
use Rattle.std.specs.declared.cmp.Ordering.TheVariants.{Less, Greater}
use Rattle.std.specs.Ordering.{ordering_reverse}
use Rattle.std.specs.Cmp.Lexicographic.{nat_list_cmp_total}
use Rattle.std.specs.List.{AllByRecursion}
use Rattle.std.specs.List.Sorted.{IsStrictlySortedBy}
use Rattle.std.specs.Map.{keys_of}
use Rattle.json.specs.Lex.{tokens}
use Rattle.json.specs.Json as json
use Rattle.json.specs.Tree as tree
use Rattle.json.proofs.Printed.Trees.{value-json_tokens}
use Rattle.serde_json.specs.Data.{Data, null, boolean, number, string, array, object, Items, no_items, item, Members, no_members, member, put, depth, items_depth, members_depth}
use Rattle.serde_json.specs.Read.{of_json, of_members, read, max_depth}
use Rattle.serde_json.specs.Written.{outline, items_outline, members_outline}
use Rattle.pres_tree.specs.Keys.{Key, key_cmp}
use Rattle.pres_tree.specs.Rows.{Rows}
use Rattle.pres_tree.specs.JsonPrinting.{json_of, members_of, IsPlain, MembersArePlain, tokens_of}

-- ---- its text

mutual
  depth-outline : (d : Data) → tree.depth (outline d) ≡ depth d
  depth-outline null = refl
  depth-outline (boolean b) = refl
  depth-outline (number n) = refl
  depth-outline (string s) = refl
  depth-outline (array ds) = ap suc (depth-items ds)
  depth-outline (object ms) = ap suc (depth-members ms)

  depth-items : (ds : Items) → tree.items_depth (items_outline ds) ≡ items_depth ds
  depth-items no_items = refl
  depth-items (item d ds) = λ i. max (depth-outline d i) (depth-items ds i)

  depth-members : (ms : Members) → tree.members_depth (members_outline ms) ≡ members_depth ms
  depth-members no_members = refl
  depth-members (member k d ms) = λ i. max (depth-outline d i) (depth-members ms i)

pub plain_read : (d : Data) (text : List ℕ) → tokens text ≡ tokens_of d → depth d ≤ max_depth → IsPlain d → read text ≡ Some d
plain_read d text same shallow plain =
    ap (λ v. option_and_then of_json (option_and_then (λ p. json.if_last p.0 p.1) v))
    (ap (json.value max_depth) (same ∙ sym (append-nil (tokens_of d))) ∙ value-json_tokens (outline d) max_depth [] (omega (arith, depth-outline d, shallow)))
    ∙ plain

-- ---- members whose names rise

below_middle : {A : Type 0} (k : Key) (es : List (Key × Rows A)) (e : Key × Rows A) (more : List (Key × Rows A)) → AllByRecursion (λ y. key_cmp k y ≡ Less) (keys_of (es ++ e ∷ more)) → key_cmp k e.0 ≡ Less
below_middle k [] e more h = h.0
below_middle k (x ∷ es) e more h = below_middle k es e more h.1

-- a name that is above those before it goes last
put_last : {A : Type 0} (g : A → Data) (done : List (Key × Rows A)) (e : Key × Rows A) (more : List (Key × Rows A)) → IsStrictlySortedBy key_cmp (keys_of (done ++ e ∷ more))
    → put e.0 (json_of g e.1) (members_of g done) ≡ members_of g (done ++ e ∷ [])
unfolding IsStrictlySortedBy
put_last g [] e more h = refl
put_last g (first ∷ done) e more h =
    let above : key_cmp e.0 first.0 ≡ Greater = nat_list_cmp_total.antisymm e.0 first.0 ∙ ap ordering_reverse (below_middle first.0 done e more h.0) in
    rw above (ap (member first.0 (json_of g first.1)) (put_last g done e more h.1))

-- each child's JSON is plain
unfoldable pub ArePlain : {A : Type 0} → (A → Data) → List (Key × Rows A) → Type 0
ArePlain g [] = Unit {0}
ArePlain g (e ∷ es) = IsPlain (json_of g e.1) × ArePlain g es

plain_behind : {A : Type 0} (g : A → Data) (done es : List (Key × Rows A)) → IsStrictlySortedBy key_cmp (keys_of (done ++ es)) → ArePlain g es
    → of_members (members_outline (members_of g es)) (members_of g done) ≡ Some (members_of g (done ++ es))
unfolding ArePlain
plain_behind g done [] h p = ap (λ xs. Some (members_of g xs)) (sym (append-nil done))
plain_behind g done (e ∷ es) h p =
    ap (option_and_then (λ d. of_members (members_outline (members_of g es)) (put e.0 d (members_of g done)))) p.0
    ∙ ap (of_members (members_outline (members_of g es))) (put_last g done e es h)
    ∙ plain_behind g (done ++ e ∷ []) es (subst (λ xs. IsStrictlySortedBy key_cmp (keys_of xs)) (sym (append_assoc done (e ∷ []) es)) h) p.1
    ∙ ap (λ xs. Some (members_of g xs)) (append_assoc done (e ∷ []) es)

pub plain_members : {A : Type 0} (g : A → Data) (es : List (Key × Rows A)) → IsStrictlySortedBy key_cmp (keys_of es) → ArePlain g es → MembersArePlain (members_of g es)
plain_members g es h p = plain_behind g [] es h p
