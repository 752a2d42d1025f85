-- What the statement that deletes all rows of a table does.
use Rattle.std.proofs.Common.{◌≡◌, ℕ, ℤ, ◌<◌, ◌==◌, ◌||◌, not, cond, List, [], ◌∷◌, map, flat_map, length, Bool, true, false, None, Some, Ok, refl, sym, ap, subst, ◌∙◌, Option, IsTrue, IfSome, get_or, slice_get, ◌≢◌, arith}
use Rattle.std.specs.List.{AllByRecursion, All, filter_map, list_any}
use Rattle.std.specs.Ordering.{is_eq, ordering_reverse}
use Rattle.std.specs.declared.cmp.Ordering.{Ordering}
use Rattle.std.specs.declared.cmp.Ordering.TheVariants.{Less, Equal, Greater}
use Rattle.std.proofs.lemmas.List.Sorted.{All-permutation, IsPermutation-sym}
use Rattle.std.proofs.lemmas.List.Elements.{All-from_recursion, recursion_from_All}
use Rattle.sqlite_keyed.proofs.ListLemmas.{map-map, none_from_any, all_unmap}
use Rattle.sqlite.specs.declared.types.Value.{Value}
use Rattle.sqlite.specs.declared.types.Value.TheVariants.{Null, Int}
use Rattle.sqlite.specs.Order.{Row}
use Rattle.sqlite_value.specs.Order.{value_cmp, column}
use Rattle.sqlite_value.proofs.OrderLemmas.{value_cmp_total}
use Rattle.sqlite.specs.Table.{Table}
use Rattle.sqlite.specs.Schema.{Schema}
use Rattle.sqlite_schema.specs.declared.schema.Keys.{Keys}
use Rattle.sqlite_schema.specs.declared.schema.Reference.{Reference}
use Rattle.sqlite_schema.specs.Rules.{ParentKey}
use Rattle.sqlite_rules.specs.Action.{work_by, work_for, works, pairs}
use Rattle.sqlite_rules.specs.declared.action.Deed.{Deed}
use Rattle.sqlite_rules.specs.Edit.{edit_of, edited, without_all, taken_by, id_in}
use Rattle.sqlite_rules.specs.Calls.{ids_of}
use Rattle.sqlite_rules.specs.declared.error.Rowids.TheVariants.{Given}
use Rattle.sqlite_schema.specs.declared.command.Command.TheVariants.{Delete}
use Rattle.sqlite_trees.specs.View.{is_int}
use Rattle.sqlite.specs.Tree.{Trees, rowid}
use Rattle.sqlite_trees.specs.Tree.{has_rowid, without_rowid}
use Rattle.sqlite.specs.Term.{Env}
use Rattle.sqlite.specs.Query.{IsAnswer, Output, output}
use Rattle.sqlite.specs.Program.{overlay}
use Rattle.sqlite.specs.Does.{Tally, Does, AtPlace, OnRows}
use Rattle.sqlite_schema.specs.declared.program.Program.{Program}
use Rattle.std.proofs.lemmas.Bool.Decides.{nat_tests}
use Rattle.sqlite.specs.Rows.{Written, Task}
use Rattle.sqlite.specs.declared.run.Mode.{Mode}
use Rattle.sqlite.specs.Effect.{Database}
use Rattle.sqlite.proofs.Callers.{one_step}
use Rattle.pres_batch_rows.specs.TableStates.{IsUnreferred, AreNumbered}
use Rattle.pres_batch_rows.proofs.Inserting.{went, same_value}
use Rattle.pres_batch_rows.proofs.CheckpointStatements.{picked}

-- ---- lists

singles : {A B : Type 0} (f : A → B) (xs : List A) → flat_map (λ x. f x ∷ []) xs ≡ map f xs
singles f [] = refl
singles f (x ∷ xs) = ap (λ l. f x ∷ l) (singles f xs)

or_true : (a b : Bool) → (a || b) ≡ true → a ≡ false → b ≡ true
or_true true b h e = absurd (cc)
or_true false b h e = h

abbrev HaveOne : List ℤ → List Row → Type 0
HaveOne ids = AllByRecursion (λ r. list_any (λ i. has_rowid i r) ids ≡ true)

kept_or_not : (id : ℤ) (ids : List ℤ) (r : Row) (rest : List Row) (b : Bool) → has_rowid id r ≡ b → list_any (λ i. has_rowid i r) (id ∷ ids) ≡ true → HaveOne ids rest → HaveOne ids (cond (not b) (r ∷ rest) rest)
kept_or_not id ids r rest true e h later = later
kept_or_not id ids r rest false e h later = (or_true (has_rowid id r) (list_any (λ i. has_rowid i r) ids) h e, later)

kept : (id : ℤ) (ids : List ℤ) (rows : List Row) → HaveOne (id ∷ ids) rows → HaveOne ids (without_rowid id rows)
kept id ids [] h = tt
kept id ids (r ∷ rows) h = kept_or_not id ids r (without_rowid id rows) (has_rowid id r) refl h.0 (kept id ids rows h.1)

-- where each row has one of the numbers, none is left without them
pub none_left : (ids : List ℤ) (rows : List Row) → HaveOne ids rows → without_all rows ids ≡ []
none_left [] [] h = refl
none_left [] (r ∷ rows) h = absurd (let e = h.0 in cc)
none_left (id ∷ ids) rows h = none_left ids (without_rowid id rows) (kept id ids rows h)

-- ---- the query

abbrev env_of : Row → Env
env_of r = [] ∷ r ∷ []

abbrev out : Row → Output
out r = ([], column r 0 ∷ [])

equal_self : (o : Ordering) → o ≡ ordering_reverse o → is_eq o ≡ true
equal_self Less h = absurd (cc)
equal_self Equal h = refl
equal_self Greater h = absurd (cc)

own_value : (v : Value) → IsTrue (is_int v) → is_eq (value_cmp v (Int (id_in v))) ≡ true
own_value (Int n) h = equal_self (value_cmp (Int n) (Int n)) (value_cmp_total.antisymm (Int n) (Int n))
own_value _ h = absurd (cc)

abbrev lacks : Row → Output → Type 0
lacks r o = has_rowid (id_in (rowid o.1)) r ≡ false

-- each row has the number of one that was picked
pub picks_all : (tree : ℕ) (db : Trees) (rows : List Row) → overlay db [] tree ≡ db tree → AreNumbered (db tree) → IsAnswer (picked tree) (overlay db []) [] rows → HaveOne (ids_of rows) (db tree)
picks_all tree db rows plain numbered a =
    let all = db tree in
    let staged : a.staged ≡ map env_of all = a.grouped ∙ singles env_of (overlay db [] tree) ∙ ap (map env_of) plain in
    let kept : a.kept ≡ map out all = a.distinct ∙ ap (map (output (picked tree))) staged ∙ map-map (output (picked tree)) env_of all in
    let shown : ids_of rows ≡ map (λ (o : Output). id_in (rowid o.1)) a.ordered = ap ids_of a.shown ∙ map-map (λ r. id_in (rowid r)) (λ (o : Output). o.1) a.ordered in
    recursion_from_All (λ r. list_any (λ i. has_rowid i r) (ids_of rows) ≡ true) all (λ k d within. has_own k d within (list_any (λ i. has_rowid i (get_or all k d)) (ids_of rows)) refl (λ none.
    let r = get_or all k d in
    let each : AllByRecursion (lacks r) a.ordered = all_unmap (λ i. has_rowid i r ≡ false) (λ (o : Output). id_in (rowid o.1)) a.ordered (subst (AllByRecursion (λ i. has_rowid i r ≡ false)) shown (none_from_any (λ i. has_rowid i r) (ids_of rows) none)) in
    let before : All (lacks r) a.kept = All-permutation (lacks r) a.ordered a.kept (IsPermutation-sym a.kept a.ordered a.same) (All-from_recursion (lacks r) a.ordered each) in
    let here : AllByRecursion (λ x. lacks r (out x)) all = all_unmap (lacks r) out all (subst (AllByRecursion (lacks r)) kept (recursion_from_All (lacks r) a.kept before)) in
    All-from_recursion (λ x. lacks r (out x)) all here k d within))
  where
    has_own : (k : ℕ) (d : Row) → k < length (db tree) → (b : Bool) → list_any (λ i. has_rowid i (get_or (db tree) k d)) (ids_of rows) ≡ b
        → (list_any (λ i. has_rowid i (get_or (db tree) k d)) (ids_of rows) ≡ false → has_rowid (id_in (rowid (get_or (db tree) k d))) (get_or (db tree) k d) ≡ false)
        → list_any (λ i. has_rowid i (get_or (db tree) k d)) (ids_of rows) ≡ true
    has_own k d within true e f = e
    has_own k d within false e f =
        let own = own_value (rowid (get_or (db tree) k d)) (All-from_recursion (λ x. IsTrue (is_int (rowid x))) (db tree) numbered k d within) in
        absurd (let no = f e in cc)

-- ---- no foreign key acts

filtered_none : {A B : Type 0} (f : A → Option B) (xs : List A) → AllByRecursion (λ x. f x ≡ None) xs → filter_map f xs ≡ []
filtered_none f [] h = refl
filtered_none f (x ∷ xs) h = rw (h.0) (filtered_none f xs h.1)

flat_none : {A B : Type 0} (f : A → List B) (xs : List A) → AllByRecursion (λ x. f x ≡ []) xs → flat_map f xs ≡ []
flat_none f [] h = refl
flat_none f (x ∷ xs) h = rw (h.0) (flat_none f xs h.1)

all_so : {A : Type 0} (P Q : A → Type 0) → ((x : A) → P x → Q x) → (xs : List A) → AllByRecursion P xs → AllByRecursion Q xs
all_so P Q so [] h = tt
all_so P Q so (x ∷ xs) h = (so x h.0, all_so P Q so xs h.1)

apart : (a b : ℕ) → a ≢ b → (a == b) ≡ false
apart a b h = grind (arith, nat_tests)

no_work : (depth tree : ℕ) (moves : List (Row × Row)) (child : Table) (ref : Reference) (deed : Option Deed) (key : Option ParentKey) → IfSome key (λ k. k.0 ≢ tree) → work_by depth tree moves child ref deed key ≡ None
no_work depth tree moves child ref None key h = refl
no_work depth tree moves child ref (Some deed) None h = refl
no_work depth tree moves child ref (Some deed) (Some key) h = rw (apart key.0 tree h) refl

pub nothing_works : (schema : Schema) (tree : ℕ) → IsUnreferred schema.tables tree → (keys : Keys) (olds news : List Row) → works schema keys 0 tree olds news ≡ []
nothing_works schema tree unreferred keys olds news =
    let each = λ (child : Table). filter_map (work_for schema keys 0 tree olds news child) child.references in
    flat_none each schema.tables (all_so _ (λ child. each child ≡ []) (λ child refs. filtered_none (work_for schema keys 0 tree olds news child) child.references
    (all_so _ (λ ref. work_for schema keys 0 tree olds news child ref ≡ None) (λ ref key. no_work 0 tree (pairs olds news) child ref _ _ key) child.references refs)) schema.tables unreferred)

-- ---- the statement

pub does_delete : (at : ℕ) (table : Table) (limit : Option ℕ) (mode : Mode) (db after : Database) (text : List ℕ) (tally : Tally) → slice_get db.schema.tables at ≡ Some table
    → overlay db.trees [] table.tree ≡ db.trees table.tree → AreNumbered (db.trees table.tree) → ((olds : List Row) → works db.schema mode.keys 0 table.tree olds [] ≡ [])
    → Does limit mode [] db text None (Delete at (record { lets = []; body = picked table.tree })) (Ok (tally, after))
    → (after.schema ≡ db.schema) × (after.trees table.tree ≡ []) × AllByRecursion (λ t. t.tree ≢ table.tree → after.trees t.tree ≡ db.trees t.tree) db.schema.tables
does_delete at table limit mode db after text tally there plain numbered none does =
    let trees = db.trees in
    let q : Program = record { lets = []; body = picked table.tree } in
    let task = λ (t : Table). let made : Task = record { limit = limit; keys = mode.keys; schema = db.schema; table = t; params = [] } in made in
    let done = went (subst (λ o. AtPlace (λ t. OnRows (task t) mode None (Delete at q) trees) o (Ok (tally, after))) there does) in
    let now : after ≡ record { schema = db.schema; trees = done.0.trees } = ap (λ (p : Tally × Database). p.1) (same_value (went (went done.2).2).2) in
    let given = went done.1 in
    let written = went given.2 in
    let ends : done.0.trees ≡ written.0 = ap (λ (it : Written). it.trees) (same_value written.2) in
    let edit = edit_of trees table (ids_of given.0) Given 0 [] in
    let applied = one_step db.schema mode.keys trees written.0 edit (none (taken_by trees edit)) written.1 in
    let emptied : edited trees edit ≡ [] = none_left (ids_of given.0) (trees table.tree) (picks_all table.tree trees given.0 plain numbered (given.1.answer Null)) in
    let is : after.trees ≡ written.0 = ap (λ (d : Database). d.trees) now ∙ ends in (
      ap (λ (d : Database). d.schema) now,
      ap (λ (t : Trees). t table.tree) is ∙ applied.rows ∙ emptied,
      subst (λ (l : Trees). AllByRecursion (λ t. t.tree ≢ table.tree → l t.tree ≡ trees t.tree) db.schema.tables) (sym is) applied.tables,
    )
