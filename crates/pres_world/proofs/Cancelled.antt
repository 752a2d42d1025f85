-- What was cancelled before a session's end is not in the plan that its end pays.
use Rattle.std.proofs.Common.{refl, sym, ◌∙◌, ap, subst, ◌≡◌, ◌+◌, ◌≤◌, ◌<◌, ℕ, List, [], ◌∷◌, ◌++◌, length, take, Bool, true, false, cond, ◌||◌, ◌⊎◌, inl, inr, Option, Some, true≢false, arith, slice_get, filter}
use Rattle.std.specs.List.{list_any, AllByRecursion}
use Rattle.std.proofs.lemmas.Bool.{and_parts, cases_order, not-true}
use Rattle.pres_ids.specs.declared.id.SessionId.{SessionId}
use Rattle.pres_ids.specs.declared.id.Why.{Why}
use Rattle.pres_ids.specs.Ids.{same_session}
use Rattle.pres_tree.specs.Paths.{Path, is_prefix}
use Rattle.pres_tree.specs.Rows.{Rows}
use Rattle.pres_write.specs.declared.basic.Basic.{Basic}
use Rattle.pres_write.specs.declared.draft.DraftLeaf.{DraftLeaf}
use Rattle.pres_plan.specs.declared.row.PlanRow.{PlanRow}
use Rattle.pres_plan.specs.Plans.{puts, cancels, path_of, is_left, lasting, matters, plan_of}
use Rattle.pres_plan.proofs.Left.{lasting-append, left_by_cancel}
use Rattle.pres_log.specs.declared.entry.Entry.{Entry}
use Rattle.pres_log.specs.declared.entry.Entry.TheVariants as entry
use Rattle.pres_log.specs.Logs.{Log, entries}
use Rattle.pres_history.specs.LegalLog.{MayCome, IsLegal}
use Rattle.pres_server.specs.InternalParts.{plan_after}
use Rattle.pres_history.specs.Sessions.{opens, ends, count}
use Rattle.pres_server.specs.Sessions.{session_of}
use Rattle.pres_history.specs.SessionPlans.{plan}
use Rattle.pres_history.proofs.Since.{any-append}
use Rattle.pres_server.proofs.Clients.{session_itself, session_same}
use Rattle.pres_history.proofs.Steps.{count_own, count_other}
use Rattle.pres_history.proofs.PlanSteps.{plan_own, plan_other}
use Rattle.pres_world.specs.Orderly.{IsPutBefore}
use Rattle.pres_world.proofs.Stands.{none_or_some, get_push, got_small, get_taken, prefix_rule, stands_may, found_before}
use Rattle.pres_world.proofs.Backed.{all_front}

-- the row is no such put
abbrev pub IsOther : ℕ → Path → PlanRow → Type 0
IsOther q p row = IsPutBefore q p row → ⊥

all_kept : {A : Type 0} (P : A → Type 0) (f : A → Bool) (xs : List A) → AllByRecursion P xs → AllByRecursion P (filter f xs)
all_kept P f [] h = tt
all_kept P f (x ∷ xs) h = by (f x) (all_kept P f xs h.1) where
  by : (b : Bool) → AllByRecursion P (filter f xs) → AllByRecursion P (cond b (x ∷ filter f xs) (filter f xs))
  by true k = (h.0, k)
  by false k = k

all_lasting : (P : PlanRow → Type 0) (xs : List PlanRow) → AllByRecursion P xs → AllByRecursion P (lasting xs)
all_lasting P [] h = tt
all_lasting P (x ∷ xs) h = by (is_left xs x) (all_lasting P xs h.1) where
  by : (b : Bool) → AllByRecursion P (lasting xs) → AllByRecursion P (cond b (x ∷ lasting xs) (lasting xs))
  by true k = (h.0, k)
  by false k = k

all_planned : (P : PlanRow → Type 0) (xs : List PlanRow) → AllByRecursion P xs → AllByRecursion P (plan_of xs)
all_planned P xs h = all_kept P (matters (lasting xs)) (lasting xs) (all_lasting P xs h)

-- puts with a later number are others
puts_other : (q n : ℕ) (p : Path) (placements : List (Path × Rows DraftLeaf)) → q ≤ n → AllByRecursion (IsOther q p) (puts n placements)
puts_other q n p [] less = tt
puts_other q n p (x ∷ placements) less = (λ is. absurd (let before = is.1 in omega (arith, less, before)), puts_other q n p placements less)

-- so is what a cancel at the path leaves
cancel_other : (q : ℕ) (p : Path) (rows : List PlanRow) → AllByRecursion (IsOther q p) (plan_of (rows ++ cancels q p))
cancel_other q p rows =
    all_kept (IsOther q p) (matters (lasting (rows ++ cancels q p))) (lasting (rows ++ cancels q p))
    (subst (AllByRecursion (IsOther q p)) (sym (lasting-append rows (cancels q p))) (all_front (IsOther q p) (filter (is_left (cancels q p)) (lasting rows)) (lasting (cancels q p)) (uncovered (lasting rows)) ((λ is. true≢false (sym is.0)), tt))) where
      uncovered : (xs : List PlanRow) → AllByRecursion (IsOther q p) (filter (is_left (cancels q p)) xs)
      uncovered [] = tt
      uncovered (x ∷ xs) = by (is_left (cancels q p) x) refl (uncovered xs) where
        by : (b : Bool) → is_left (cancels q p) x ≡ b → AllByRecursion (IsOther q p) (filter (is_left (cancels q p)) xs) → AllByRecursion (IsOther q p) (cond b (x ∷ filter (is_left (cancels q p)) xs) (filter (is_left (cancels q p)) xs))
        by true e k = ((λ is. true≢false (sym is.2 ∙ not-true (is_prefix p (path_of x.action)) (sym (left_by_cancel q p x) ∙ e))), k)
        by false e k = k

-- what was cancelled among these entries is not in the plan that they leave
abbrev Undone : List Entry → Type 0
Undone es = (s : SessionId) (i q : ℕ) (p : Path) → slice_get es i ≡ Some (entry.Cancelled s q p) → AllByRecursion (IsOther q p) (plan s es) × (q ≤ count s es) × (list_any (opens s) es ≡ true)

opened_more : (s : SessionId) (es : List Entry) (e : Entry) → list_any (opens s) es ≡ true → list_any (opens s) (es ++ e ∷ []) ≡ true
opened_more s es e o = any-append (opens s) es (e ∷ []) ∙ ap (λ b. b || list_any (opens s) (e ∷ [])) o

own_rows : (es : List Entry) (m : ℕ) (e : Entry) (s : SessionId) (q : ℕ) (p : Path) → MayCome es m e → same_session s (session_of e) ≡ true → q ≤ count s es → AllByRecursion (IsOther q p) (plan s es) → AllByRecursion (IsOther q p) (plan_after e (plan s es))
own_rows es m (entry.Left t n places) s q p may k small h =
    let here : n ≡ count s es + 1 = may.0.1 ∙ ap (λ x. count x es + 1) (sym (session_same s t k)) in
    all_planned (IsOther q p) (plan s es ++ puts n places) (all_front (IsOther q p) (plan s es) (puts n places) h (puts_other q n p places (omega (arith, small, here))))
own_rows es m (entry.Cancelled t n path) s q p may k small h = all_planned (IsOther q p) (plan s es ++ cancels n path) (all_front (IsOther q p) (plan s es) (cancels n path) h ((λ is. true≢false (sym is.0)), tt))
own_rows es m (entry.Open t) s q p may k small h = h
own_rows es m (entry.Op t n i op outcome) s q p may k small h = h
own_rows es m (entry.Again t n i) s q p may k small h = h
own_rows es m (entry.Denied t n why) s q p may k small h = h
own_rows es m (entry.On t n path) s q p may k small h = h
own_rows es m (entry.Off t n path) s q p may k small h = h
own_rows es m (entry.Ended t n why rows) s q p may k small h = h

undone_more : (es : List Entry) (m : ℕ) (e : Entry) → Undone es → MayCome es m e → Undone (es ++ e ∷ [])
undone_more es m e h may s i q p get = by_place (get_push es e i (entry.Cancelled s q p) get) where
  still : AllByRecursion (IsOther q p) (plan s es) × (q ≤ count s es) × (list_any (opens s) es ≡ true) → AllByRecursion (IsOther q p) (plan s (es ++ e ∷ [])) × (q ≤ count s (es ++ e ∷ [])) × (list_any (opens s) (es ++ e ∷ []) ≡ true)
  still x = by (same_session s (session_of e)) refl where
    by : (b : Bool) → same_session s (session_of e) ≡ b → AllByRecursion (IsOther q p) (plan s (es ++ e ∷ [])) × (q ≤ count s (es ++ e ∷ [])) × (list_any (opens s) (es ++ e ∷ []) ≡ true)
    by true k =
        let more = count_own s es e x.2 k in
        let small = x.1 in
        (subst (AllByRecursion (IsOther q p)) (sym (plan_own s es e x.2 k)) (own_rows es m e s q p may k x.1 x.0), omega (arith, small, more), opened_more s es e x.2)
    by false k = (subst (AllByRecursion (IsOther q p)) (sym (plan_other s es e x.2 k)) x.0, subst (λ n. q ≤ n) (sym (count_other s es e x.2 k)) x.1, opened_more s es e x.2)

  fresh : MayCome es m (entry.Cancelled s q p) → AllByRecursion (IsOther q p) (plan s (es ++ entry.Cancelled s q p ∷ [])) × (q ≤ count s (es ++ entry.Cancelled s q p ∷ [])) × (list_any (opens s) (es ++ entry.Cancelled s q p ∷ []) ≡ true)
  fresh can =
      let o = (and_parts (list_any (opens s) es) _ can.0.0).0 in
      let more = count_own s es (entry.Cancelled s q p) o (session_itself s) in
      let next = can.0.1 in
      (subst (AllByRecursion (IsOther q p)) (sym (plan_own s es (entry.Cancelled s q p) o (session_itself s))) (cancel_other q p (plan s es)), omega (arith, next, more), opened_more s es (entry.Cancelled s q p) o)

  by_place : ((i < length es) × (slice_get es i ≡ Some (entry.Cancelled s q p))) ⊎ ((i ≡ length es) × (e ≡ entry.Cancelled s q p)) → AllByRecursion (IsOther q p) (plan s (es ++ e ∷ [])) × (q ≤ count s (es ++ e ∷ [])) × (list_any (opens s) (es ++ e ∷ []) ≡ true)
  by_place (inl x) = still (h s i q p x.1)
  by_place (inr x) = subst (λ f. AllByRecursion (IsOther q p) (plan s (es ++ f ∷ [])) × (q ≤ count s (es ++ f ∷ [])) × (list_any (opens s) (es ++ f ∷ []) ≡ true)) (sym x.1) (fresh (subst (MayCome es m) x.1 may))

none_undone : Undone []
none_undone s i q p get = absurd (none_or_some (entry.Cancelled s q p) get)

-- the plan that a session's end pays has no put at or below a path that a later message of the session cancelled
pub cancels_stand : (log : Log) → IsLegal log → (s : SessionId) (i j q : ℕ) (p : Path) (e : Option ℕ) (y : Why) (rows : List Basic) →
    slice_get (entries log) i ≡ Some (entry.Cancelled s q p) → slice_get (entries log) j ≡ Some (entry.Ended s e y rows) → AllByRecursion (IsOther q p) (plan s (take j (entries log)))
cancels_stand log legal s i j q p e y rows a b = by_order (cases_order i j) where
  es : List Entry
  es = entries log

  by_order : (i ≡ j) ⊎ ((i < j) ⊎ (j < i)) → AllByRecursion (IsOther q p) (plan s (take j (entries log)))
  by_order (inl is) = absurd (unlike (sym a ∙ ap (slice_get (entries log)) is ∙ b)) where
    unlike : Some (entry.Cancelled s q p) ≡ Some (entry.Ended s e y rows) → ⊥
    unlike k = grind arith
  by_order (inr (inl less)) =
      let small = got_small (entries log) j (entry.Ended s e y rows) b in
      (prefix_rule Undone none_undone undone_more log legal j (omega (arith, small)) s i q p (get_taken (entries log) i j (entry.Cancelled s q p) a less)).0
  by_order (inr (inr more)) =
      let open_then = (stands_may log legal i (entry.Cancelled s q p) a).1.0.0 in
      let ended = found_before (ends s) (entries log) j i (entry.Ended s e y rows) b more (session_itself s) in
      absurd (true≢false (sym ended ∙ not-true _ (and_parts _ _ open_then).1))
