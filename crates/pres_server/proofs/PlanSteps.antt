-- What one entry more changes in what a session leaves.
use Rattle.std.proofs.Common.{refl, subst, ◌≡◌, ℕ, ◌+◌, ◌<◌, List, [], ◌∷◌, ◌++◌, Bool, true, false, cond, arith, All, Option, Some, None}
use Rattle.std.proofs.lemmas.List.Elements.{All-head, All-tail, All-cons, All-append, All-filter}
use Rattle.pres_tree.specs.Paths.{Path}
use Rattle.pres_tree.specs.Rows.{Rows}
use Rattle.pres_write.specs.declared.draft.DraftLeaf.{DraftLeaf}
use Rattle.pres_plan.specs.declared.row.PlanRow.{PlanRow}
use Rattle.pres_plan.specs.declared.row.Action.TheVariants.{Put, Keep}
use Rattle.pres_plan.specs.Plans.{puts, cancels, is_left, lasting, matters, plan_of}
use Rattle.pres_log.specs.declared.entry.Entry.{Entry}
use Rattle.pres_log.specs.declared.entry.Entry.TheVariants as entry
use Rattle.pres_server.specs.InternalParts.{plan_after}

-- ---- the numbers of the messages

-- the number of the message that asked for an action
abbrev pub number_in : Entry → Option ℕ
number_in (entry.Left s q places) = Some q
number_in (entry.Cancelled s q path) = Some q
number_in _ = None

-- the row was asked for by a message before message q
abbrev pub Below : ℕ → PlanRow → Type 0
Below q row = row.q < q

All-lasting : (P : PlanRow → Type 0) (rows : List PlanRow) → All P rows → All P (lasting rows)
All-lasting P [] h = h
All-lasting P (r ∷ rows) h = by (is_left rows r) (All-head P r rows h) (All-lasting P rows (All-tail P r rows h)) where
  by : (b : Bool) → P r → All P (lasting rows) → All P (cond b (r ∷ lasting rows) (lasting rows))
  by true k more = All-cons P r (lasting rows) k more
  by false k more = more

All-plan : (P : PlanRow → Type 0) (rows : List PlanRow) → All P rows → All P (plan_of rows)
All-plan P rows h = All-filter (matters (lasting rows)) P (lasting rows) (All-lasting P rows h)

puts_below : (q : ℕ) (places : List (Path × Rows DraftLeaf)) → All (Below (q + 1)) (puts q places)
puts_below q [] = λ i x small. absurd (omega arith)
puts_below q (p ∷ places) = All-cons (Below (q + 1)) (record { q = q; action = Put p }) (puts q places) (omega arith) (puts_below q places)

later_below : (q : ℕ) (rows : List PlanRow) → All (Below q) rows → All (Below (q + 1)) rows
later_below q [] h = λ i x small. absurd (omega arith)
later_below q (r ∷ rows) h =
    let k : r.q < q = All-head (Below q) r rows h in
    All-cons (Below (q + 1)) r rows (omega arith) (later_below q rows (All-tail (Below q) r rows h))

-- what a session leaves after its message n was asked for by messages up to that one
pub asked_by : (n : ℕ) (e : Entry) (rows : List PlanRow) → ((q : ℕ) → number_in e ≡ Some q → q ≡ n) → All (Below n) rows → All (Below (n + 1)) (plan_after e rows)
asked_by n (entry.Open s) rows k h = later_below n rows h
asked_by n (entry.Op s q i op outcome) rows k h = later_below n rows h
asked_by n (entry.Again s q i) rows k h = later_below n rows h
asked_by n (entry.Left s q places) rows k h =
    All-plan (Below (n + 1)) (rows ++ puts q places)
    (All-append (Below (n + 1)) rows (puts q places) (later_below n rows h) (subst (λ x. All (Below (x + 1)) (puts q places)) (k q refl) (puts_below q places)))
asked_by n (entry.Cancelled s q path) rows k h =
    All-plan (Below (n + 1)) (rows ++ cancels q path)
    (All-append (Below (n + 1)) rows (cancels q path) (later_below n rows h)
    (let same = k q refl in All-cons (Below (n + 1)) (record { q = q; action = Keep path }) [] (omega arith) (λ i x small. absurd (omega arith))))
asked_by n (entry.Denied s q why) rows k h = later_below n rows h
asked_by n (entry.On s q path) rows k h = later_below n rows h
asked_by n (entry.Off s q path) rows k h = later_below n rows h
asked_by n (entry.Ended s q why due) rows k h = later_below n rows h
