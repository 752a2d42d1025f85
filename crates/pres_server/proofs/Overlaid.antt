-- What an operation reads, and what it is, after batches of operations.
use Rattle.std.proofs.Common.{refl, sym, ◌∙◌, ap, subst, ◌≡◌, ℕ, ◌+◌, ◌-◌, ◌≤◌, List, [], ◌∷◌, length, map, slice_get, Bool, true, false, cond, ◌||◌, nat_le, ◌==◌, true≢false, arith, inl, inr, Option, Some, None}
use Rattle.std.specs.List.{list_any}
use Rattle.std.specs.Option.{option_map}
use Rattle.std.proofs.lemmas.Bool.{eq-eqb}
use Rattle.std.proofs.lemmas.Bool.Decides.{nat_tests}
use Rattle.std.proofs.lemmas.Option.{slice_get_cases}
use Rattle.pres_tree.specs.declared.scalar.Scalar.{Scalar}
use Rattle.pres_tree.specs.Paths.{Path, meet}
use Rattle.pres_tree.specs.Rows.{Rows, InOrder, value_at}
use Rattle.pres_tree.specs.Writes.{write, after}
use Rattle.pres_tree.proofs.After.{after_same, value_alone, value_kept, value_put}
use Rattle.pres_tree.proofs.Found.{in_order-after}
use Rattle.pres_tree.proofs.Nodes.{in_order-value_at}
use Rattle.pres_write.specs.declared.op.Op.{Op}
use Rattle.pres_write.specs.Basics.{BasicWrite, write_of, applied}
use Rattle.pres_write.specs.Outcomes.{named_path, resolved}
use Rattle.pres_write.proofs.There.{resolved_there}
use Rattle.pres_ids.specs.declared.id.SessionId.{SessionId}
use Rattle.pres_ids.specs.Ids.{stamp_of}
use Rattle.pres_retry.specs.declared.table.Row.{Row}
use Rattle.pres_retry.specs.Verdicts.{fresh, gap, again, row_status, verdict}
use Rattle.pres_log.specs.declared.fault.Fault.TheVariants as fault
use Rattle.pres_log.specs.Logs.{Log}
use Rattle.pres_server.specs.Turns.{Decision, refused, quiet}
use Rattle.pres_server.specs.InternalParts.{LivePart, same_stamp, said_by}
use Rattle.pres_server.specs.InternalGroups.{written_in, tree_from, meets, some_meet, further}
use Rattle.pres_server.proofs.Taken.{is_again}

-- ---- the tree

order_from : (tree : Rows Scalar) (log : Log) → InOrder tree → InOrder (tree_from tree log)
order_from tree [] h = h
order_from tree (b ∷ log) h = order_from (applied tree (written_in b.entries)) log (in_order-after tree (map write_of (written_in b.entries)))

same_from : (p : Path) (s t : Rows Scalar) (log : Log) → value_at p s ≡ value_at p t → value_at p (tree_from s log) ≡ value_at p (tree_from t log)
same_from p s t [] e = e
same_from p s t (b ∷ log) e =
    let writes = written_in b.entries in
    same_from p (applied s writes) (applied t writes) log (after_same p s t (map write_of writes) e)

any_written : (p : Path) (writes : List BasicWrite) → list_any (λ w. meet w.path p) (map write_of writes) ≡ meets p writes
any_written p [] = refl
any_written p (w ∷ writes) = ap (λ b. meet w.path p || b) (any_written p writes)

or_false : (a b : Bool) → (a || b) ≡ false → (a ≡ false) × (b ≡ false)
or_false true b h = absurd (true≢false h)
or_false false b h = (refl, h)

-- what doesn't meet the path leaves what stands there
kept_there : (p : Path) (tree : Rows Scalar) (writes : List BasicWrite) → InOrder tree → meets p writes ≡ false → value_at p (applied tree writes) ≡ value_at p tree
kept_there p tree writes k h = value_kept p (write [] tree ∷ []) (map write_of writes) (any_written p writes ∙ h) ∙ value_alone p tree k

none_meets : (p : Path) (tree : Rows Scalar) (log : Log) → InOrder tree → some_meet p log ≡ false → value_at p (tree_from tree log) ≡ value_at p tree
none_meets p tree [] k h = refl
none_meets p tree (b ∷ log) k h =
    let writes = written_in b.entries in
    let none = or_false (meets p writes) (some_meet p log) h in
    none_meets p (applied tree writes) log (in_order-after tree (map write_of writes)) none.1 ∙ kept_there p tree writes k none.0

-- an operation whose path they don't meet may be read before them
pub read_before : (tree : Rows Scalar) (log : Log) (moment : ℕ) (op : Op) → InOrder tree → some_meet (named_path op) log ≡ false → resolved tree moment op ≡ resolved (tree_from tree log) moment op
read_before tree log moment op k none = resolved_there tree (tree_from tree log) moment op k (order_from tree log k) (sym (none_meets (named_path op) tree log k none))

-- on the tree that has what stands at the path alone the outcome is that on the whole one
pub read_alone : (tree start : Rows Scalar) (log : Log) (moment : ℕ) (op : Op) → InOrder tree → start ≡ after [] (write (named_path op) (value_at (named_path op) tree) ∷ [])
    → resolved (tree_from start log) moment op ≡ resolved (tree_from tree log) moment op
read_alone tree start log moment op k is =
    let p = named_path op in
    let held = value_at p tree in
    let order : InOrder start = subst InOrder (sym is) (in_order-after [] (write p held ∷ [])) in
    resolved_there (tree_from start log) (tree_from tree log) moment op (order_from start log order) (order_from tree log k)
    (same_from p start tree log (ap (value_at p) is ∙ value_put p (write [] [] ∷ []) held (in_order-value_at p tree k)))

-- ---- the session's next message

said_next : (l : LivePart) (s : SessionId) (q said : ℕ) → same_stamp (stamp_of s) l.stamp ≡ true → q ≡ l.count + said + 1 → (accepted : Decision) → said_by (Some (further said l)) s q accepted ≡ accepted
said_next l s q said same next accepted =
    let later : nat_le q (l.count + said) ≡ false = grind (arith, nat_tests) in
    let is : (q == l.count + said + 1) ≡ true = eq-eqb q (l.count + said + 1) next in
    λ i. cond (same i) (cond (later i) quiet (cond (is i) accepted (refused fault.Order))) (refused fault.Session)

pub next_after : (o : Option LivePart) (l : LivePart) (s : SessionId) (q said : ℕ) → o ≡ Some l → same_stamp (stamp_of s) l.stamp ≡ true → q ≡ l.count + said + 1
    → (live : Option LivePart) → live ≡ option_map (further said) o → (accepted : Decision) → said_by live s q accepted ≡ accepted
next_after o l s q said e same next live f accepted = ap (λ x. said_by x s q accepted) (f ∙ ap (option_map (further said)) e) ∙ said_next l s q said same next accepted

-- ---- the client's next write, and one that was done

pub new_after : (n done : ℕ) (old rows : List Row) → n ≡ length old + done + 1 → length rows ≡ length old + done → verdict n rows ≡ fresh
new_after n done old rows e f =
    let some : (n == 0) ≡ false = grind (arith, nat_tests) in
    let next : (n == length rows + 1) ≡ true = eq-eqb n (length rows + 1) (omega arith) in
    λ i. cond (some i) gap (cond (next i) fresh (row_status (slice_get rows (n - 1))))

pub again_after : (n done : ℕ) (old rows : List Row) → 1 ≤ n → n ≤ length old + done → length rows ≡ length old + done → (row : Row) × (verdict n rows ≡ again row)
again_after n done old rows one few f =
    elim (slice_get_cases rows (n - 1)).1 [
      | inl here ↦ (here.0, is_again n rows here.0 one (omega arith) here.2)
      | inr past ↦ absurd (omega (arith, past.0))
    ]
