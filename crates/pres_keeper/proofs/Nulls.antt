-- What a turn makes holds one null.
use Rattle.std.proofs.Common.{◌≡◌, ℕ, Bool, List, [], ◌∷◌, true, false, cond, if◌then◌else◌, Option, Some, unwrap_or, All, ◌++◌, refl, sym, ap, subst, ◌∙◌, ◌+◌, length, length-append, arith}
use Rattle.std.specs.FinMap.Entries.{find}
use Rattle.std.proofs.lemmas.List.Elements.{All-nil, All-push}
use Rattle.pres_tree.specs.declared.scalar.Scalar.{Scalar}
use Rattle.pres_tree.specs.Paths.{Path}
use Rattle.pres_tree.specs.Rows.{Rows, option_of, value_at}
use Rattle.pres_tree.specs.Scalars.{same_rows}
use Rattle.pres_write.specs.declared.op.Op.{Op}
use Rattle.pres_write.specs.declared.op.Op.TheVariants.{Set, Update, Tx}
use Rattle.pres_write.specs.declared.outcome.Outcome.{Outcome}
use Rattle.pres_write.specs.declared.outcome.Outcome.TheVariants.{Wrote, Stale}
use Rattle.pres_write.specs.declared.outcome.Kept.TheVariants as kept
use Rattle.pres_write.specs.Settling.{settled_write}
use Rattle.pres_write.specs.Outcomes.{resolved, kept_of}
use Rattle.pres_write.specs.Transactions.{Comparison}
use Rattle.pres_write.proofs.Held.{one_form}
use Rattle.pres_ids.specs.Ids.{ClientId, client_cmp, same_client}
use Rattle.pres_wire.specs.DownReads.{one_null as kept_null}
use Rattle.pres_retry.specs.declared.table.Row.{Row}
use Rattle.pres_retry.specs.Tables.{Table, row, rows_of, recorded}
use Rattle.pres_log.specs.declared.entry.Batch.{Batch}
use Rattle.pres_log.specs.declared.entry.Entry.{Entry}
use Rattle.pres_log.specs.declared.entry.Entry.TheVariants as entry
use Rattle.pres_log.specs.Logs.{Log, entries}
use Rattle.pres_batch_json.specs.Reads.{one_null, with_one_null}
use Rattle.pres_server.specs.Batches.{Supersedes}
use Rattle.pres_server.specs.InternalParts.{Part}
use Rattle.pres_server.specs.InternalFollows.{MayComeBy, MayComeTogetherBy}
use Rattle.pres_server.specs.Sums.{Sum, nothing, part_in, paths_in, sum_after, sum_after_all, sum_with, sum_from}
use Rattle.pres_server.specs.SumTurns.{FollowsSum, FollowAll}
use Rattle.pres_server.specs.Histories.{History, LeadsTo}
use Rattle.pres_server.specs.InternalIndex.{retry_after}
use Rattle.pres_server.proofs.Keyed.{find_put}
use Rattle.pres_server.proofs.SumServers.{nothing_holds}
use Rattle.pres_server.proofs.Replayed.{batches_from}
use Rattle.pres_keeper.specs.Keepers.{HasOneNull, KeepsOneNull, HoldsBase, number_in}

compared_has : (tree : Rows Scalar) (moment : ℕ) (t : Comparison) (b : Bool)
    → one_null (if b then Wrote (settled_write tree moment (t.path, t.new) ∷ []) else Stale (option_of (value_at t.path tree)))
    ≡ (if b then Wrote (settled_write tree moment (t.path, t.new) ∷ []) else Stale (option_of (value_at t.path tree)))
compared_has tree moment t true = refl
compared_has tree moment t false = ap Stale (sym (one_form (option_of (value_at t.path tree)) (value_at t.path tree) refl))

pub resolved_has : (tree : Rows Scalar) (moment : ℕ) (op : Op) → one_null (resolved tree moment op) ≡ resolved tree moment op
resolved_has tree moment (Set p) = refl
resolved_has tree moment (Update u) = refl
resolved_has tree moment (Tx t) = compared_has tree moment t (same_rows (value_at t.path tree) t.expect)

entry_has : (part : Part) (paths : List Path) (sessions : ℕ) (tree : Rows Scalar) (moment : ℕ) (e : Entry) → MayComeBy part paths sessions tree moment e → with_one_null e ≡ e
entry_has part paths sessions tree moment (entry.Open s) may = refl
entry_has part paths sessions tree moment (entry.Op s q n op outcome) may =
    let is = may.2 in
    ap (λ o. entry.Op s q n op (one_null o)) is ∙ ap (entry.Op s q n op) (resolved_has tree moment op ∙ sym is)
entry_has part paths sessions tree moment (entry.Again s q n) may = refl
entry_has part paths sessions tree moment (entry.Left s q puts) may = refl
entry_has part paths sessions tree moment (entry.Cancelled s q path) may = refl
entry_has part paths sessions tree moment (entry.Denied s q why) may = refl
entry_has part paths sessions tree moment (entry.On s q path) may = refl
entry_has part paths sessions tree moment (entry.Off s q path) may = refl
entry_has part paths sessions tree moment (entry.Ended s q why rows) may = refl

-- a newer session that is opened writes nothing
opened_has : (e f : Entry) → Supersedes e f → with_one_null f ≡ f
opened_has (entry.Ended s q why rows) (entry.Open t) h = refl
opened_has (entry.Ended s q why rows) (entry.Op t r n op outcome) h = absurd h
opened_has (entry.Ended s q why rows) (entry.Again t r n) h = absurd h
opened_has (entry.Ended s q why rows) (entry.Left t r puts) h = absurd h
opened_has (entry.Ended s q why rows) (entry.Cancelled t r path) h = absurd h
opened_has (entry.Ended s q why rows) (entry.Denied t r v) h = absurd h
opened_has (entry.Ended s q why rows) (entry.On t r path) h = absurd h
opened_has (entry.Ended s q why rows) (entry.Off t r path) h = absurd h
opened_has (entry.Ended s q why rows) (entry.Ended t r v more) h = absurd h
opened_has (entry.Open s) f h = absurd h
opened_has (entry.Op s q n op outcome) f h = absurd h
opened_has (entry.Again s q n) f h = absurd h
opened_has (entry.Left s q puts) f h = absurd h
opened_has (entry.Cancelled s q path) f h = absurd h
opened_has (entry.Denied s q why) f h = absurd h
opened_has (entry.On s q path) f h = absurd h
opened_has (entry.Off s q path) f h = absurd h

together_has : (sum : Sum) (moment : ℕ) (es : List Entry) → MayComeTogetherBy (part_in sum) (paths_in sum) (length sum.sessions) sum.tree moment es → HasOneNull es
together_has sum moment [] may = absurd may
together_has sum moment (e ∷ []) may = ap (λ x. x ∷ []) (entry_has _ _ _ sum.tree moment e may.1)
together_has sum moment (e ∷ f ∷ []) may = λ i. entry_has _ _ _ sum.tree moment e may.2 i ∷ opened_has e f may.0 i ∷ []
together_has sum moment (e ∷ f ∷ g ∷ es) may = absurd may

-- a batch that may follow
pub follower_has : (sum : Sum) (b : Batch) → FollowsSum sum b → HasOneNull b.entries
follower_has sum b follows = together_has sum b.moment b.entries follows.allowed

-- ---- numbers

number_after : (es : List Entry) (sum : Sum) → (sum_after_all es sum).number ≡ sum.number + length es
number_after [] sum = let none : sum.number ≡ sum.number + 0 = omega arith in none
number_after (e ∷ es) sum = let rest = number_after es (sum_after e sum) in omega arith

-- the number of entries of a log that leads to the sum
pub number_from : (log : Log) (sum : Sum) → (sum_from sum log).number ≡ sum.number + length (entries log)
number_from [] sum = let none : sum.number ≡ sum.number + 0 = omega arith in none
number_from (b ∷ log) sum =
    let first = number_after b.entries sum in
    let rest = number_from log (sum_with sum b) in
    let both = length-append b.entries (entries log) in
    omega arith

pub number_made : (history : History) (sum : Sum) → LeadsTo history sum → sum.number ≡ number_in history
number_made history sum makes =
    let there = ap (λ (s : Sum). s.number) makes.there in
    let from = number_from history.log history.base in
    omega (arith, there, from)

-- the number of batches
pub batches_made : (history : History) (sum : Sum) → LeadsTo history sum → sum.batches ≡ history.base.batches + length history.log
batches_made history sum makes =
    let there = ap (λ (s : Sum). s.batches) makes.there in
    let from = batches_from history.base history.log in
    omega (arith, there, from)

-- ---- kept answers

abbrev RowHas : Row → Type 0
RowHas r = kept_null r.kept ≡ r.kept

abbrev TableHas : Table → Type 0
TableHas table = (client : ClientId) → All RowHas (rows_of client table)

abbrev held_in : Option (Rows Scalar) → Outcome → Option (Rows Scalar)
held_in d (Stale held) = held
held_in d (Wrote writes) = d

kept_has : (o : Outcome) → one_null o ≡ o → kept_null (kept_of o) ≡ kept_of o
kept_has (Wrote writes) h = refl
kept_has (Stale held) h = ap kept.Stale (ap (held_in held) h)

recorded_has : (table : Table) (c : ClientId) (n : ℕ) (r : Row) → RowHas r → TableHas table → TableHas (recorded c n r table)
recorded_has table c n r has all q = subst (λ o. All RowHas (unwrap_or o [])) (sym (find_put c (rows_of c table ++ r ∷ []) table q)) (by (same_client c q)) where
  by : (b : Bool) → All RowHas (unwrap_or (cond b (Some (rows_of c table ++ r ∷ [])) (find client_cmp q table)) [])
  by true = All-push RowHas (rows_of c table) r (all c) has
  by false = all q

abbrev outcome_in : Outcome → Entry → Outcome
outcome_in d (entry.Op s q n op outcome) = outcome
outcome_in d e = d

-- after an entry that has one null
entry_keeps : (z : ℕ) (e : Entry) (table : Table) → with_one_null e ≡ e → TableHas table → TableHas (retry_after z e table)
entry_keeps z (entry.Op s q n op outcome) table h all = recorded_has table s.client n (row z (kept_of outcome)) (kept_has outcome (ap (outcome_in outcome) h)) all
entry_keeps z (entry.Open s) table h all = all
entry_keeps z (entry.Again s q n) table h all = all
entry_keeps z (entry.Left s q puts) table h all = all
entry_keeps z (entry.Cancelled s q path) table h all = all
entry_keeps z (entry.Denied s q why) table h all = all
entry_keeps z (entry.On s q path) table h all = all
entry_keeps z (entry.Off s q path) table h all = all
entry_keeps z (entry.Ended s q why rows) table h all = all

abbrev first_or : Entry → List Entry → Entry
first_or d [] = d
first_or d (e ∷ es) = e

abbrev rest_of : List Entry → List Entry
rest_of [] = []
rest_of (e ∷ es) = es

nulls_after : (es : List Entry) (sum : Sum) → HasOneNull es → KeepsOneNull sum → KeepsOneNull (sum_after_all es sum)
nulls_after [] sum h all = all
nulls_after (e ∷ es) sum h all = nulls_after es (sum_after e sum) (ap rest_of h) (entry_keeps (sum.number + 1) e sum.rows (ap (first_or e) h) all)

-- after a batch that may follow, and after several
pub nulls_with : (sum : Sum) (b : Batch) → FollowsSum sum b → KeepsOneNull sum → KeepsOneNull (sum_with sum b)
nulls_with sum b follows all = nulls_after b.entries sum (follower_has sum b follows) all

pub nulls_from : (log : Log) (sum : Sum) → FollowAll sum log → KeepsOneNull sum → KeepsOneNull (sum_from sum log)
nulls_from [] sum follow all = all
nulls_from (b ∷ log) sum follow all = nulls_from log (sum_with sum b) follow.1 (nulls_with sum b follow.0 all)

-- of nothing
pub nulls_nothing : KeepsOneNull nothing
nulls_nothing q = All-nil RowHas

pub nothing_base : HoldsBase nothing
nothing_base = record { sum = nothing_holds; nulls = nulls_nothing }
