-- What a sum says after batches of operations, and what the next operation makes there.
use Rattle.std.proofs.Common.{refl, sym, ◌∙◌, ap, subst, ◌≡◌, ℕ, ◌+◌, ◌≤◌, List, [], ◌∷◌, ◌++◌, length, length-append, Bool, true, false, cond, arith, Option, Some, None, unwrap_or}
use Rattle.std.specs.Option.{option_map}
use Rattle.std.specs.FinMap.Entries.{find}
use Rattle.pres_write.specs.Basics.{applied}
use Rattle.pres_write.specs.declared.op.Op.{Op}
use Rattle.pres_ids.specs.declared.id.SessionId.{SessionId}
use Rattle.pres_ids.specs.Ids.{ClientId, client_cmp, same_client}
use Rattle.pres_plan.specs.declared.row.PlanRow.{PlanRow}
use Rattle.pres_retry.specs.declared.table.Row.{Row}
use Rattle.pres_retry.specs.Tables.{Table, rows_of, recorded}
use Rattle.pres_retry.specs.Verdicts.{verdict}
use Rattle.pres_wire.specs.declared.up.Up.TheVariants as up
use Rattle.pres_log.specs.declared.entry.Batch.{Batch}
use Rattle.pres_log.specs.declared.entry.Entry.{Entry}
use Rattle.pres_log.specs.declared.entry.Entry.TheVariants as entry
use Rattle.pres_log.specs.Logs.{Log}
use Rattle.pres_server.specs.declared.ahead.OpEffect.{OpEffect}
use Rattle.pres_server.specs.declared.index.Index.{Index}
use Rattle.pres_server.specs.declared.input.Input.TheVariants as input
use Rattle.pres_server.specs.declared.turn.TurnTime.{TurnTime}
use Rattle.pres_server.specs.ServerStates.{Heard}
use Rattle.pres_server.specs.Turns.{makes, op_by}
use Rattle.pres_server.specs.InternalParts.{LivePart, Part, plan_after, open_steps, said_by, limited_by}
use Rattle.pres_server.specs.InternalIndex.{part_at}
use Rattle.pres_server.specs.InternalSessions.{open_count}
use Rattle.pres_server.specs.Sums.{Sum, OpenSession, OpenSessions, live_of, part_in, changed, answered, carried, sum_after, sum_after_all, sum_with, sum_from}
use Rattle.pres_server.specs.SumStates.{SumState}
use Rattle.pres_server.specs.SumTurns.{FollowsSum, FollowAll, moment_by, turn_by, batch_by, after_commit}
use Rattle.pres_server.specs.Histories.{IsSum, Keeps}
use Rattle.pres_server.specs.Groups.{state_from, MakesBatch}
use Rattle.pres_server.specs.InternalGroups.{IsOfOp, IsOneOp, AreOps, once, said_in, done_in, written_in, said_of, done_of, tree_from, further, IsFurther, IsGroup, entry_by, IsEffectAfter}
use Rattle.pres_server.proofs.Clients.{client_same}
use Rattle.pres_server.proofs.Keyed.{find_put, find_changed}
use Rattle.pres_server.proofs.Touching.{part_carried}
use Rattle.pres_server.proofs.KeptSums.{after_all, enters, sum_holds}
use Rattle.pres_server.proofs.Replayed.{sum_push, follow_more}
use Rattle.pres_server.proofs.SumServers.{here, part_is, open_counted}
use Rattle.pres_server.proofs.Turning.{turn_follows}

-- ---- further by this much, and then by so much

no_further : (o : Option LivePart) → o ≡ option_map (further 0) o
no_further None = refl
no_further (Some l) = let k : l.count ≡ l.count + 0 = omega arith in ap (λ (n : ℕ). Some (record { stamp = l.stamp; count = n; plan = l.plan })) k

further_more : (a b : ℕ) (o : Option LivePart) → option_map (further b) (option_map (further a) o) ≡ option_map (further (a + b)) o
further_more a b None = refl
further_more a b (Some l) = let k : l.count + a + b ≡ l.count + (a + b) = omega arith in ap (λ (n : ℕ). Some (record { stamp = l.stamp; count = n; plan = l.plan })) k

further_then : (a b c d : ℕ) (p q r : Part) → IsFurther a b p q → IsFurther c d q r → IsFurther (a + c) (b + d) p r
further_then a b c d p q r f g =
    let first = f.rows in
    let more = g.rows in
    record { live = g.live ∙ ap (option_map (further c)) f.live ∙ further_more a c p.live; rows = omega arith }

-- ---- one operation

live_once : (k c : ClientId) (e : Entry) (sessions : OpenSessions) → ((rows : List PlanRow) → plan_after e rows ≡ rows)
    → option_map live_of (find client_cmp c (changed k (answered e) sessions)) ≡ option_map (further (once k c)) (option_map live_of (find client_cmp c sessions))
live_once k c e sessions same = ap (option_map live_of) (find_changed k (answered e) sessions c) ∙ by (same_client k c) (find client_cmp c sessions) where
  by : (b : Bool) (o : Option OpenSession) → option_map live_of (cond b (option_map (answered e) o) o) ≡ option_map (further (cond b 1 0)) (option_map live_of o)
  by true None = refl
  by true (Some x) = ap (λ (plan : List PlanRow). Some (record { stamp = x.stamp; count = x.count + 1; plan = plan })) (same x.plan)
  by false o = no_further (option_map live_of o)

rows_once : (k c : ClientId) (n : ℕ) (r : Row) (table : Table) → length (rows_of c (recorded k n r table)) ≡ length (rows_of c table) + once k c
rows_once k c n r table = ap (λ o. length (unwrap_or o [])) (find_put k (rows_of k table ++ r ∷ []) table c) ∙ by (same_client k c) refl where
  by : (b : Bool) → same_client k c ≡ b → length (unwrap_or (cond b (Some (rows_of k table ++ r ∷ [])) (find client_cmp c table)) []) ≡ length (rows_of c table) + cond b 1 0
  by true h = length-append (rows_of k table) (r ∷ []) ∙ ap (λ x. length (rows_of x table) + 1) (client_same k c h)
  by false h = let same : length (rows_of c table) ≡ length (rows_of c table) + 0 = omega arith in same

further_entry : (e : Entry) (sum : Sum) → Keeps sum → IsOfOp e → (c : ClientId) → IsFurther (said_in c (e ∷ [])) (done_in c (e ∷ [])) (part_in sum c) (part_in (sum_after e sum) c)
further_entry (entry.Op s q n op outcome) sum k h c =
    let e = entry.Op s q n op outcome in
    record {
      live = live_once s.client c e (carried e sum).sessions (λ _. refl) ∙ ap (λ (p : Part). option_map (further (once s.client c)) p.live) (part_carried e sum k c);
      rows = rows_once s.client c n _ sum.rows;
    }
further_entry (entry.Again s q n) sum k h c =
    let e = entry.Again s q n in
    record {
      live = live_once s.client c e (carried e sum).sessions (λ _. refl) ∙ ap (λ (p : Part). option_map (further (once s.client c)) p.live) (part_carried e sum k c);
      rows = omega arith;
    }
further_entry (entry.Open s) sum k h c = absurd h
further_entry (entry.Left s q puts) sum k h c = absurd h
further_entry (entry.Cancelled s q path) sum k h c = absurd h
further_entry (entry.Denied s q why) sum k h c = absurd h
further_entry (entry.On s q path) sum k h c = absurd h
further_entry (entry.Off s q path) sum k h c = absurd h
further_entry (entry.Ended s q why rows) sum k h c = absurd h

further_batch : (es : List Entry) (sum : Sum) → Keeps sum → IsOneOp es → (c : ClientId) → IsFurther (said_in c es) (done_in c es) (part_in sum c) (part_in (sum_after_all es sum) c)
further_batch [] sum k h c = absurd h
further_batch (e ∷ []) sum k h c = further_entry e sum k h c
further_batch (e ∷ f ∷ es) sum k h c = absurd h

tree_batch : (es : List Entry) (sum : Sum) → IsOneOp es → (sum_after_all es sum).tree ≡ applied sum.tree (written_in es)
tree_batch [] sum h = absurd h
tree_batch (e ∷ []) sum h = refl
tree_batch (e ∷ f ∷ es) sum h = absurd h

-- it is one entry, and opens and ends nothing
one_entry : (es : List Entry) → IsOneOp es → length es ≡ 1
one_entry [] h = absurd h
one_entry (e ∷ []) h = refl
one_entry (e ∷ f ∷ es) h = absurd h

opens_none : (es : List Entry) (n : ℕ) → IsOneOp es → open_steps es n ≡ n
opens_none [] n h = absurd h
opens_none (entry.Op s q m op outcome ∷ []) n h = refl
opens_none (entry.Again s q m ∷ []) n h = refl
opens_none (entry.Open s ∷ []) n h = absurd h
opens_none (entry.Left s q puts ∷ []) n h = absurd h
opens_none (entry.Cancelled s q path ∷ []) n h = absurd h
opens_none (entry.Denied s q why ∷ []) n h = absurd h
opens_none (entry.On s q path ∷ []) n h = absurd h
opens_none (entry.Off s q path ∷ []) n h = absurd h
opens_none (entry.Ended s q why rows ∷ []) n h = absurd h
opens_none (e ∷ f ∷ es) n h = absurd h

-- ---- several batches

-- what is so of the sum after them
pub record IsAhead (sum : Sum) (batches : Log) (new : Sum) : Type 0 where
  pub holds : IsSum new
  pub parts : (c : ClientId) → IsFurther (said_of c batches) (done_of c batches) (part_in sum c) (part_in new c)
  pub number : new.number ≡ sum.number + length batches
  pub sessions : length new.sessions ≡ length sum.sessions
  pub tree : new.tree ≡ tree_from sum.tree batches

pub ahead : (batches : Log) (sum : Sum) → IsSum sum → FollowAll sum batches → AreOps batches → IsAhead sum batches (sum_from sum batches)
ahead [] sum k f o = record {
  holds = k;
  parts = λ c. record { live = no_further (part_in sum c).live; rows = omega arith };
  number = omega arith;
  sessions = refl;
  tree = refl;
}
ahead (b ∷ batches) sum k f o =
    let next = sum_with sum b in
    let after = after_all b.entries sum b.moment k.keeps (enters sum b.moment b.entries f.0.allowed) in
    let rest = ahead batches next (sum_holds sum b k f.0) f.1 o.1 in
    let number = after.number in
    let later = rest.number in
    let one = one_entry b.entries o.0 in
    record {
      holds = rest.holds;
      parts = λ c. further_then _ _ _ _ (part_in sum c) (part_in next c) (part_in (sum_from next batches) c) (further_batch b.entries sum k.keeps o.0 c) (rest.parts c);
      number = omega arith;
      sessions = rest.sessions ∙ after.counted ∙ opens_none b.entries (length sum.sessions) o.0;
      tree = rest.tree ∙ ap (λ t. tree_from t batches) (tree_batch b.entries sum o.0);
    }

pub state_sum : (log : Log) (state : SumState) → (state_from state log).sum ≡ sum_from state.sum log
state_sum [] state = refl
state_sum (b ∷ log) state = state_sum log (after_commit state b.moment b.entries)

ops_more : (log : Log) (b : Batch) → AreOps log → IsOneOp b.entries → AreOps (log ++ b ∷ [])
ops_more [] b o h = (h, tt)
ops_more (a ∷ log) b o h = (o.0, ops_more log b o.1 h)

pub all_hold : (log : Log) (sum : Sum) → IsSum sum → FollowAll sum log → IsSum (sum_from sum log)
all_hold [] sum k f = k
all_hold (b ∷ log) sum k f = all_hold log (sum_with sum b) (sum_holds sum b k f.0) f.1

-- ---- the next one

-- what an input makes on the server after them may follow them
pub made_follows : (state : SumState) (log : Log) (i : _) (now : ℕ) (b : Batch) → IsSum state.sum → FollowAll state.sum log → MakesBatch (state_from state log) i now b → FollowsSum (sum_from state.sum log) b
made_follows state log i now b k f made =
    let there = state_sum log state in
    let holds : IsSum (state_from state log).sum = subst IsSum (sym there) (all_hold log state.sum k f) in
    subst (λ s. FollowsSum s b) there
    (subst (FollowsSum (state_from state log).sum) (sym made.is) (turn_follows (state_from state log) i now holds b.entries made.turn))

-- and waits with them
pub group_more : (state : SumState) (log : Log) (m : ℕ) (i : _) (now : ℕ) (b : Batch) → IsSum state.sum → IsGroup state.sum log m → length log + 1 ≤ 256 → MakesBatch (state_from state log) i now b → IsOneOp b.entries
    → IsGroup state.sum (log ++ b ∷ []) b.moment
group_more state log m i now b k g few made h =
    let n = length-append log (b ∷ []) in
    record {
      follow = follow_more log state.sum b g.follow (made_follows state log i now b k g.follow made);
      ops = ops_more log b g.ops h;
      greatest = sym (ap (λ (s : Sum). s.moment) (sum_push state.sum log b));
      few = omega arith;
    }

module _ (batches moment number : ℕ) (index : Index) (log : Log) (heard : Heard) where
  -- what the index decides of an operation after them is the turn
  pub effect_turn : IsSum (here batches moment number index) → FollowAll (here batches moment number index) log → AreOps log → (s : SessionId) (q n : ℕ) (op : Op) (now : ℕ) (time : TurnTime) (made : OpEffect)
      → time.number ≡ number + length log → time.moment ≡ moment_by (sum_from (here batches moment number index) log) now → IsEffectAfter index log s q n op time made
      → turn_by (state_from (record { sum = here batches moment number index; heard = heard }) log) (input.Up (up.Op s q n op)) now ≡ makes (entry_by made s q n op ∷ [])
  effect_turn k f o s q n op now time made en em effect =
      let sum = here batches moment number index in
      let a = ahead log sum k f o in
      let new = sum_from sum log in
      let part = part_in new s.client in
      let done : IsFurther (said_of s.client log) (done_of s.client log) (part_at index s.client) part =
      subst (λ p. IsFurther (said_of s.client log) (done_of s.client log) p part) (part_is batches moment number index s.client) (a.parts s.client) in
      let count : length new.sessions ≡ open_count index.places = a.sessions ∙ open_counted batches moment number index in
      let size : new.number ≡ time.number = a.number ∙ sym en in
      ap (λ (x : Sum). limited_by x.number (length x.sessions) (said_by (part_in x s.client).live s q (op_by (verdict n (part_in x s.client).rows) x.tree (moment_by x now) s q n op)))
      (state_sum log (record { sum = sum; heard = heard }))
      ∙ (λ i. limited_by (size i) (count i) (said_by part.live s q (op_by (verdict n part.rows) (a.tree i) (sym em i) s q n op)))
      ∙ effect part done
