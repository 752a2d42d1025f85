-- What a turn makes, by the sum, may follow.
use Rattle.std.proofs.Common.{refl, sym, ◌∙◌, ap, subst, ◌≡◌, ◌≢◌, ℕ, ◌+◌, ◌-◌, ◌^◌, ◌≤◌, List, [], ◌∷◌, ◌++◌, map, length, Bool, true, false, cond, ◌==◌, nat_lt, nat_le, arith, IsTrue, Option, Some, None, slice_get, unwrap_or}
use Rattle.std.proofs.lemmas.Bool.{eqb-true, and_from, eq-eqb}
use Rattle.std.proofs.lemmas.Bool.Decides.{nat_tests}
use Rattle.std.proofs.lemmas.Option.{slice_get_past}
use Rattle.pres_tree.specs.Paths.{Path}
use Rattle.pres_write.specs.declared.op.Op.{Op}
use Rattle.pres_write.specs.Unconditionals.{puts_of}
use Rattle.pres_ids.specs.declared.id.SessionId.{SessionId}
use Rattle.pres_ids.specs.declared.id.Why.{Why}
use Rattle.pres_ids.specs.declared.id.Why.TheVariants as why
use Rattle.pres_ids.specs.Ids.{ClientId, stamp_of}
use Rattle.pres_wire.specs.declared.up.Up.{Up}
use Rattle.pres_wire.specs.declared.up.Up.TheVariants as up
use Rattle.pres_wire.specs.declared.down.Limit.TheVariants as limit
use Rattle.pres_wire.specs.Messages.{session_in}
use Rattle.pres_retry.specs.declared.table.Row.{Row}
use Rattle.pres_retry.specs.Verdicts.{fresh, gap, verdict, row_status}
use Rattle.pres_plan.specs.Plans.{most_rows, due}
use Rattle.pres_fan.specs.Listeners.{most_paths}
use Rattle.pres_log.specs.declared.entry.Entry.{Entry}
use Rattle.pres_log.specs.declared.entry.Entry.TheVariants as entry
use Rattle.pres_log.specs.declared.fault.Fault.TheVariants as fault
use Rattle.pres_ids.specs.declared.id.Stamp.{Stamp}
use Rattle.pres_server.specs.declared.input.Input.{Input}
use Rattle.pres_server.specs.declared.input.Input.TheVariants as input
use Rattle.pres_server.specs.Sessions.{session_of}
use Rattle.pres_server.specs.Batches.{IsPlain, Supersedes}
use Rattle.pres_server.specs.ServerStates.{Heard, late_client}
use Rattle.pres_server.specs.Turns.{Decision, refused, quiet, makes, op_by, within_rows, within_paths}
use Rattle.pres_server.specs.InternalParts.{LivePart, comes_after, same_stamp, is_live, session_with, listed, said_by, plan_in, end_by, hello_by, message_by, ends_live, ends_of, ends_late_by, wanted_by, open_step, open_steps, limited_by}
use Rattle.pres_server.specs.InternalFollows.{IsNextIn, IsNextBy, IsEndNumberBy, MayComeBy, IsNewerBy, MayComeTogetherBy}
use Rattle.pres_server.specs.Sums.{Sum, part_in, paths_in}
use Rattle.pres_server.specs.SumStates.{SumState}
use Rattle.pres_server.specs.SumTurns.{FollowsSum, moment_by, turn_by, batch_by}
use Rattle.pres_server.specs.Histories.{IsSum}
use Rattle.pres_server.specs.InternalSums.{MayEnter}
use Rattle.pres_server.proofs.KeptSums.{pair_of, next_open}

-- a number that isn't 0
pub from_one : (n : ℕ) → (n == 0) ≡ false → 1 ≤ n
from_one n h = grind (arith, nat_tests)

pub stamp_itself : (s : Stamp) → same_stamp s s ≡ true
stamp_itself s = and_from _ _ (eq-eqb s.incarnation s.incarnation refl) (eq-eqb s.attempt s.attempt refl)

-- ---- what is asked for may come, but for the limits

-- the opening of a session that is newer than its client's last one
abbrev IsNewer : Sum → Entry → Type 0
IsNewer sum (entry.Open t) = IsTrue (comes_after (part_in sum t.client).last (stamp_of t))
IsNewer sum _ = ⊥

abbrev Together : Sum → ℕ → List Entry → Type 0
Together sum m (e ∷ []) = IsPlain e × MayEnter sum m e
Together sum m (e ∷ f ∷ []) = Supersedes e f × IsNewer sum f × MayEnter sum m e
Together sum m _ = ⊥

abbrev Allowed : Sum → ℕ → Decision → Type 0
Allowed sum m (makes xs) = Together sum m xs
Allowed sum m other = Unit {0}

module _ (sum : Sum) (m : ℕ) where
  -- the end of the client's open session
  end_enters : (c : ClientId) (l : LivePart) (q : Option ℕ) (w : Why) → (part_in sum c).live ≡ Some l → IsEndNumberBy (part_in sum c).live (session_with c l.stamp) q w → MayEnter sum m (end_by (Some l) sum.tree m q w (session_with c l.stamp))
  end_enters c l q w k number = (ap (λ x. is_live x (stamp_of (session_with c l.stamp))) k ∙ stamp_itself l.stamp, number, ap (λ x. due sum.tree m (plan_in x)) (sym k))

  hello_allowed : (s : SessionId) → Allowed sum m (hello_by (part_in sum s.client) sum.tree m s)
  hello_allowed s = by (comes_after (part_in sum s.client).last (stamp_of s)) refl where
    opened : IsTrue (comes_after (part_in sum s.client).last (stamp_of s)) → (l : Option LivePart) → (part_in sum s.client).live ≡ l
        → Together sum m (map (end_by l sum.tree m None why.Superseded) (listed s.client l) ++ entry.Open s ∷ [])
    opened new None k = (tt, (new, k))
    opened new (Some l) k = ((refl, refl), new, end_enters s.client l None why.Superseded k refl)

    by : (b : Bool) → comes_after (part_in sum s.client).last (stamp_of s) ≡ b
        → Allowed sum m (cond b (makes (map (end_by (part_in sum s.client).live sum.tree m None why.Superseded) (listed s.client (part_in sum s.client).live) ++ entry.Open s ∷ [])) (refused (fault.Old (unwrap_or (part_in sum s.client).last (stamp_of s)))))
    by true new = opened new (part_in sum s.client).live refl
    by false new = tt

  -- what the next message of an open session asks for
  said_allowed : (l : Option LivePart) (s : SessionId) (q : ℕ) (d : Decision) → (IsNextBy l s q → Allowed sum m d) → Allowed sum m (said_by l s q d)
  said_allowed None s q d h = tt
  said_allowed (Some l) s q d h = by (same_stamp (stamp_of s) l.stamp) refl where
    next : same_stamp (stamp_of s) l.stamp ≡ true → (b : Bool) → (q == l.count + 1) ≡ b → Allowed sum m (cond b d (refused fault.Order))
    next k true e = h (subst (λ b. IsNextIn (cond b (Some l.count) None) q) (sym k) (eqb-true q (l.count + 1) e))
    next k false e = tt

    late : same_stamp (stamp_of s) l.stamp ≡ true → (b : Bool) → Allowed sum m (cond b quiet (cond (q == l.count + 1) d (refused fault.Order)))
    late k true = tt
    late k false = next k (q == l.count + 1) refl

    by : (b : Bool) → same_stamp (stamp_of s) l.stamp ≡ b → Allowed sum m (cond b (cond (nat_le q l.count) quiet (cond (q == l.count + 1) d (refused fault.Order))) (refused fault.Session))
    by true k = late k (nat_le q l.count)
    by false k = tt

  -- a write that has a row was made
  within_written : (n : ℕ) (rows : List Row) (row : Row) → (n == 0) ≡ false → slice_get rows (n - 1) ≡ Some row → n ≤ length rows
  within_written n rows row z here = by (nat_lt (length rows) n) refl where
    past : nat_lt (length rows) n ≡ true → length rows ≤ n - 1
    past h = grind (arith, nat_tests)

    high : nat_lt (length rows) n ≡ false → n ≤ length rows
    high h = grind (arith, nat_tests)

    by : (b : Bool) → nat_lt (length rows) n ≡ b → n ≤ length rows
    by true h = let none = slice_get_past rows (n - 1) (past h) in absurd (cc)
    by false h = high h

  op_allowed : (s : SessionId) (q n : ℕ) (op : Op) → IsNextBy (part_in sum s.client).live s q → Allowed sum m (op_by (verdict n (part_in sum s.client).rows) sum.tree m s q n op)
  op_allowed s q n op next = zero (n == 0) refl where
    rows : List Row
    rows = (part_in sum s.client).rows

    again : (n == 0) ≡ false → (o : Option Row) → slice_get rows (n - 1) ≡ o → Allowed sum m (op_by (row_status o) sum.tree m s q n op)
    again z None here = tt
    again z (Some row) here = (tt, (next, from_one n z, within_written n rows row z here))

    new : (n == 0) ≡ false → (b : Bool) → (n == length rows + 1) ≡ b → Allowed sum m (op_by (cond b fresh (row_status (slice_get rows (n - 1)))) sum.tree m s q n op)
    new z true e = (tt, (next, eqb-true n (length rows + 1) e, refl))
    new z false e = again z (slice_get rows (n - 1)) refl

    zero : (b : Bool) → (n == 0) ≡ b → Allowed sum m (op_by (cond b gap (cond (n == length rows + 1) fresh (row_status (slice_get rows (n - 1))))) sum.tree m s q n op)
    zero true z = tt
    zero false z = new z (n == length rows + 1) refl

  -- an action that is left, or denied
  rows_allowed : (n : ℕ) (e : Entry) (s : SessionId) (q : ℕ) → IsNextBy (part_in sum s.client).live s q → IsPlain e → (n ≤ most_rows → MayEnter sum m e) → Allowed sum m (within_rows n e s q)
  rows_allowed n e s q next plain h = by (nat_le n most_rows) refl where
    few : nat_le n most_rows ≡ true → n ≤ most_rows
    few b = grind (arith, nat_tests)

    by : (b : Bool) → nat_le n most_rows ≡ b → Allowed sum m (makes (cond b e (entry.Denied s q limit.Plan) ∷ []))
    by true b = (plain, h (few b))
    by false b = (tt, next)

  -- an On, or its denial
  paths_allowed : (n : ℕ) (s : SessionId) (q : ℕ) (path : Path) → IsNextBy (part_in sum s.client).live s q → (n ≤ most_paths → MayEnter sum m (entry.On s q path)) → Allowed sum m (within_paths n s q path)
  paths_allowed n s q path next h = by (nat_le n most_paths) refl where
    few : nat_le n most_paths ≡ true → n ≤ most_paths
    few b = grind (arith, nat_tests)

    by : (b : Bool) → nat_le n most_paths ≡ b → Allowed sum m (makes (cond b (entry.On s q path) (entry.Denied s q limit.Listens) ∷ []))
    by true b = (tt, h (few b))
    by false b = (tt, next)

  beat_allowed : (b : Bool) → Allowed sum m (cond b quiet (refused fault.Session))
  beat_allowed true = tt
  beat_allowed false = tt

  message_allowed : (u : Up) → Allowed sum m (message_by (part_in sum (session_in u).client) (paths_in sum (session_in u)) sum.tree m u)
  message_allowed (up.Hello s) = hello_allowed s
  message_allowed (up.Op s q n op) = said_allowed (part_in sum s.client).live s q _ (op_allowed s q n op)
  message_allowed (up.Left s q op) = said_allowed (part_in sum s.client).live s q _ (λ next. rows_allowed _ (entry.Left s q (puts_of op)) s q next tt (λ few. (next, few)))
  message_allowed (up.Cancel s q path) = said_allowed (part_in sum s.client).live s q _ (λ next. rows_allowed _ (entry.Cancelled s q path) s q next tt (λ few. (next, few)))
  message_allowed (up.On s q path) = said_allowed (part_in sum s.client).live s q _ (λ next. paths_allowed _ s q path next (λ few. (next, few)))
  message_allowed (up.Off s q path) = said_allowed (part_in sum s.client).live s q _ (λ next. (tt, next))
  message_allowed (up.Bye s q) = said_allowed (part_in sum s.client).live s q _ (λ next. ((λ e. absurd (cc)), (next_open s q (part_in sum s.client).live next, next, refl)))
  message_allowed (up.Beat s) = beat_allowed (is_live (part_in sum s.client).live (stamp_of s))

  ends_allowed : (w : Why) (s : SessionId) → w ≢ why.Superseded → IsEndNumberBy (part_in sum s.client).live s None w → Allowed sum m (ends_live (part_in sum s.client).live sum.tree m w s)
  ends_allowed w s plain number = by (is_live (part_in sum s.client).live (stamp_of s)) refl where
    by : (b : Bool) → is_live (part_in sum s.client).live (stamp_of s) ≡ b → Allowed sum m (cond b (makes (end_by (part_in sum s.client).live sum.tree m None w s ∷ [])) quiet)
    by true o = (plain, (o, number, refl))
    by false o = tt

  open_allowed : (w : Why) (c : ClientId) → w ≢ why.Superseded → ((s : SessionId) → IsEndNumberBy (part_in sum c).live s None w) → Allowed sum m (ends_of (part_in sum c).live sum.tree m w c)
  open_allowed w c plain number = by (part_in sum c).live refl where
    by : (l : Option LivePart) → (part_in sum c).live ≡ l → Allowed sum m (ends_of l sum.tree m w c)
    by None k = tt
    by (Some l) k = (plain, end_enters c l None w k (number (session_with c l.stamp)))

  late_allowed : (o : Option ClientId) → Allowed sum m (ends_late_by (part_in sum) sum.tree m o)
  late_allowed None = tt
  late_allowed (Some c) = open_allowed why.Lease c (λ e. absurd (cc)) (λ s. refl)

  wanted_allowed : (heard : Heard) (i : Input) → Allowed sum m (wanted_by (part_in sum) (paths_in sum) heard sum.tree m i)
  wanted_allowed heard (input.Up u) = message_allowed u
  wanted_allowed heard (input.Lost s) = ends_allowed why.Lost s (λ e. absurd (cc)) refl
  wanted_allowed heard (input.Slow s) = ends_allowed why.Slow s (λ e. absurd (cc)) refl
  wanted_allowed heard (input.Restart c) = open_allowed why.Restart c (λ e. absurd (cc)) (λ s. refl)
  wanted_allowed heard input.Tick = late_allowed (late_client m heard)

  -- ---- within the limits

  comes : (e : Entry) → MayEnter sum m e → open_step e (length sum.sessions) ≤ 1024 → MayComeBy (part_in sum (session_of e).client) (paths_in sum (session_of e)) (length sum.sessions) sum.tree m e
  comes (entry.Open s) f few = (f.0, f.1, few)
  comes (entry.Op s q n op outcome) f few = f
  comes (entry.Again s q n) f few = f
  comes (entry.Left s q puts) f few = f
  comes (entry.Cancelled s q path) f few = f
  comes (entry.Denied s q w) f few = f
  comes (entry.On s q path) f few = f
  comes (entry.Off s q path) f few = f
  comes (entry.Ended s q w rows) f few = f

  less : (n : ℕ) → n ≤ 1024 → n - 1 ≤ 1024
  less n h = omega arith

  come_together : (xs : List Entry) → length sum.sessions ≤ 1024 → Together sum m xs → open_steps xs (length sum.sessions) ≤ 1024 → MayComeTogetherBy (part_in sum) (paths_in sum) (length sum.sessions) sum.tree m xs
  come_together [] all h few = absurd h
  come_together (e ∷ []) all h few = (h.0, comes e h.1 few)
  come_together (e ∷ f ∷ []) all h few =
      let p = pair_of e f h.0 in
      let newer : IsTrue (comes_after (part_in sum p.opened.client).last (stamp_of p.opened)) = subst (IsNewer sum) p.second h.1 in (
        h.0,
        subst (IsNewerBy (part_in sum) (length sum.sessions)) (sym p.second) (newer, all),
        comes e h.2 (subst (λ x. open_step x (length sum.sessions) ≤ 1024) (sym p.first) (less (length sum.sessions) all)),
      )
  come_together (e ∷ f ∷ g ∷ more) all h few = absurd h

  -- what is made, where that is so
  abbrev made : Decision → List Entry
  made (makes es) = es
  made other = []

  abbrev Fits : List Entry → Type 0
  Fits es = MayComeTogetherBy (part_in sum) (paths_in sum) (length sum.sessions) sum.tree m es × (sum.number + length es + open_steps es (length sum.sessions) ≤ 2 ^ 52 - 1)

  limited_fits : (d : Decision) (es : List Entry) → length sum.sessions ≤ 1024 → Allowed sum m d → limited_by sum.number (length sum.sessions) d ≡ makes es → Fits es
  limited_fits quiet es all h k = absurd (cc)
  limited_fits (refused f) es all h k = absurd (cc)
  limited_fits (makes xs) es all h k = by (nat_lt (2 ^ 52 - 1) (sum.number + length xs + open_steps xs (length sum.sessions))) refl k where
    at_most : (a b : ℕ) → nat_lt a b ≡ false → b ≤ a
    at_most a b e = grind (arith, nat_tests)

    full : nat_lt (2 ^ 52 - 1) (sum.number + length xs + open_steps xs (length sum.sessions)) ≡ false → (b : Bool) → nat_lt 1024 (open_steps xs (length sum.sessions)) ≡ b → cond b (refused fault.Full) (makes xs) ≡ makes es → Fits es
    full room true few e = absurd (cc)
    full room false few e =
        subst Fits (ap made e)
        (come_together xs all h (at_most 1024 (open_steps xs (length sum.sessions)) few), at_most (2 ^ 52 - 1) (sum.number + length xs + open_steps xs (length sum.sessions)) room)

    by : (b : Bool) → nat_lt (2 ^ 52 - 1) (sum.number + length xs + open_steps xs (length sum.sessions)) ≡ b
        → cond b (refused fault.Spent) (cond (nat_lt 1024 (open_steps xs (length sum.sessions))) (refused fault.Full) (makes xs)) ≡ makes es → Fits es
    by true room e = absurd (cc)
    by false room e = full room (nat_lt 1024 (open_steps xs (length sum.sessions))) refl e

pub turn_follows : (state : SumState) (i : Input) (now : ℕ) → IsSum state.sum → (es : List Entry) → turn_by state i now ≡ makes es → FollowsSum state.sum (batch_by state.sum (moment_by state.sum now) es)
turn_follows state i now k es e =
    let sum = state.sum in
    let m = moment_by sum now in
    let low = k.moment in
    let fits = limited_fits sum m (wanted_by (part_in sum) (paths_in sum) state.heard sum.tree m i) es k.few (wanted_allowed sum m state.heard i) e in
    record { first = refl; not_earlier = omega arith; in_range = omega arith; allowed = fits.0; room = fits.1 }
