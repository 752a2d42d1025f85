-- What a sum says of kept answers, and of who is gone, holds after each entry that may come.
use Rattle.std.proofs.Common.{refl, sym, ◌∙◌, ap, subst, ◌≡◌, ℕ, ◌+◌, ◌<◌, ◌≤◌, List, [], ◌∷◌, ◌++◌, length, Bool, true, false, cond, ◌&&◌, true≢false, arith, Option, Some, None, unwrap_or, IsSome, IfSome}
use Rattle.std.specs.Prelude.{nat_lt, nat_le}
use Rattle.std.specs.Option.{option_map}
use Rattle.std.specs.Map.{keys_of}
use Rattle.std.specs.List.Sorted.{IsStrictlySortedBy}
use Rattle.std.specs.FinMap.Entries.{find}
use Rattle.std.proofs.lemmas.Bool.{and_parts, and_from, ltb-true, leb-true, lt-ltb, le-leb}
use Rattle.pres_write.specs.declared.outcome.Kept.{Kept}
use Rattle.pres_write.specs.Outcomes.{kept_of}
use Rattle.pres_ids.specs.declared.id.Stamp.{Stamp}
use Rattle.pres_ids.specs.Ids.{ClientId, client_cmp, same_client, stamp_of}
use Rattle.pres_retry.specs.declared.table.Row.{Row}
use Rattle.pres_retry.specs.Tables.{Table, row, rows_of}
use Rattle.pres_log.specs.declared.entry.Entry.{Entry}
use Rattle.pres_log.specs.declared.entry.Entry.TheVariants as entry
use Rattle.pres_base.specs.Bases.{are_done}
use Rattle.pres_server.specs.Sessions.{session_of}
use Rattle.pres_server.specs.InternalParts.{Part, is_live}
use Rattle.pres_server.specs.InternalIndex.{retry_after}
use Rattle.pres_server.specs.Sums.{Sum, OpenSession, OpenSessions, last_by, live_of, part_in, changed, carried, began, answered, sum_after}
use Rattle.pres_server.specs.Histories.{AreAnswers, Keeps}
use Rattle.pres_server.proofs.Clients.{client_same}
use Rattle.pres_server.proofs.Keyed.{sorted_with, find_put, find_others, find_changed}
use Rattle.pres_server.proofs.Touching.{part_carried}

-- ---- writes that were done one after another

-- of the test of a first row
pub first_done : (a n d : ℕ) (rest : Bool) → (nat_lt a d && nat_le d n && rest) ≡ true → (a < d) × (d ≤ n) × (rest ≡ true)
first_done a n d rest h =
    let p = and_parts (nat_lt a d && nat_le d n) rest h in
    let q = and_parts (nat_lt a d) (nat_le d n) p.0 in
    (ltb-true a d q.0, leb-true d n q.1, p.1)

done_from : (a n d : ℕ) (rest : Bool) → a < d → d ≤ n → rest ≡ true → (nat_lt a d && nat_le d n && rest) ≡ true
done_from a n d rest h k r = and_from _ _ (and_from _ _ (lt-ltb a d h) (le-leb d n k)) r

-- they were done before any later number
pub done_more : (a n m : ℕ) (rows : List Row) → n ≤ m → are_done a n rows ≡ true → are_done a m rows ≡ true
done_more a n m [] l h = refl
done_more a n m (row ∷ later) l h =
    let p = first_done a n row.done (are_done row.done n later) h in
    let few = p.1 in
    done_from a m row.done (are_done row.done m later) p.0 (omega arith) (done_more row.done n m later l p.2)

-- a write more, which is done by the next entry
pub done_next : (a n : ℕ) (kept : Kept) (rows : List Row) → a ≤ n → are_done a n rows ≡ true → are_done a (n + 1) (rows ++ row (n + 1) kept ∷ []) ≡ true
done_next a n kept [] l h = done_from a (n + 1) (n + 1) true (omega arith) (omega arith) refl
done_next a n kept (x ∷ later) l h =
    let p = first_done a n x.done (are_done x.done n later) h in
    let few = p.1 in
    done_from a (n + 1) x.done (are_done x.done (n + 1) (later ++ row (n + 1) kept ∷ [])) p.0 (omega arith) (done_next x.done n kept later p.1 p.2)

some_more : (rows : List Row) (x : Row) → 0 < length (rows ++ x ∷ [])
some_more [] x = omega arith
some_more (y ∷ rows) x = omega arith

-- ---- kept answers

answers_stay : (n : ℕ) (o : Option (List Row)) → IfSome o (AreAnswers n) → IfSome o (AreAnswers (n + 1))
answers_stay n None h = tt
answers_stay n (Some rows) h = (h.0, done_more 0 n (n + 1) rows (omega arith) h.1)

answer_kept : (n : ℕ) (kept : Kept) (o : Option (List Row)) → IfSome o (AreAnswers n) → AreAnswers (n + 1) (unwrap_or o [] ++ row (n + 1) kept ∷ [])
answer_kept n kept None h = (omega arith, done_next 0 n kept [] (omega arith) refl)
answer_kept n kept (Some rows) h = (some_more rows (row (n + 1) kept), done_next 0 n kept rows (omega arith) h.1)

pub answers_after : (sum : Sum) (e : Entry) → Keeps sum → (c : ClientId) → IfSome (find client_cmp c (sum_after e sum).rows) (AreAnswers (sum.number + 1))
answers_after sum (entry.Op s q n op outcome) k c =
    subst (λ o. IfSome o (AreAnswers (sum.number + 1))) (sym (find_put s.client _ sum.rows c)) (by (same_client s.client c)) where
      more : List Row
      more = rows_of s.client sum.rows ++ row (sum.number + 1) (kept_of outcome) ∷ []

      by : (b : Bool) → IfSome (cond b (Some more) (find client_cmp c sum.rows)) (AreAnswers (sum.number + 1))
      by true = answer_kept sum.number (kept_of outcome) (find client_cmp s.client sum.rows) (k.answers s.client)
      by false = answers_stay sum.number (find client_cmp c sum.rows) (k.answers c)
answers_after sum (entry.Open s) k c = answers_stay sum.number (find client_cmp c sum.rows) (k.answers c)
answers_after sum (entry.Again s q n) k c = answers_stay sum.number (find client_cmp c sum.rows) (k.answers c)
answers_after sum (entry.Left s q puts) k c = answers_stay sum.number (find client_cmp c sum.rows) (k.answers c)
answers_after sum (entry.Cancelled s q path) k c = answers_stay sum.number (find client_cmp c sum.rows) (k.answers c)
answers_after sum (entry.Denied s q why) k c = answers_stay sum.number (find client_cmp c sum.rows) (k.answers c)
answers_after sum (entry.On s q path) k c = answers_stay sum.number (find client_cmp c sum.rows) (k.answers c)
answers_after sum (entry.Off s q path) k c = answers_stay sum.number (find client_cmp c sum.rows) (k.answers c)
answers_after sum (entry.Ended s q why rows) k c = answers_stay sum.number (find client_cmp c sum.rows) (k.answers c)

pub answered_in_order : (z : ℕ) (e : Entry) (rows : Table) → IsStrictlySortedBy client_cmp (keys_of rows) → IsStrictlySortedBy client_cmp (keys_of (retry_after z e rows))
answered_in_order z (entry.Op s q n op outcome) rows h = sorted_with s.client _ rows h
answered_in_order z (entry.Open s) rows h = h
answered_in_order z (entry.Again s q n) rows h = h
answered_in_order z (entry.Left s q puts) rows h = h
answered_in_order z (entry.Cancelled s q path) rows h = h
answered_in_order z (entry.Denied s q why) rows h = h
answered_in_order z (entry.On s q path) rows h = h
answered_in_order z (entry.Off s q path) rows h = h
answered_in_order z (entry.Ended s q why rows_due) rows h = h

-- ---- last stamps

-- a client that had a session had one, also after the entry
last_answered : (e : Entry) (o : Option OpenSession) (last : Option Stamp) → (b : Bool) → IsSome (last_by o last) → IsSome (last_by (cond b (option_map (answered e) o) o) last)
last_answered e None last true h = h
last_answered e None last false h = h
last_answered e (Some o) last true h = refl
last_answered e (Some o) last false h = refl

module _ (sum : Sum) (e : Entry) (k : Keeps sum) where
  abbrev mid : OpenSessions
  mid = (carried e sum).sessions

  -- the writes of the entry leave its last stamp
  was : (c : ClientId) → IsSome (part_in sum c).last → IsSome (last_by (find client_cmp c mid) (find client_cmp c sum.gone))
  was c h = subst (λ (p : Part). IsSome p.last) (sym (part_carried e sum k c)) h

  own_last : (c : ClientId) → IsSome (part_in sum c).last → IsSome (last_by (find client_cmp c (changed (session_of e).client (answered e) mid)) (find client_cmp c sum.gone))
  own_last c h =
      subst (λ o. IsSome (last_by o (find client_cmp c sum.gone))) (sym (find_changed (session_of e).client (answered e) mid c))
      (last_answered e (find client_cmp c mid) (find client_cmp c sum.gone) (same_client (session_of e).client c) (was c h))

opened_last : (stamp : Stamp) (o : Option OpenSession) (last : Option Stamp) → (b : Bool) → IsSome (last_by o last) → IsSome (last_by (cond b (Some (began stamp)) o) (cond b None last))
opened_last stamp o last true h = refl
opened_last stamp o last false h = h

ended_last : (stamp : Stamp) (o : Option OpenSession) (last : Option Stamp) → (b : Bool) → IsSome (last_by o last) → IsSome (last_by (cond b None o) (cond b (Some stamp) last))
ended_last stamp o last true h = refl
ended_last stamp o last false h = h

last_after : (sum : Sum) (e : Entry) → Keeps sum → (c : ClientId) → IsSome (part_in sum c).last → IsSome (part_in (sum_after e sum) c).last
last_after sum (entry.Open s) k c h =
    subst (λ (x : Option OpenSession × Option Stamp). IsSome (last_by x.0 x.1)) (λ i. (sym (find_put s.client (began (stamp_of s)) (mid sum (entry.Open s) k) c) i, sym (find_others s.client sum.gone c) i))
    (opened_last (stamp_of s) _ _ (same_client s.client c) (was sum (entry.Open s) k c h))
last_after sum (entry.Op s q n op outcome) k c h = own_last sum (entry.Op s q n op outcome) k c h
last_after sum (entry.Again s q n) k c h = own_last sum (entry.Again s q n) k c h
last_after sum (entry.Left s q puts) k c h = own_last sum (entry.Left s q puts) k c h
last_after sum (entry.Cancelled s q path) k c h = own_last sum (entry.Cancelled s q path) k c h
last_after sum (entry.Denied s q why) k c h = own_last sum (entry.Denied s q why) k c h
last_after sum (entry.On s q path) k c h = own_last sum (entry.On s q path) k c h
last_after sum (entry.Off s q path) k c h = own_last sum (entry.Off s q path) k c h
last_after sum (entry.Ended s q why rows) k c h =
    subst (λ (x : Option OpenSession × Option Stamp). IsSome (last_by x.0 x.1))
    (λ i. (sym (find_others s.client (mid sum (entry.Ended s q why rows) k) c) i, sym (find_put s.client (stamp_of s) sum.gone c) i))
    (ended_last (stamp_of s) _ _ (same_client s.client c) (was sum (entry.Ended s q why rows) k c h))

-- a client that has a session open has a last stamp
live_last : (o : Option OpenSession) (last : Option Stamp) (t : Stamp) → is_live (option_map live_of o) t ≡ true → IsSome (last_by o last)
live_last None last t h = absurd (true≢false (sym h))
live_last (Some o) last t h = refl

-- the entry answers a write of a session that is open
abbrev pub IsOfOpen : Sum → Entry → Type 0
IsOfOpen sum (entry.Op s q n op outcome) = is_live (part_in sum s.client).live (stamp_of s) ≡ true
IsOfOpen sum _ = Unit {0}

-- who had answers, or wrote
known_before : (sum : Sum) (e : Entry) → Keeps sum → IsOfOpen sum e → (c : ClientId) → IsSome (find client_cmp c (sum_after e sum).rows) → IsSome (part_in sum c).last
known_before sum (entry.Op s q n op outcome) k o c h = by (same_client s.client c) refl (subst IsSome (find_put s.client more sum.rows c) h) where
  more : List Row
  more = rows_of s.client sum.rows ++ row (sum.number + 1) (kept_of outcome) ∷ []

  by : (b : Bool) → same_client s.client c ≡ b → IsSome (cond b (Some more) (find client_cmp c sum.rows)) → IsSome (part_in sum c).last
  by true e r = subst (λ x. IsSome (part_in sum x).last) (client_same s.client c e) (live_last (find client_cmp s.client sum.sessions) (find client_cmp s.client sum.gone) (stamp_of s) o)
  by false e r = k.known c r
known_before sum (entry.Open s) k o c h = k.known c h
known_before sum (entry.Again s q n) k o c h = k.known c h
known_before sum (entry.Left s q puts) k o c h = k.known c h
known_before sum (entry.Cancelled s q path) k o c h = k.known c h
known_before sum (entry.Denied s q why) k o c h = k.known c h
known_before sum (entry.On s q path) k o c h = k.known c h
known_before sum (entry.Off s q path) k o c h = k.known c h
known_before sum (entry.Ended s q why rows) k o c h = k.known c h

pub known_after : (sum : Sum) (e : Entry) → Keeps sum → IsOfOpen sum e → (c : ClientId) → IsSome (find client_cmp c (sum_after e sum).rows) → IsSome (part_in (sum_after e sum) c).last
known_after sum e k o c h = last_after sum e k c (known_before sum e k o c h)

-- ---- who is gone

pub none_live : (o : Option OpenSession) → option_map live_of o ≡ None → o ≡ None
none_live None h = refl
none_live (Some o) h = absurd (cc)

none_answered : (e : Entry) (o : Option OpenSession) (b : Bool) → o ≡ None → cond b (option_map (answered e) o) o ≡ None
none_answered e o true h = ap (option_map (answered e)) h
none_answered e o false h = h

-- who had none open has none, once the writes of the entry are carried out
none_carried : (sum : Sum) (e : Entry) → Keeps sum → (c : ClientId) → find client_cmp c sum.sessions ≡ None → find client_cmp c (carried e sum).sessions ≡ None
none_carried sum e k c h = none_live (find client_cmp c (carried e sum).sessions) (ap (λ (p : Part). p.live) (part_carried e sum k c) ∙ ap (option_map live_of) h)

own_apart : (sum : Sum) (e : Entry) → Keeps sum → (c : ClientId) → IsSome (find client_cmp c sum.gone) → find client_cmp c (changed (session_of e).client (answered e) (carried e sum).sessions) ≡ None
own_apart sum e k c h =
    find_changed (session_of e).client (answered e) (carried e sum).sessions c
    ∙ none_answered e (find client_cmp c (carried e sum).sessions) (same_client (session_of e).client c) (none_carried sum e k c (k.apart c h))

pub apart_after : (sum : Sum) (e : Entry) → Keeps sum → (c : ClientId) → IsSome (find client_cmp c (sum_after e sum).gone) → find client_cmp c (sum_after e sum).sessions ≡ None
apart_after sum (entry.Open s) k c h = find_put s.client (began (stamp_of s)) (carried (entry.Open s) sum).sessions c ∙ by (same_client s.client c) (subst IsSome (find_others s.client sum.gone c) h) where
  by : (b : Bool) → IsSome (cond b None (find client_cmp c sum.gone)) → cond b (Some (began (stamp_of s))) (find client_cmp c (carried (entry.Open s) sum).sessions) ≡ None
  by true g = absurd (true≢false (sym g))
  by false g = none_carried sum (entry.Open s) k c (k.apart c g)
apart_after sum (entry.Op s q n op outcome) k c h = own_apart sum (entry.Op s q n op outcome) k c h
apart_after sum (entry.Again s q n) k c h = own_apart sum (entry.Again s q n) k c h
apart_after sum (entry.Left s q puts) k c h = own_apart sum (entry.Left s q puts) k c h
apart_after sum (entry.Cancelled s q path) k c h = own_apart sum (entry.Cancelled s q path) k c h
apart_after sum (entry.Denied s q why) k c h = own_apart sum (entry.Denied s q why) k c h
apart_after sum (entry.On s q path) k c h = own_apart sum (entry.On s q path) k c h
apart_after sum (entry.Off s q path) k c h = own_apart sum (entry.Off s q path) k c h
apart_after sum (entry.Ended s q why rows) k c h = find_others s.client (carried (entry.Ended s q why rows) sum).sessions c ∙ by (same_client s.client c) (subst IsSome (find_put s.client (stamp_of s) sum.gone c) h) where
  by : (b : Bool) → IsSome (cond b (Some (stamp_of s)) (find client_cmp c sum.gone)) → cond b None (find client_cmp c (carried (entry.Ended s q why rows) sum).sessions) ≡ None
  by true g = refl
  by false g = none_carried sum (entry.Ended s q why rows) k c (k.apart c g)
