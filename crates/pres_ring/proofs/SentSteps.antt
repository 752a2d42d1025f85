-- Which answers of an entry are for a session, by the sum.
use Rattle.std.proofs.Common.{refl, sym, ◌∙◌, ap, ◌≡◌, ℕ, ◌+◌, ◌-◌, List, [], ◌∷◌, ◌++◌, map, filter, length, Bool, true, false, cond, ◌||◌, ◌&&◌, true≢false, Option, Some, None, slice_get}
use Rattle.std.specs.List.{list_any}
use Rattle.std.specs.Option.{option_map}
use Rattle.std.specs.FinMap.Entries.{find}
use Rattle.pres_tree.specs.declared.scalar.Scalar.{Scalar}
use Rattle.pres_tree.specs.Rows.{Rows, value_at}
use Rattle.pres_write.specs.Outcomes.{kept_of}
use Rattle.pres_ids.specs.declared.id.SessionId.{SessionId}
use Rattle.pres_ids.specs.Ids.{client_cmp, same_session, stamp_of}
use Rattle.pres_wire.specs.declared.down.Down.{Down}
use Rattle.pres_wire.specs.declared.down.Down.TheVariants as down
use Rattle.pres_wire.specs.Messages.{session_for}
use Rattle.pres_retry.specs.declared.table.Row.{Row}
use Rattle.pres_fan.specs.Listeners.{session_cmp, is_touched, touched}
use Rattle.pres_fan.specs.Laws.{some_paths}
use Rattle.pres_fan.proofs.Orders.{same_by_cmp}
use Rattle.pres_fan.proofs.Rows.{find_touched}
use Rattle.pres_log.specs.declared.entry.Entry.{Entry}
use Rattle.pres_log.specs.declared.entry.Entry.TheVariants as entry
use Rattle.pres_log.specs.Logs.{writes_of}
use Rattle.pres_server.specs.Sessions.{session_of}
use Rattle.pres_server.specs.Answering.{Unnumbered, shown}
use Rattle.pres_server.specs.InternalParts.{message_next, reply_next, answer_by}
use Rattle.pres_server.specs.InternalPushes.{TouchedSession}
use Rattle.pres_server.specs.InternalSums.{MayEnter, MayEnterAll}
use Rattle.pres_server.specs.Sums.{Sum, OpenSession, OpenSessions, part_in, is_open_in, sent_by, pushed, carried, sum_after}
use Rattle.pres_server.specs.SumAnswers.{push_by, pushes_by, entry_pushes, own_by, answers_to_by, answers_by}
use Rattle.pres_server.specs.Histories.{Keeps}
use Rattle.pres_server.proofs.Clients.{session_same, session_itself}
use Rattle.pres_server.proofs.KeptSums.{next_open, kept_after, some_live}
use Rattle.pres_history.specs.Sessions.{opens, ends}
use Rattle.pres_history.proofs.Since.{any-append}
use Rattle.pres_history.proofs.Steps.{or_false}
use Rattle.pres_ring.specs.Transcripts.{names, those_for, is_gone, is_gone_for}
use Rattle.pres_ring.proofs.ForSession.{those-append}
use Rattle.pres_ring.proofs.OpenSteps.{open_carried, closed_entry, neither}

-- ---- messages that are all for one session

abbrev pub AreAllFor : SessionId → List Down → Type 0
AreAllFor t [] = Unit {0}
AreAllFor t (m ∷ ms) = (session_for m ≡ Some t) × AreAllFor t ms

pub none_of_them : (s t : SessionId) (ms : List Down) → AreAllFor t ms → same_session s t ≡ false → those_for s ms ≡ []
none_of_them s t [] a d = refl
none_of_them s t (m ∷ ms) a d = ap (λ b. cond b (m ∷ those_for s ms) (those_for s ms)) (ap (names s) a.0 ∙ d) ∙ none_of_them s t ms a.1 d

pub all_of_them : (s t : SessionId) (ms : List Down) → AreAllFor t ms → same_session s t ≡ true → those_for s ms ≡ ms
all_of_them s t [] a d = refl
all_of_them s t (m ∷ ms) a d = ap (λ b. cond b (m ∷ those_for s ms) (those_for s ms)) (ap (names s) a.0 ∙ d) ∙ ap (λ l. m ∷ l) (all_of_them s t ms a.1 d)

pub next_for : (t : SessionId) (sent : Option ℕ) (m : Unnumbered) → ((r : ℕ) → session_for (m r) ≡ Some t) → AreAllFor t (message_next sent m)
next_for t None m h = tt
next_for t (Some n) m h = (h (n + 1), tt)

reply_for : (t : SessionId) (z q n : ℕ) (sent : Option ℕ) (o : Option Row) → AreAllFor t (reply_next t z q n sent o)
reply_for t z q n sent None = tt
reply_for t z q n sent (Some row) = next_for t sent (λ r. down.Reply t r z q n row.done row.kept) (λ r. refl)

-- an answer is for the session of its entry
answer_for : (z : ℕ) (e : Entry) (rows : List Row) (sent : Option ℕ) (tree : Rows Scalar) → AreAllFor (session_of e) (answer_by z e rows sent tree)
answer_for z (entry.Open t) rows sent tree = (refl, tt)
answer_for z (entry.Op t q n op outcome) rows sent tree = next_for t sent (λ r. down.Reply t r z q n z (kept_of outcome)) (λ r. refl)
answer_for z (entry.Again t q n) rows sent tree = reply_for t z q n sent (slice_get rows (n - 1))
answer_for z (entry.Left t q puts) rows sent tree = next_for t sent (λ r. down.Armed t r z q) (λ r. refl)
answer_for z (entry.Cancelled t q path) rows sent tree = next_for t sent (λ r. down.Armed t r z q) (λ r. refl)
answer_for z (entry.Denied t q w) rows sent tree = next_for t sent (λ r. down.Denied t r z q w) (λ r. refl)
answer_for z (entry.On t q path) rows sent tree = next_for t sent (λ r. down.Snap t r z q path (value_at path tree)) (λ r. refl)
answer_for z (entry.Off t q path) rows sent tree = next_for t sent (λ r. down.OffDone t r z q) (λ r. refl)
answer_for z (entry.Ended t q w due) rows sent tree = next_for t sent (λ r. down.Gone t r z w) (λ r. refl)

pub own_for_other : (s : SessionId) (sum : Sum) (e : Entry) → same_session s (session_of e) ≡ false → those_for s (own_by sum e) ≡ []
own_for_other s sum e d =
    let c = (session_of e).client in
    let tree = (carried e sum).tree in
    let sent = sent_by c (carried e sum).sessions in
    none_of_them s (session_of e) (own_by sum e) (answer_for (sum.number + 1) e (part_in sum c).rows sent tree) d

pub own_for_itself : (s : SessionId) (sum : Sum) (e : Entry) → same_session s (session_of e) ≡ true → those_for s (own_by sum e) ≡ own_by sum e
own_for_itself s sum e d =
    let c = (session_of e).client in
    let tree = (carried e sum).tree in
    let sent = sent_by c (carried e sum).sessions in
    all_of_them s (session_of e) (own_by sum e) (answer_for (sum.number + 1) e (part_in sum c).rows sent tree) d

-- ---- Pushes

not_found : (s : SessionId) (t : TouchedSession) (ts : List TouchedSession) → find session_cmp s (t ∷ ts) ≡ None → (same_session s t.0 ≡ false) × (find session_cmp s ts ≡ None)
not_found s t ts h = by (same_session s t.0) refl (ap (λ b. cond b (Some t.1) (find session_cmp s ts)) (sym (same_by_cmp s t.0)) ∙ h) where
  by : (b : Bool) → same_session s t.0 ≡ b → cond b (Some t.1) (find session_cmp s ts) ≡ None → (same_session s t.0 ≡ false) × (find session_cmp s ts ≡ None)
  by true k g = absurd (cc g)
  by false k g = (k, g)

-- none is for a session that isn't touched
pushes_for_other : (s : SessionId) (z : ℕ) (tree : Rows Scalar) (ts : List TouchedSession) (sessions : OpenSessions) → find session_cmp s ts ≡ None → those_for s (pushes_by z tree sessions ts) ≡ []
pushes_for_other s z tree [] sessions h = refl
pushes_for_other s z tree (t ∷ ts) sessions h =
    let both = not_found s t ts h in
    let sent = sent_by t.0.client sessions in
    let first = next_for t.0 sent (λ r. down.Push t.0 r z (map (shown tree) t.1)) (λ r. refl) in
    those-append s (push_by z tree sessions t) (pushes_by z tree (pushed sessions t) ts)
    ∙ (λ i. none_of_them s t.0 (push_by z tree sessions t) first both.0 i ++ pushes_for_other s z tree ts (pushed sessions t) both.1 i)

-- nor for one that isn't open
pub pushes_for_closed : (s : SessionId) (sum : Sum) (e : Entry) → Keeps sum → is_open_in s sum ≡ false → those_for s (entry_pushes sum e) ≡ []
pushes_for_closed s sum e k o =
    pushes_for_other s (sum.number + 1) (carried e sum).tree (touched (writes_of e) sum.listeners) sum.sessions
    (find_touched (writes_of e) s sum.listeners ∙ ap (λ paths. some_paths (filter (is_touched (writes_of e)) paths)) (k.listening s o))

-- ---- an entry

open_apart : (s t : SessionId) (sum : Sum) → is_open_in t sum ≡ true → is_open_in s sum ≡ false → same_session s t ≡ false
open_apart s t sum a o = by (same_session s t) refl where
  by : (b : Bool) → same_session s t ≡ b → b ≡ false
  by false h = refl
  by true h = absurd (true≢false (sym a ∙ ap (λ u. is_open_in u sum) (sym (session_same s t h)) ∙ o))

-- an entry is not one of a session that isn't open and isn't opened by it
of_other : (s : SessionId) (sum : Sum) (m : ℕ) (e : Entry) → MayEnter sum m e → is_open_in s sum ≡ false → opens s e ≡ false → same_session s (session_of e) ≡ false
of_other s sum m (entry.Open t) f o n = n
of_other s sum m (entry.Op t q n op outcome) f o h = open_apart s t sum (next_open t q (part_in sum t.client).live f.0) o
of_other s sum m (entry.Again t q n) f o h = open_apart s t sum (next_open t q (part_in sum t.client).live f.0) o
of_other s sum m (entry.Left t q puts) f o h = open_apart s t sum (next_open t q (part_in sum t.client).live f.0) o
of_other s sum m (entry.Cancelled t q path) f o h = open_apart s t sum (next_open t q (part_in sum t.client).live f.0) o
of_other s sum m (entry.Denied t q w) f o h = open_apart s t sum (next_open t q (part_in sum t.client).live f) o
of_other s sum m (entry.On t q path) f o h = open_apart s t sum (next_open t q (part_in sum t.client).live f.0) o
of_other s sum m (entry.Off t q path) f o h = open_apart s t sum (next_open t q (part_in sum t.client).live f) o
of_other s sum m (entry.Ended t q w rows) f o h = open_apart s t sum f.0 o

-- so nothing of it is for that session
pub entry_silent : (s : SessionId) (sum : Sum) (m : ℕ) (e : Entry) → Keeps sum → MayEnter sum m e → is_open_in s sum ≡ false → opens s e ≡ false → those_for s (answers_to_by sum e) ≡ []
entry_silent s sum m e k f o n =
    those-append s (entry_pushes sum e) (own_by sum e)
    ∙ (λ i. pushes_for_closed s sum e k o i ++ own_for_other s sum e (of_other s sum m e f o n) i)

-- the Welcome that an opening is answered by
abbrev pub welcome_by : SessionId → Sum → Down
welcome_by s sum = down.Welcome s (sum.number + 1) (length (part_in sum s.client).rows)

pub opening_told : (s : SessionId) (sum : Sum) → Keeps sum → is_open_in s sum ≡ false → those_for s (answers_to_by sum (entry.Open s)) ≡ welcome_by s sum ∷ []
opening_told s sum k o =
    those-append s (entry_pushes sum (entry.Open s)) (own_by sum (entry.Open s))
    ∙ (λ i. pushes_for_closed s sum (entry.Open s) k o i ++ own_for_itself s sum (entry.Open s) (session_itself s) i)

-- ---- Gone

-- how many messages were sent to an open session
some_sent : (e : Entry) (sum : Sum) (t : SessionId) → Keeps sum → is_open_in t sum ≡ true → (n : ℕ) × (sent_by t.client (carried e sum).sessions ≡ Some n)
some_sent e sum t k o =
    let here = some_live (find client_cmp t.client (carried e sum).sessions) (stamp_of t) (open_carried e sum k t ∙ o) in
    (here.0.sent, ap (option_map (λ (session : OpenSession). session.sent)) here.1)

next_tells_none : (s : SessionId) (sent : Option ℕ) (m : Unnumbered) → ((r : ℕ) → is_gone (m r) ≡ false) → list_any (is_gone_for s) (message_next sent m) ≡ false
next_tells_none s None m h = refl
next_tells_none s (Some n) m h = ap (λ b. (b && names s (session_for (m (n + 1)))) || false) (h (n + 1))

reply_tells_none : (s t : SessionId) (z q n : ℕ) (sent : Option ℕ) (o : Option Row) → list_any (is_gone_for s) (reply_next t z q n sent o) ≡ false
reply_tells_none s t z q n sent None = refl
reply_tells_none s t z q n sent (Some row) = next_tells_none s sent (λ r. down.Reply t r z q n row.done row.kept) (λ r. refl)

pushes_tell_none : (s : SessionId) (z : ℕ) (tree : Rows Scalar) (ts : List TouchedSession) (sessions : OpenSessions) → list_any (is_gone_for s) (pushes_by z tree sessions ts) ≡ false
pushes_tell_none s z tree [] sessions = refl
pushes_tell_none s z tree (t ∷ ts) sessions =
    let sent = sent_by t.0.client sessions in
    any-append (is_gone_for s) (push_by z tree sessions t) (pushes_by z tree (pushed sessions t) ts)
    ∙ (λ i. next_tells_none s sent (λ r. down.Push t.0 r z (map (shown tree) t.1)) (λ r. refl) i || pushes_tell_none s z tree ts (pushed sessions t) i)

entry_pushes_tell_none : (s : SessionId) (sum : Sum) (e : Entry) → list_any (is_gone_for s) (entry_pushes sum e) ≡ false
entry_pushes_tell_none s sum e = pushes_tell_none s (sum.number + 1) (carried e sum).tree (touched (writes_of e) sum.listeners) sum.sessions

-- the answer tells it where the entry is the end
own_tells : (s : SessionId) (sum : Sum) (m : ℕ) (e : Entry) → Keeps sum → MayEnter sum m e → list_any (is_gone_for s) (own_by sum e) ≡ ends s e
own_tells s sum m (entry.Open t) k f = refl
own_tells s sum m (entry.Op t q n op outcome) k f = next_tells_none s (sent_by t.client (carried (entry.Op t q n op outcome) sum).sessions) (λ r. down.Reply t r (sum.number + 1) q n (sum.number + 1) (kept_of outcome)) (λ r. refl)
own_tells s sum m (entry.Again t q n) k f = reply_tells_none s t (sum.number + 1) q n (sent_by t.client (carried (entry.Again t q n) sum).sessions) (slice_get (part_in sum t.client).rows (n - 1))
own_tells s sum m (entry.Left t q puts) k f = next_tells_none s (sent_by t.client (carried (entry.Left t q puts) sum).sessions) (λ r. down.Armed t r (sum.number + 1) q) (λ r. refl)
own_tells s sum m (entry.Cancelled t q path) k f = next_tells_none s (sent_by t.client (carried (entry.Cancelled t q path) sum).sessions) (λ r. down.Armed t r (sum.number + 1) q) (λ r. refl)
own_tells s sum m (entry.Denied t q w) k f = next_tells_none s (sent_by t.client (carried (entry.Denied t q w) sum).sessions) (λ r. down.Denied t r (sum.number + 1) q w) (λ r. refl)
own_tells s sum m (entry.On t q path) k f =
    next_tells_none s (sent_by t.client (carried (entry.On t q path) sum).sessions) (λ r. down.Snap t r (sum.number + 1) q path (value_at path (carried (entry.On t q path) sum).tree)) (λ r. refl)
own_tells s sum m (entry.Off t q path) k f = next_tells_none s (sent_by t.client (carried (entry.Off t q path) sum).sessions) (λ r. down.OffDone t r (sum.number + 1) q) (λ r. refl)
own_tells s sum m (entry.Ended t q w rows) k f =
    let sent = some_sent (entry.Ended t q w rows) sum t k f.0 in
    ap (λ o. list_any (is_gone_for s) (message_next o (λ r. down.Gone t r (sum.number + 1) w))) sent.1 ∙ or_false (same_session s t)

pub entry_tells : (s : SessionId) (sum : Sum) (m : ℕ) (e : Entry) → Keeps sum → MayEnter sum m e → list_any (is_gone_for s) (answers_to_by sum e) ≡ ends s e
entry_tells s sum m e k f =
    any-append (is_gone_for s) (entry_pushes sum e) (own_by sum e)
    ∙ (λ i. entry_pushes_tell_none s sum e i || own_tells s sum m e k f i)

-- a message tells it that it is gone where it is for it and is Gone
pub gone_for : (s : SessionId) (ms : List Down) → list_any is_gone (those_for s ms) ≡ list_any (is_gone_for s) ms
gone_for s [] = refl
gone_for s (m ∷ ms) = by (names s (session_for m)) (gone_for s ms) where
  and_true : (b : Bool) → b ≡ (b && true)
  and_true true = refl
  and_true false = refl

  and_false : (b : Bool) → false ≡ (b && false)
  and_false true = refl
  and_false false = refl

  by : (b : Bool) → list_any is_gone (those_for s ms) ≡ list_any (is_gone_for s) ms → list_any is_gone (cond b (m ∷ those_for s ms) (those_for s ms)) ≡ ((is_gone m && b) || list_any (is_gone_for s) ms)
  by true r = λ i. and_true (is_gone m) i || r i
  by false r = r ∙ ap (λ b. b || list_any (is_gone_for s) ms) (and_false (is_gone m))

-- what is for a session of an entry that ends it: Pushes, and then Gone
pub record EndsTold (s : SessionId) (ms : List Down) : Type 0 where
  pub front : List Down
  pub last : Down
  pub parted : those_for s ms ≡ front ++ last ∷ []
  pub going : list_any is_gone front ≡ false

pub end_told : (s : SessionId) (sum : Sum) (m : ℕ) (e : Entry) → Keeps sum → MayEnter sum m e → ends s e ≡ true → EndsTold s (answers_to_by sum e)
end_told s sum m (entry.Ended t q w rows) k f h =
    let e : Entry = entry.Ended t q w rows in
    let sent = some_sent e sum t k f.0 in
    record {
      front = those_for s (entry_pushes sum e);
      last = down.Gone t (sent.0 + 1) (sum.number + 1) w;
      parted =
          those-append s (entry_pushes sum e) (own_by sum e)
          ∙ ap (λ l. those_for s (entry_pushes sum e) ++ l) (own_for_itself s sum e h ∙ ap (λ o. message_next o (λ r. down.Gone t r (sum.number + 1) w)) sent.1);
      going = gone_for s (entry_pushes sum e) ∙ entry_pushes_tell_none s sum e;
    }
end_told s sum m (entry.Open t) k f h = absurd (true≢false (sym h))
end_told s sum m (entry.Op t q n op outcome) k f h = absurd (true≢false (sym h))
end_told s sum m (entry.Again t q n) k f h = absurd (true≢false (sym h))
end_told s sum m (entry.Left t q puts) k f h = absurd (true≢false (sym h))
end_told s sum m (entry.Cancelled t q path) k f h = absurd (true≢false (sym h))
end_told s sum m (entry.Denied t q w) k f h = absurd (true≢false (sym h))
end_told s sum m (entry.On t q path) k f h = absurd (true≢false (sym h))
end_told s sum m (entry.Off t q path) k f h = absurd (true≢false (sym h))

-- ---- the entries of a batch

pub all_silent : (s : SessionId) (xs : List Entry) (sum : Sum) (m : ℕ) → Keeps sum → MayEnterAll sum m xs → is_open_in s sum ≡ false → list_any (opens s) xs ≡ false → those_for s (answers_by sum xs) ≡ []
all_silent s [] sum m k f o n = refl
all_silent s (e ∷ more) sum m k f o n =
    let both = neither (opens s e) (list_any (opens s) more) n in
    those-append s (answers_to_by sum e) (answers_by (sum_after e sum) more)
    ∙ (λ i. entry_silent s sum m e k f.0 o both.0 i ++ all_silent s more (sum_after e sum) m (kept_after sum m e k f.0) f.1 (closed_entry sum m e k f.0 s o both.0) both.1 i)

pub all_tell : (s : SessionId) (xs : List Entry) (sum : Sum) (m : ℕ) → Keeps sum → MayEnterAll sum m xs → list_any (is_gone_for s) (answers_by sum xs) ≡ list_any (ends s) xs
all_tell s [] sum m k f = refl
all_tell s (e ∷ more) sum m k f =
    any-append (is_gone_for s) (answers_to_by sum e) (answers_by (sum_after e sum) more)
    ∙ (λ i. entry_tells s sum m e k f.0 i || all_tell s more (sum_after e sum) m (kept_after sum m e k f.0) f.1 i)
