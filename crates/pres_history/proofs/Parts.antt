-- What one entry more changes in what the log says of each client.
use Rattle.std.proofs.Common.{refl, sym, ◌∙◌, ap, subst, ◌≡◌, ℕ, ◌+◌, ◌-◌, ◌≤◌, List, [], ◌∷◌, ◌++◌, length, Bool, true, false, not, cond, ◌||◌, ◌&&◌, ◌==◌, inl, inr, append-nil, true≢false, arith, IsTrue, length-append, Option, Some, None, slice_get}
use Rattle.std.specs.List.{list_any, list_all, after_first, filter, filter_map, flat_map, last_or}
use Rattle.std.specs.Option.{option_map}
use Rattle.std.proofs.lemmas.Bool.{and_parts}
use Rattle.std.proofs.lemmas.Bool.Decides.{nat_tests}
use Rattle.std.proofs.lemmas.List.Elements.{filter-append}
use Rattle.pres_ids.specs.declared.id.Stamp.{Stamp}
use Rattle.pres_ids.specs.declared.id.SessionId.{SessionId}
use Rattle.pres_ids.specs.declared.id.Why.{Why}
use Rattle.pres_write.specs.declared.basic.Basic.{Basic}
use Rattle.pres_write.specs.declared.op.Op.{Op}
use Rattle.pres_write.specs.declared.outcome.Outcome.{Outcome}
use Rattle.pres_write.specs.Outcomes.{kept_of}
use Rattle.pres_retry.specs.declared.table.Row.{Row}
use Rattle.pres_log.specs.declared.entry.Entry.{Entry}
use Rattle.pres_log.specs.declared.entry.Entry.TheVariants as entry
use Rattle.pres_ids.specs.Ids.{ClientId, same_client, same_session, is_earlier, stamp_of}
use Rattle.pres_wire.specs.declared.down.Down.TheVariants.{Reply}
use Rattle.std.proofs.lemmas.Option.{slice_get_cases}
use Rattle.pres_plan.specs.Plans.{plan_of}
use Rattle.pres_server.specs.Sessions.{session_of}
use Rattle.pres_server.specs.InternalParts.{LivePart, Part, session_with, listed, comes_after}
use Rattle.pres_server.proofs.Clients.{client_same, client_itself, client_sym, session_same, session_itself}
use Rattle.pres_history.specs.Sessions.{opened, opens, ends, is_open, since_open, sessions_of, open_sessions_of, is_newest}
use Rattle.pres_history.specs.Outcomes.{row_in, rows_for, ops}
use Rattle.pres_history.specs.Streams.{own_answer, repeated_reply}
use Rattle.pres_history.specs.LegalLog.{MayCome}
use Rattle.pres_history.specs.InternalInvariants.{MayComeUncounted}
use Rattle.pres_history.specs.SessionPlans.{actions_in}
use Rattle.pres_history.specs.InternalParts.{part_of, live_in, one_more, rows_step, part_step, Sound}
use Rattle.pres_history.proofs.PlanSteps.{plan_own, plan_other}
use Rattle.pres_history.proofs.Since.{after-append, after-cons}
use Rattle.pres_history.proofs.Steps.{In, or_false, any-filter, any-opened, is_open-append, is_open-same, open_listed, filter_alike, filter-filter, sessions_of-append, in_sessions, in_open, rows_for-append, count_own, count_other}

pub uncounted : (es : List Entry) (m : ℕ) (e : Entry) → MayCome es m e → MayComeUncounted es m e
uncounted es m (entry.Open s) h = (h.0, h.1)
uncounted es m (entry.Op s q n op outcome) h = h
uncounted es m (entry.Again s q n) h = h
uncounted es m (entry.Left s q puts) h = h
uncounted es m (entry.Cancelled s q path) h = h
uncounted es m (entry.Denied s q why) h = h
uncounted es m (entry.On s q path) h = h
uncounted es m (entry.Off s q path) h = h
uncounted es m (entry.Ended s q why rows) h = h

-- a stamp isn't before itself
pub not_earlier : (s : Stamp) → is_earlier s s ≡ false
not_earlier s = grind (arith, nat_tests)

pub earlier_still : (s t u : Stamp) → is_earlier s t ≡ true → is_earlier t u ≡ true → is_earlier s u ≡ true
earlier_still s t u h k = grind (arith, nat_tests)

and_true : (b : Bool) → (b && true) ≡ b
and_true true = refl
and_true false = refl

and_false : (b : Bool) → (b && false) ≡ false
and_false true = refl
and_false false = refl

pub later_still : (o : Option Stamp) (s t : Stamp) → comes_after o s ≡ true → (comes_after o t && (is_earlier s t && true)) ≡ is_earlier s t
later_still None s t h = and_true (is_earlier s t)
later_still (Some r) s t h = elim (is_earlier s t) as (λ b. is_earlier s t ≡ b → (is_earlier r t && (b && true)) ≡ b) [
  | true ↦ λ e. ap (λ b. b && true) (earlier_still r s t h e)
  | false ↦ λ e. and_false (is_earlier r t)
] refl

-- every member passes
pub all_in : (f : SessionId → Bool) (s : SessionId) (xs : List SessionId) → list_all f xs ≡ true → In s xs → f s ≡ true
all_in f s [] a i = absurd (true≢false (sym i))
all_in f s (x ∷ xs) a i = by (same_session s x) refl i (and_parts (f x) _ a) (λ k. all_in f s xs (and_parts (f x) _ a).1 k) where
  by : (b : Bool) → same_session s x ≡ b → (b || list_any (same_session s) xs) ≡ true → (f x ≡ true) × (list_all f xs ≡ true) → (In s xs → f s ≡ true) → f s ≡ true
  by true e k p r = ap f (session_same s x e) ∙ p.0
  by false e k p r = r k

-- a newest session was not opened before
pub not_opened : (s : SessionId) (es : List Entry) → IsTrue (is_newest s es) → list_any (opens s) es ≡ false
not_opened s es h = elim (list_any (opens s) es) as (λ b. list_any (opens s) es ≡ b → b ≡ false) [
  | true ↦ λ e.
      let i : In s (sessions_of s.client es) = any-filter s (λ t. same_client s.client t.client) (opened es) ∙ (λ i. client_itself s.client i && any-opened s es i) ∙ e in
      absurd (true≢false (sym (all_in (λ t. is_earlier (stamp_of t) (stamp_of s)) s (sessions_of s.client es) h i) ∙ not_earlier (stamp_of s)))
  | false ↦ λ e. refl
] refl

pub not_ended : (s : SessionId) (es : List Entry) → Sound es → IsTrue (is_newest s es) → list_any (ends s) es ≡ false
not_ended s es sound h = elim (list_any (ends s) es) as (λ b. list_any (ends s) es ≡ b → b ≡ false) [
  | true ↦ λ e. absurd (true≢false (sym (sound.ended s e) ∙ not_opened s es h))
  | false ↦ λ e. refl
] refl

-- the open sessions of a client after an entry that opens and ends none
pub open_of_same : (c : ClientId) (es : List Entry) (e : Entry) → opened (e ∷ []) ≡ [] → ((s : SessionId) → opens s e ≡ false) → ((s : SessionId) → ends s e ≡ false) → open_sessions_of c (es ++ e ∷ []) ≡ open_sessions_of c es
open_of_same c es e n o f =
    ap (filter (λ s. is_open s (es ++ e ∷ []))) (sessions_of-append c es e ∙ ap (λ l. sessions_of c es ++ filter (λ s. same_client c s.client) l) n ∙ append-nil (sessions_of c es))
    ∙ filter_alike (λ s. is_open s (es ++ e ∷ [])) (λ s. is_open s es) (sessions_of c es) (λ s _. is_open-same s es e (o s) (f s))

-- after an end none is open
pub open_of_ended : (c : ClientId) (es : List Entry) (s : SessionId) (q : Option ℕ) (why : Why) (rows : List Basic) →
    open_sessions_of c (es ++ entry.Ended s q why rows ∷ []) ≡ filter (λ t. not (same_session t s)) (open_sessions_of c es)
open_of_ended c es s q why rows =
    ap (filter (λ t. is_open t (es ++ entry.Ended s q why rows ∷ []))) (sessions_of-append c es (entry.Ended s q why rows) ∙ append-nil (sessions_of c es))
    ∙ filter_alike (λ t. is_open t (es ++ entry.Ended s q why rows ∷ [])) (λ t. is_open t es && not (same_session t s)) (sessions_of c es) (λ t _. is_open-append t es (entry.Ended s q why rows) ∙ by (list_any (opens t) es) (list_any (ends t) es) (same_session t s))
    ∙ sym (filter-filter (λ t. not (same_session t s)) (λ t. is_open t es) (sessions_of c es)) where
      by : (a b d : Bool) → ((a || false) && not (b || d)) ≡ ((a && not b) && not d)
      by true true d = refl
      by true false d = refl
      by false b d = refl

-- a new session is open, and the others stay
pub open_of_opened : (c : ClientId) (es : List Entry) (s : SessionId) → list_any (ends s) es ≡ false →
    open_sessions_of c (es ++ entry.Open s ∷ []) ≡ open_sessions_of c es ++ cond (same_client c s.client) (s ∷ []) []
open_of_opened c es s n =
    ap (filter p) (sessions_of-append c es (entry.Open s))
    ∙ filter-append p (sessions_of c es) (cond (same_client c s.client) (s ∷ []) [])
    ∙ (λ i. filter_alike p (λ t. is_open t es) (sessions_of c es) old i ++ new (same_client c s.client) i) where
      p : SessionId → Bool
      p t = is_open t (es ++ entry.Open s ∷ [])

      old : (t : SessionId) → In t (sessions_of c es) → p t ≡ is_open t es
      old t k = is_open-append t es (entry.Open s) ∙ (λ i. ((in_sessions t c es k).1 i || same_session t s) && not (or_false (list_any (ends t) es) i)) ∙ ap (λ b. b && not (list_any (ends t) es)) (sym (in_sessions t c es k).1)

      is_new : p s ≡ true
      is_new = is_open-append s es (entry.Open s) ∙ (λ i. (list_any (opens s) es || session_itself s i) && not (n i || false)) ∙ any_true (list_any (opens s) es) where
        any_true : (b : Bool) → ((b || true) && true) ≡ true
        any_true true = refl
        any_true false = refl

      new : (b : Bool) → filter p (cond b (s ∷ []) []) ≡ cond b (s ∷ []) []
      new true = ap (λ b. cond b (s ∷ []) []) is_new
      new false = refl

-- the open session of a client is the only one
pub only_open : (s : SessionId) (es : List Entry) → Sound es → is_open s es ≡ true → open_sessions_of s.client es ≡ s ∷ []
only_open s es sound o = by (open_sessions_of s.client es) (live_in (open_sessions_of s.client es) es) (sound.one_open s.client) (open_listed s es ∙ o) where
  by : (xs : List SessionId) (l : Option LivePart) → xs ≡ listed s.client l → In s xs → xs ≡ s ∷ []
  by xs None e i = absurd (true≢false (sym i ∙ ap (list_any (same_session s)) e))
  by xs (Some l) e i =
      let g : SessionId = session_with s.client l.stamp in
      let k : same_session s g ≡ true = sym (or_false (same_session s g)) ∙ sym (ap (list_any (same_session s)) e) ∙ i in
      e ∙ ap (λ x. x ∷ []) (sym (session_same s g k))

-- nothing changes for another client
pub live_other : (c : ClientId) (es : List Entry) (e : Entry) → same_client (session_of e).client c ≡ false →
    open_sessions_of c (es ++ e ∷ []) ≡ open_sessions_of c es → live_in (open_sessions_of c (es ++ e ∷ [])) (es ++ e ∷ []) ≡ live_in (open_sessions_of c es) es
live_other c es e k same = ap (λ l. live_in l (es ++ e ∷ [])) same ∙ by (open_sessions_of c es) (λ g. in_open g c es) where
  by : (xs : List SessionId) → ((g : SessionId) → In g xs → (same_client c g.client ≡ true) × (is_open g es ≡ true)) → live_in xs (es ++ e ∷ []) ≡ live_in xs es
  by [] h = refl
  by (g ∷ more) h =
      let a = h g (ap (λ b. b || list_any (same_session g) more) (session_itself g)) in
      let o = (and_parts (list_any (opens g) es) _ a.1).0 in
      let apart : same_client g.client (session_of e).client ≡ false = ap (λ x. same_client x (session_of e).client) (sym (client_same c g.client a.0)) ∙ client_sym c (session_of e).client ∙ k in
      let other : same_session g (session_of e) ≡ false = ap (λ b. b && g.incarnation == (session_of e).incarnation && g.attempt == (session_of e).attempt) apart in
      λ i. Some (record { stamp = (stamp_of g); count = count_other g es e o other i; plan = plan_other g es e o other i })

-- and all of the part stays, where no other session of it is opened and no write of it made
pub part_other : (c : ClientId) (es : List Entry) (e : Entry) → same_client (session_of e).client c ≡ false →
    sessions_of c (es ++ e ∷ []) ≡ sessions_of c es → rows_for c (es ++ e ∷ []) ≡ rows_for c es → open_sessions_of c (es ++ e ∷ []) ≡ open_sessions_of c es →
    part_of c (es ++ e ∷ []) ≡ part_of c es
part_other c es e k ss rs os = λ i. record { last = option_map stamp_of (last_or None (ss i)); rows = rs i; live = live_other c es e k os i }

pub no_more : (c : ClientId) (es : List Entry) (e : Entry) → opened (e ∷ []) ≡ [] → sessions_of c (es ++ e ∷ []) ≡ sessions_of c es
no_more c es e n = sessions_of-append c es e ∙ ap (λ l. sessions_of c es ++ filter (λ s. same_client c s.client) l) n ∙ append-nil (sessions_of c es)

pub row_given : (c : ClientId) (es : List Entry) (e : Entry) (o : Option Row) → row_in c (length es + 1) e ≡ o → rows_for c (es ++ e ∷ []) ≡ rows_for c es ++ filter_map (λ (_ : ℕ). o) (0 ∷ [])
row_given c es e o k = rows_for-append c es e ∙ ap (λ x. rows_for c es ++ filter_map (λ (_ : ℕ). x) (0 ∷ [])) k

pub no_row : (c : ClientId) (es : List Entry) (e : Entry) → row_in c (length es + 1) e ≡ None → rows_for c (es ++ e ∷ []) ≡ rows_for c es
no_row c es e k = row_given c es e None k ∙ append-nil (rows_for c es)

-- the open session's part after an entry of its own
pub live_own : (s : SessionId) (es : List Entry) (e : Entry) → Sound es → is_open s es ≡ true → session_of e ≡ s → open_sessions_of s.client (es ++ e ∷ []) ≡ open_sessions_of s.client es →
    live_in (open_sessions_of s.client (es ++ e ∷ [])) (es ++ e ∷ []) ≡ option_map (one_more e) (live_in (open_sessions_of s.client es) es)
live_own s es e sound o k same =
    let only = only_open s es sound o in
    let was = (and_parts (list_any (opens s) es) _ o).0 in
    let own_entry : same_session s (session_of e) ≡ true = ap (same_session s) k ∙ session_itself s in
    ap (λ l. live_in l (es ++ e ∷ [])) (same ∙ only)
    ∙ (λ i. Some (record { stamp = (stamp_of s); count = count_own s es e was own_entry i; plan = plan_own s es e was own_entry i }))
    ∙ ap (λ l. option_map (one_more e) (live_in l es)) (sym only)

-- the part of each client after an entry that its open session gives
part_said : (es : List Entry) (e : Entry) → Sound es → is_open (session_of e) es ≡ true → opened (e ∷ []) ≡ [] → ((s : SessionId) → opens s e ≡ false) → ((s : SessionId) → ends s e ≡ false)
    → rows_for (session_of e).client (es ++ e ∷ []) ≡ rows_step (length es + 1) e (rows_for (session_of e).client es)
    → ((c : ClientId) → same_client (session_of e).client c ≡ false → rows_for c (es ++ e ∷ []) ≡ rows_for c es)
    → (c : ClientId) → part_of c (es ++ e ∷ []) ≡ cond (same_client (session_of e).client c)
    (record { last = (part_of c es).last; rows = rows_step (length es + 1) e (rows_for c es); live = option_map (one_more e) (part_of c es).live }) (part_of c es)
part_said es e sound o none opens_none ends_none mine others c = by (same_client s.client c) refl where
  s : SessionId
  s = session_of e

  after : ClientId → Part
  after k = record { last = (part_of k es).last; rows = rows_step (length es + 1) e (rows_for k es); live = option_map (one_more e) (part_of k es).live }

  own : part_of s.client (es ++ e ∷ []) ≡ after s.client
  own = λ i. record {
    last = option_map (stamp_of) (last_or None (no_more s.client es e none i));
    rows = mine i;
    live = live_own s es e sound o refl (open_of_same s.client es e none opens_none ends_none) i;
  }

  by : (b : Bool) → same_client s.client c ≡ b → part_of c (es ++ e ∷ []) ≡ cond b (after c) (part_of c es)
  by true k = subst (λ x. part_of x (es ++ e ∷ []) ≡ after x) (client_same s.client c k) own
  by false k = part_other c es e k (no_more c es e none) (others c k) (open_of_same c es e none opens_none ends_none)

pub part_op : (es : List Entry) (s : SessionId) (q n : ℕ) (op : Op) (outcome : Outcome) → Sound es → is_open s es ≡ true →
    (c : ClientId) → let e = entry.Op s q n op outcome in part_of c (es ++ e ∷ []) ≡ cond (same_client s.client c) (part_step (length es + 1) e (part_of c es)) (part_of c es)
part_op es s q n op outcome sound o = part_said es e sound o refl (λ _. refl) (λ _. refl)
    (row_given s.client es e (Some row) (ap (λ b. cond b (Some row) None) (client_itself s.client)))
    (λ c k. no_row c es e (ap (λ b. cond b (Some row) None) (client_sym c s.client ∙ k))) where
      e : Entry
      e = entry.Op s q n op outcome

      row : Row
      row = record { done = length es + 1; kept = kept_of outcome }

-- an entry that makes no write
part_plain : (es : List Entry) (e : Entry) → Sound es → is_open (session_of e) es ≡ true → opened (e ∷ []) ≡ [] → ((s : SessionId) → opens s e ≡ false) → ((s : SessionId) → ends s e ≡ false)
    → ((c : ClientId) → row_in c (length es + 1) e ≡ None) → rows_step (length es + 1) e (rows_for (session_of e).client es) ≡ rows_for (session_of e).client es
    → (c : ClientId) → part_of c (es ++ e ∷ []) ≡ cond (same_client (session_of e).client c)
    (record { last = (part_of c es).last; rows = rows_step (length es + 1) e (rows_for c es); live = option_map (one_more e) (part_of c es).live }) (part_of c es)
part_plain es e sound o none opens_none ends_none no_write same =
    part_said es e sound o none opens_none ends_none (no_row (session_of e).client es e (no_write (session_of e).client) ∙ sym same) (λ c _. no_row c es e (no_write c))

-- a write that is made again has a row
pub row_there : (es : List Entry) (c : ClientId) (n : ℕ) → 1 ≤ n → n ≤ ops c es → (row : Row) × (slice_get (rows_for c es) (n - 1) ≡ Some row)
row_there es c n h k =
    elim (slice_get_cases (rows_for c es) (n - 1)).1 [
      | inl here ↦ (here.0, here.2)
      | inr past ↦ absurd (omega (arith, past.0))
    ]

-- what answers it
pub own_again : (es : List Entry) (s : SessionId) (q n : ℕ) (row : Row) → slice_get (rows_for s.client es) (n - 1) ≡ Some row →
    own_answer (es ++ entry.Again s q n ∷ []) (entry.Again s q n) ≡ (λ r. Reply s r (length es + 1) q n row.done row.kept) ∷ []
own_again es s q n row k =
    let e = entry.Again s q n in
    (λ i. repeated_reply s (length-append es (e ∷ []) i) q n (slice_get (no_row s.client es e refl i) (n - 1)))
    ∙ ap (repeated_reply s (length es + 1) q n) k

-- the open sessions of the client of an ended one, and of another client
pub ended_own : (es : List Entry) (s : SessionId) (q : Option ℕ) (why : Why) (rows : List Basic) → Sound es → is_open s es ≡ true → open_sessions_of s.client (es ++ entry.Ended s q why rows ∷ []) ≡ []
ended_own es s q why rows sound o =
    open_of_ended s.client es s q why rows
    ∙ ap (filter (λ t. not (same_session t s))) (only_open s es sound o)
    ∙ ap (λ b. cond (not b) (s ∷ []) []) (session_itself s)

pub ended_other : (c : ClientId) (es : List Entry) (s : SessionId) (q : Option ℕ) (why : Why) (rows : List Basic) → same_client s.client c ≡ false → open_sessions_of c (es ++ entry.Ended s q why rows ∷ []) ≡ open_sessions_of c es
ended_other c es s q why rows k =
    open_of_ended c es s q why rows
    ∙ filter_alike (λ t. not (same_session t s)) (λ _. true) (open_sessions_of c es) apart
    ∙ filter_all (open_sessions_of c es) where
      apart : (t : SessionId) → In t (open_sessions_of c es) → not (same_session t s) ≡ true
      apart t i =
          let e : same_client t.client s.client ≡ false = ap (λ x. same_client x s.client) (sym (client_same c t.client (in_open t c es i).0)) ∙ client_sym c s.client ∙ k in
          ap (λ b. not (b && t.incarnation == s.incarnation && t.attempt == s.attempt)) e

      filter_all : (xs : List SessionId) → filter (λ _. true) xs ≡ xs
      filter_all [] = refl
      filter_all (x ∷ xs) = ap (λ l. x ∷ l) (filter_all xs)

pub part_ended : (es : List Entry) (s : SessionId) (q : Option ℕ) (why : Why) (rows : List Basic) → Sound es → is_open s es ≡ true →
    (c : ClientId) → let e = entry.Ended s q why rows in part_of c (es ++ e ∷ []) ≡ cond (same_client s.client c) (part_step (length es + 1) e (part_of c es)) (part_of c es)
part_ended es s q why rows sound o c =
    let e = entry.Ended s q why rows in
    elim (same_client s.client c) as (λ b. same_client s.client c ≡ b → part_of c (es ++ e ∷ []) ≡ cond b (part_step (length es + 1) e (part_of c es)) (part_of c es)) [
      | true ↦ λ k. subst (λ x. part_of x (es ++ e ∷ []) ≡ part_step (length es + 1) e (part_of x es)) (client_same s.client c k) own
      | false ↦ λ k. part_other c es e k (no_more c es e refl) (no_row c es e refl) (ended_other c es s q why rows k)
    ] refl where
      e : Entry
      e = entry.Ended s q why rows

      own : part_of s.client (es ++ e ∷ []) ≡ part_step (length es + 1) e (part_of s.client es)
      own = λ i. record {
        last = option_map (stamp_of) (last_or None (no_more s.client es e refl i));
        rows = no_row s.client es e refl i;
        live = live_in (ended_own es s q why rows sound o i) (es ++ e ∷ []);
      }

last_or-append : (o : Option SessionId) (xs : List SessionId) (x : SessionId) → last_or o (xs ++ x ∷ []) ≡ Some x
last_or-append o [] x = refl
last_or-append o (y ∷ xs) x = last_or-append (Some y) xs x

-- the sessions of a client after an Open
pub opened_own : (es : List Entry) (s : SessionId) → sessions_of s.client (es ++ entry.Open s ∷ []) ≡ sessions_of s.client es ++ s ∷ []
opened_own es s = sessions_of-append s.client es (entry.Open s) ∙ ap (λ b. sessions_of s.client es ++ cond b (s ∷ []) []) (client_itself s.client)

pub opened_other : (c : ClientId) (es : List Entry) (s : SessionId) → same_client s.client c ≡ false → sessions_of c (es ++ entry.Open s ∷ []) ≡ sessions_of c es
opened_other c es s k = sessions_of-append c es (entry.Open s) ∙ ap (λ b. sessions_of c es ++ cond b (s ∷ []) []) (client_sym c s.client ∙ k) ∙ append-nil (sessions_of c es)

-- a session that has just been opened has sent and been sent nothing
pub fresh_count : (es : List Entry) (s : SessionId) → list_any (opens s) es ≡ false → since_open s (es ++ entry.Open s ∷ []) ≡ []
fresh_count es s n =
    after-append (opens s) es (entry.Open s ∷ [])
    ∙ (λ i. cond (n i) (after_first (opens s) es ++ entry.Open s ∷ []) (after-cons (opens s) (entry.Open s) [] i))
    ∙ ap (λ b. cond b [] (after_first (opens s) [])) (session_itself s)

pub part_opened : (es : List Entry) (s : SessionId) → Sound es → IsTrue (is_newest s es) → open_sessions_of s.client es ≡ [] →
    (c : ClientId) → let e = entry.Open s in part_of c (es ++ e ∷ []) ≡ cond (same_client s.client c) (part_step (length es + 1) e (part_of c es)) (part_of c es)
part_opened es s sound new none c =
    let e = entry.Open s in
    let ends_none = not_ended s es sound new in
    elim (same_client s.client c) as (λ b. same_client s.client c ≡ b → part_of c (es ++ e ∷ []) ≡ cond b (part_step (length es + 1) e (part_of c es)) (part_of c es)) [
      | true ↦ λ k. subst (λ x. part_of x (es ++ e ∷ []) ≡ part_step (length es + 1) e (part_of x es)) (client_same s.client c k) own
      | false ↦ λ k. part_other c es e k (opened_other c es s k) (no_row c es e refl)
          (open_of_opened c es s ends_none ∙ ap (λ b. open_sessions_of c es ++ cond b (s ∷ []) []) (client_sym c s.client ∙ k) ∙ append-nil (open_sessions_of c es))
    ] refl where
      e : Entry
      e = entry.Open s

      now_open : open_sessions_of s.client (es ++ e ∷ []) ≡ s ∷ []
      now_open = open_of_opened s.client es s (not_ended s es sound new) ∙ (λ i. none i ++ cond (client_itself s.client i) (s ∷ []) [])

      nothing : since_open s (es ++ e ∷ []) ≡ []
      nothing = fresh_count es s (not_opened s es new)

      own : part_of s.client (es ++ e ∷ []) ≡ part_step (length es + 1) e (part_of s.client es)
      own = λ i. record {
        last = option_map (stamp_of) ((ap (last_or None) (opened_own es s) ∙ last_or-append None (sessions_of s.client es) s) i);
        rows = no_row s.client es e refl i;
        live = (ap (λ l. live_in l (es ++ e ∷ [])) now_open
            ∙ λ j. Some (record { stamp = (stamp_of s); count = length (filter (λ x. same_session s (session_of x)) (nothing j)); plan = plan_of (flat_map actions_in (filter (λ x. same_session s (session_of x)) (nothing j))) })) i;
      }

-- the step of each client's part
pub part_after : (es : List Entry) (m : ℕ) (e : Entry) → Sound es → MayComeUncounted es m e →
    (c : ClientId) → part_of c (es ++ e ∷ []) ≡ cond (same_client (session_of e).client c) (part_step (length es + 1) e (part_of c es)) (part_of c es)
part_after es m (entry.Open s) sound f c = part_opened es s sound f.0 f.1 c
part_after es m (entry.Op s q n op outcome) sound f c = part_op es s q n op outcome sound f.0.0 c
part_after es m (entry.Again s q n) sound f c = part_plain es (entry.Again s q n) sound f.0.0 refl (λ _. refl) (λ _. refl) (λ _. refl) refl c
part_after es m (entry.Left s q puts) sound f c = part_plain es (entry.Left s q puts) sound f.0.0 refl (λ _. refl) (λ _. refl) (λ _. refl) refl c
part_after es m (entry.Cancelled s q path) sound f c = part_plain es (entry.Cancelled s q path) sound f.0.0 refl (λ _. refl) (λ _. refl) (λ _. refl) refl c
part_after es m (entry.Denied s q why) sound f c = part_plain es (entry.Denied s q why) sound f.0 refl (λ _. refl) (λ _. refl) (λ _. refl) refl c
part_after es m (entry.On s q path) sound f c = part_plain es (entry.On s q path) sound f.0.0 refl (λ _. refl) (λ _. refl) (λ _. refl) refl c
part_after es m (entry.Off s q path) sound f c = part_plain es (entry.Off s q path) sound f.0 refl (λ _. refl) (λ _. refl) (λ _. refl) refl c
part_after es m (entry.Ended s q why rows) sound f c = part_ended es s q why rows sound f.0 c
