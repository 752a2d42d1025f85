-- How the messages to an open session are numbered, by the sum.
use Rattle.std.proofs.Common.{refl, sym, ◌∙◌, ap, subst, ◌≡◌, ℕ, ◌+◌, ◌-◌, ◌≤◌, List, [], ◌∷◌, ◌++◌, map, filter, fold, length, Bool, true, false, not, cond, ◌||◌, ◌&&◌, true≢false, Option, Some, None, is_some, inl, inr, slice_get, length-append, arith}
use Rattle.std.specs.List.{AllByRecursion}
use Rattle.std.specs.Option.{option_map}
use Rattle.std.specs.FinMap.Entries.{find}
use Rattle.std.proofs.lemmas.Option.{slice_get_cases}
use Rattle.pres_tree.specs.declared.scalar.Scalar.{Scalar}
use Rattle.pres_tree.specs.Rows.{Rows, value_at}
use Rattle.pres_write.specs.Basics.{BasicWrite}
use Rattle.pres_write.specs.Outcomes.{kept_of}
use Rattle.pres_ids.specs.declared.id.SessionId.{SessionId}
use Rattle.pres_ids.specs.Ids.{ClientId, client_cmp, same_client, same_session, stamp_of}
use Rattle.pres_wire.specs.declared.down.Down.{Down}
use Rattle.pres_wire.specs.declared.down.Down.TheVariants as down
use Rattle.pres_retry.specs.declared.table.Row.{Row}
use Rattle.pres_fan.specs.Listeners.{session_cmp, is_touched, touched}
use Rattle.pres_fan.specs.Laws.{some_paths}
use Rattle.pres_fan.proofs.Orders.{same_by_cmp}
use Rattle.pres_fan.proofs.Rows.{find_touched}
use Rattle.pres_log.specs.declared.entry.Entry.{Entry}
use Rattle.pres_log.specs.declared.entry.Entry.TheVariants as entry
use Rattle.pres_log.specs.Logs.{writes_of}
use Rattle.pres_server.specs.Sessions.{session_of}
use Rattle.pres_server.specs.Answering.{Unnumbered, shown}
use Rattle.pres_server.specs.InternalParts.{message_next, reply_next, answer_by, is_live}
use Rattle.pres_server.specs.InternalPushes.{TouchedSession}
use Rattle.pres_server.specs.InternalSums.{MayEnter}
use Rattle.pres_server.specs.Sums.{Sum, OpenSession, OpenSessions, part_in, is_open_in, sent_by, sent_more, pushed, changed, carried, began, answered, sessions_after, sum_after}
use Rattle.pres_server.specs.SumAnswers.{push_by, pushes_by, entry_pushes, own_by, answers_to_by}
use Rattle.pres_server.specs.Histories.{Keeps}
use Rattle.pres_server.proofs.Clients.{client_same, client_itself, client_sym, session_same, session_itself}
use Rattle.pres_server.proofs.Keyed.{find_put, find_others, find_changed}
use Rattle.pres_server.proofs.KeptSums.{next_open}
use Rattle.pres_history.specs.Sessions.{opens, ends}
use Rattle.pres_ring.specs.Transcripts.{those_for, StartsWithWelcome}
use Rattle.pres_ring.specs.TakenMessages.{r_in, AreNumbered}
use Rattle.pres_ring.proofs.ForSession.{those-append}
use Rattle.pres_ring.proofs.OpenSteps.{one_live, open_entry}
use Rattle.pres_ring.proofs.SentSteps.{AreAllFor, none_of_them, all_of_them, next_for, own_for_other, own_for_itself}

-- ---- numbered lists

none_more : (n r : ℕ) → n ≡ r + 0 → n ≡ r
none_more n r h = omega (arith, h)

one_more : (n r : ℕ) (x : Down) (xs : List Down) → n ≡ r + length (x ∷ xs) → n ≡ r + 1 + length xs
one_more n r x xs h = omega (arith, h)

numbered_append : (r n : ℕ) (xs ys : List Down) → n ≡ r + length xs → AreNumbered r xs → AreNumbered n ys → AreNumbered r (xs ++ ys)
numbered_append r n [] ys e h k = subst (λ i. AreNumbered i ys) (none_more n r e) k
numbered_append r n (x ∷ xs) ys e h k = (h.0, numbered_append (r + 1) n xs ys (one_more n r x xs e) h.1 k)

pub numbered_front : (r : ℕ) (xs ys : List Down) → AreNumbered r (xs ++ ys) → AreNumbered r xs
numbered_front r [] ys h = tt
numbered_front r (x ∷ xs) ys h = (h.0, numbered_front (r + 1) xs ys h.1)

-- ---- who else is sent something

-- of a client one session is open
two_open : (s t : SessionId) (sum : Sum) → is_open_in s sum ≡ true → is_open_in t sum ≡ true → same_client t.client s.client ≡ true → same_session s t ≡ true
two_open s t sum a o h =
    one_live s t (part_in sum s.client).live (client_sym s.client t.client ∙ h) a
    (ap (λ c. is_live (part_in sum c).live (stamp_of t)) (sym (client_same t.client s.client h)) ∙ o)

each_found : (P : SessionId → Type 0) (ts : List TouchedSession) → ((u : SessionId) → is_some (find session_cmp u ts) ≡ true → P u) → AllByRecursion (λ t. P t.0) ts
each_found P [] h = tt
each_found P (t ∷ ts) h = (
  h t.0 (ap (λ b. is_some (cond b (Some t.1) (find session_cmp t.0 ts))) (same_by_cmp t.0 t.0 ∙ session_itself t.0)),
  each_found P ts (λ u e. h u (ap (λ b. is_some (cond b (Some t.1) (find session_cmp u ts))) (same_by_cmp u t.0) ∙ by u e (same_session u t.0))),
) where
  by : (u : SessionId) → is_some (find session_cmp u ts) ≡ true → (b : Bool) → is_some (cond b (Some t.1) (find session_cmp u ts)) ≡ true
  by u e true = refl
  by u e false = e

-- only open sessions are touched
found_open : (sum : Sum) (writes : List BasicWrite) → Keeps sum → (u : SessionId) → is_some (find session_cmp u (touched writes sum.listeners)) ≡ true → is_open_in u sum ≡ true
found_open sum writes k u h = by (is_open_in u sum) refl where
  by : (b : Bool) → is_open_in u sum ≡ b → b ≡ true
  by true o = refl
  by false o =
      let none : find session_cmp u (touched writes sum.listeners) ≡ None = find_touched writes u sum.listeners ∙ ap (λ paths. some_paths (filter (is_touched writes) paths)) (k.listening u o) in
      absurd (true≢false (sym h ∙ ap is_some none))

-- of the client of s no other session is touched
abbrev IsAlone : SessionId → List TouchedSession → Type 0
IsAlone s ts = AllByRecursion (λ (t : TouchedSession). same_client t.0.client s.client ≡ true → same_session s t.0 ≡ true) ts

alone : (s : SessionId) (sum : Sum) (writes : List BasicWrite) → Keeps sum → is_open_in s sum ≡ true → IsAlone s (touched writes sum.listeners)
alone s sum writes k o = each_found (λ u. same_client u.client s.client ≡ true → same_session s u ≡ true) (touched writes sum.listeners) (λ u h. two_open s u sum o (found_open sum writes k u h))

other_client : (a b : Bool) → (a ≡ true → b ≡ true) → b ≡ false → a ≡ false
other_client false b h e = refl
other_client true b h e = absurd (true≢false (sym (h refl) ∙ e))

-- ---- Pushes

sent_next : (o : Option OpenSession) (n : ℕ) → option_map (λ (x : OpenSession). x.sent) o ≡ Some n → option_map (λ (x : OpenSession). x.sent) (option_map sent_more o) ≡ Some (n + 1)
sent_next None n h = absurd (cc h)
sent_next (Some x) n h = ap (option_map (λ i. i + 1)) h

counted_one : (n : ℕ) (x : Down) (rest ms : List Down) → ms ≡ x ∷ rest → n + 1 + length rest ≡ n + length ms
counted_one n x rest ms e = let k = ap length e in omega (arith, k)

-- the messages are numbered on from n, and counted
abbrev AreCounted : SessionId → ℕ → List Down → Option ℕ → Type 0
AreCounted s n ms sent = AreNumbered (n + 1) ms × (sent ≡ Some (n + length ms))

nothing_counted : (s : SessionId) (n : ℕ) (sent : Option ℕ) → sent ≡ Some n → AreCounted s n [] sent
nothing_counted s n sent h = (tt, h ∙ ap Some (by n)) where
  by : (i : ℕ) → i ≡ i + 0
  by i = omega arith

pushes_counted : (s : SessionId) (z : ℕ) (tree : Rows Scalar) (ts : List TouchedSession) (es : OpenSessions) (n : ℕ) → IsAlone s ts → sent_by s.client es ≡ Some n
    → AreCounted s n (those_for s (pushes_by z tree es ts)) (sent_by s.client (fold pushed es ts))
pushes_counted s z tree [] es n a h = nothing_counted s n (sent_by s.client es) h
pushes_counted s z tree (t ∷ ts) es n a h = by (same_session s t.0) refl (λ i sent. pushes_counted s z tree ts (pushed es t) i a.1 sent) where
  push : Unnumbered
  push r = down.Push t.0 r z (map (shown tree) t.1)

  first : List Down
  first = push_by z tree es t

  later : OpenSessions
  later = pushed es t

  rest : List Down
  rest = those_for s (pushes_by z tree later ts)

  whole : those_for s (pushes_by z tree es (t ∷ ts)) ≡ those_for s first ++ rest
  whole = those-append s first (pushes_by z tree later ts)

  found : find client_cmp s.client later ≡ cond (same_client t.0.client s.client) (option_map sent_more (find client_cmp s.client es)) (find client_cmp s.client es)
  found = find_changed t.0.client sent_more es s.client

  for_it : AreAllFor t.0 first
  for_it = next_for t.0 (sent_by t.0.client es) push (λ r. refl)

  by : (b : Bool) → same_session s t.0 ≡ b → ((i : ℕ) → sent_by s.client later ≡ Some i → AreCounted s i rest (sent_by s.client (fold pushed later ts)))
      → AreCounted s n (those_for s (pushes_by z tree es (t ∷ ts))) (sent_by s.client (fold pushed later ts))
  by true d on =
      let is : s ≡ t.0 = session_same s t.0 d in
      let one : those_for s first ≡ push (n + 1) ∷ [] = all_of_them s t.0 first for_it d ∙ ap (λ o. message_next o push) (ap (λ (u : SessionId). sent_by u.client es) (sym is) ∙ h) in
      let same : same_client t.0.client s.client ≡ true = ap (λ (u : SessionId). same_client u.client s.client) (sym is) ∙ client_itself s.client in
      let sent : sent_by s.client later ≡ Some (n + 1) =
      ap (option_map (λ (x : OpenSession). x.sent)) (found ∙ ap (λ b. cond b (option_map sent_more (find client_cmp s.client es)) (find client_cmp s.client es)) same)
      ∙ sent_next (find client_cmp s.client es) n h in
      let all : those_for s (pushes_by z tree es (t ∷ ts)) ≡ push (n + 1) ∷ rest = whole ∙ ap (λ l. l ++ rest) one in
      let more = on (n + 1) sent in
      (subst (AreNumbered (n + 1)) (sym all) (refl, more.0), more.1 ∙ ap Some (counted_one n (push (n + 1)) rest (those_for s (pushes_by z tree es (t ∷ ts))) all))
  by false d on =
      let none : those_for s first ≡ [] = none_of_them s t.0 first for_it d in
      let other : same_client t.0.client s.client ≡ false = other_client (same_client t.0.client s.client) (same_session s t.0) a.0 d in
      let sent : sent_by s.client later ≡ Some n =
      ap (option_map (λ (x : OpenSession). x.sent)) (found ∙ ap (λ b. cond b (option_map sent_more (find client_cmp s.client es)) (find client_cmp s.client es)) other) ∙ h in
      let all : those_for s (pushes_by z tree es (t ∷ ts)) ≡ rest = whole ∙ ap (λ l. l ++ rest) none in
      subst (λ l. AreCounted s n l (sent_by s.client (fold pushed later ts))) (sym all) (on n sent)

-- ---- the own answer

row_at : (rows : List Row) (n : ℕ) → 1 ≤ n → n ≤ length rows → (row : Row) × (slice_get rows (n - 1) ≡ Some row)
row_at rows n h k =
    elim (slice_get_cases rows (n - 1)).1 [
      | inl here ↦ (here.0, here.2)
      | inr past ↦ absurd (omega (arith, past.0))
    ]

-- it is one message with this number
abbrev IsOne : ℕ → List Down → Type 0
IsOne r ms = (m : Down) × (ms ≡ m ∷ []) × (r_in m ≡ Some r)

-- an entry of an open session is answered by one message, but for the opening
one_answer : (sum : Sum) (m z n : ℕ) (e : Entry) (tree : Rows Scalar) → MayEnter sum m e → opens (session_of e) e ≡ false → IsOne (n + 1) (answer_by z e (part_in sum (session_of e).client).rows (Some n) tree)
one_answer sum m z n (entry.Open t) tree f o = absurd (true≢false (sym (session_itself t) ∙ o))
one_answer sum m z n (entry.Op t q i op outcome) tree f o = (down.Reply t (n + 1) z q i z (kept_of outcome), refl, refl)
one_answer sum m z n (entry.Again t q i) tree f o =
    let row = row_at (part_in sum t.client).rows i f.1 f.2 in
    (down.Reply t (n + 1) z q i row.0.done row.0.kept, ap (reply_next t z q i (Some n)) row.1, refl)
one_answer sum m z n (entry.Left t q puts) tree f o = (down.Armed t (n + 1) z q, refl, refl)
one_answer sum m z n (entry.Cancelled t q path) tree f o = (down.Armed t (n + 1) z q, refl, refl)
one_answer sum m z n (entry.Denied t q why) tree f o = (down.Denied t (n + 1) z q why, refl, refl)
one_answer sum m z n (entry.On t q path) tree f o = (down.Snap t (n + 1) z q path (value_at path tree), refl, refl)
one_answer sum m z n (entry.Off t q path) tree f o = (down.OffDone t (n + 1) z q, refl, refl)
one_answer sum m z n (entry.Ended t q why rows) tree f o = (down.Gone t (n + 1) z why, refl, refl)

answered_next : (e : Entry) (o : Option OpenSession) (n : ℕ) → option_map (λ (x : OpenSession). x.sent) o ≡ Some n → option_map (λ (x : OpenSession). x.sent) (option_map (answered e) o) ≡ Some (n + 1)
answered_next e None n h = absurd (cc h)
answered_next e (Some x) n h = ap (option_map (λ i. i + 1)) h

-- the sessions once the entry of t is answered
abbrev changed_by : Entry → SessionId → OpenSessions → OpenSessions
changed_by e t es = changed t.client (answered e) es

changed_sent : (e : Entry) (es : OpenSessions) (t : SessionId) (n : ℕ) → sent_by t.client es ≡ Some n → sent_by t.client (changed_by e t es) ≡ Some (n + 1)
changed_sent e es t n h =
    ap (option_map (λ (x : OpenSession). x.sent))
    (find_changed t.client (answered e) es t.client ∙ ap (λ b. cond b (option_map (answered e) (find client_cmp t.client es)) (find client_cmp t.client es)) (client_itself t.client))
    ∙ answered_next e (find client_cmp t.client es) n h

-- and so many were sent to it then, unless it is its end
own_sent : (e : Entry) (es : OpenSessions) (n : ℕ) → sent_by (session_of e).client es ≡ Some n → opens (session_of e) e ≡ false → ends (session_of e) e ≡ false → sent_by (session_of e).client (sessions_after e es) ≡ Some (n + 1)
own_sent (entry.Open t) es n h o g = absurd (true≢false (sym (session_itself t) ∙ o))
own_sent (entry.Op t q i op outcome) es n h o g = changed_sent (entry.Op t q i op outcome) es t n h
own_sent (entry.Again t q i) es n h o g = changed_sent (entry.Again t q i) es t n h
own_sent (entry.Left t q puts) es n h o g = changed_sent (entry.Left t q puts) es t n h
own_sent (entry.Cancelled t q path) es n h o g = changed_sent (entry.Cancelled t q path) es t n h
own_sent (entry.Denied t q why) es n h o g = changed_sent (entry.Denied t q why) es t n h
own_sent (entry.On t q path) es n h o g = changed_sent (entry.On t q path) es t n h
own_sent (entry.Off t q path) es n h o g = changed_sent (entry.Off t q path) es t n h
own_sent (entry.Ended t q why rows) es n h o g = absurd (true≢false (sym (session_itself t) ∙ g))

-- ---- an entry of another session

other_changed : (e : Entry) (t : SessionId) (es : OpenSessions) (c : ClientId) → same_client t.client c ≡ false → find client_cmp c (changed_by e t es) ≡ find client_cmp c es
other_changed e t es c d = find_changed t.client (answered e) es c ∙ ap (λ b. cond b (option_map (answered e) (find client_cmp c es)) (find client_cmp c es)) d

others_stay : (e : Entry) (es : OpenSessions) (c : ClientId) → same_client (session_of e).client c ≡ false → find client_cmp c (sessions_after e es) ≡ find client_cmp c es
others_stay (entry.Open t) es c d = find_put t.client (began (stamp_of t)) es c ∙ ap (λ b. cond b (Some (began (stamp_of t))) (find client_cmp c es)) d
others_stay (entry.Op t q i op outcome) es c d = other_changed (entry.Op t q i op outcome) t es c d
others_stay (entry.Again t q i) es c d = other_changed (entry.Again t q i) t es c d
others_stay (entry.Left t q puts) es c d = other_changed (entry.Left t q puts) t es c d
others_stay (entry.Cancelled t q path) es c d = other_changed (entry.Cancelled t q path) t es c d
others_stay (entry.Denied t q why) es c d = other_changed (entry.Denied t q why) t es c d
others_stay (entry.On t q path) es c d = other_changed (entry.On t q path) t es c d
others_stay (entry.Off t q path) es c d = other_changed (entry.Off t q path) t es c d
others_stay (entry.Ended t q why rows) es c d = find_others t.client es c ∙ ap (λ b. cond b None (find client_cmp c es)) d

-- it isn't of the client of s, which is open
apart : (s : SessionId) (sum : Sum) (m : ℕ) (e : Entry) → MayEnter sum m e → is_open_in s sum ≡ true → same_client (session_of e).client s.client ≡ true → same_session s (session_of e) ≡ true
apart s sum m (entry.Open t) f o h =
    absurd (true≢false (sym o ∙ ap (λ c. is_live (part_in sum c).live (stamp_of s)) (sym (client_same t.client s.client h)) ∙ ap (λ l. is_live l (stamp_of s)) f.1))
apart s sum m (entry.Op t q i op outcome) f o h = two_open s t sum o (next_open t q (part_in sum t.client).live f.0) h
apart s sum m (entry.Again t q i) f o h = two_open s t sum o (next_open t q (part_in sum t.client).live f.0) h
apart s sum m (entry.Left t q puts) f o h = two_open s t sum o (next_open t q (part_in sum t.client).live f.0) h
apart s sum m (entry.Cancelled t q path) f o h = two_open s t sum o (next_open t q (part_in sum t.client).live f.0) h
apart s sum m (entry.Denied t q why) f o h = two_open s t sum o (next_open t q (part_in sum t.client).live f) h
apart s sum m (entry.On t q path) f o h = two_open s t sum o (next_open t q (part_in sum t.client).live f.0) h
apart s sum m (entry.Off t q path) f o h = two_open s t sum o (next_open t q (part_in sum t.client).live f) h
apart s sum m (entry.Ended t q why rows) f o h = two_open s t sum o f.0 h

-- ---- an entry

-- the messages are numbered on, and where the session is open then, as many were sent to it
abbrev pub AreSent : SessionId → ℕ → List Down → Sum → Type 0
AreSent s n ms after = AreNumbered (n + 1) ms × (is_open_in s after ≡ true → sent_by s.client after.sessions ≡ Some (n + length ms))

not_ended : (b : Bool) → ((true && not b) || false) ≡ true → b ≡ false
not_ended false g = refl
not_ended true g = absurd (true≢false (sym g))

module _ (s : SessionId) (sum : Sum) (m : ℕ) (e : Entry) (k : Keeps sum) (f : MayEnter sum m e) (o : is_open_in s sum ≡ true) (new : opens s e ≡ false) where
  abbrev mid : OpenSessions
  mid = (carried e sum).sessions

  own : (n : ℕ) → sent_by s.client mid ≡ Some n → AreSent s n (those_for s (own_by sum e)) (sum_after e sum)
  own n h = by (same_session s (session_of e)) refl where
    by : (b : Bool) → same_session s (session_of e) ≡ b → AreSent s n (those_for s (own_by sum e)) (sum_after e sum)
    by true d =
        let is : s ≡ session_of e = session_same s (session_of e) d in
        let here : sent_by (session_of e).client mid ≡ Some n = ap (λ (u : SessionId). sent_by u.client mid) (sym is) ∙ h in
        let unopened : opens (session_of e) e ≡ false = ap (λ u. opens u e) (sym is) ∙ new in
        let one = one_answer sum m (sum.number + 1) n e (carried e sum).tree f unopened in
        let told : those_for s (own_by sum e) ≡ one.0 ∷ [] =
        own_for_itself s sum e d ∙ ap (λ x. answer_by (sum.number + 1) e (part_in sum (session_of e).client).rows x (carried e sum).tree) here ∙ one.1 in (
          subst (AreNumbered (n + 1)) (sym told) (one.2, tt),
          λ live.
              let lasting : ends s e ≡ false = not_ended (ends s e) (sym (open_entry sum m e k f s ∙ (λ i. (o i && not (ends s e)) || new i)) ∙ live) in
              ap (λ (u : SessionId). sent_by u.client (sessions_after e mid)) is
              ∙ own_sent e mid n here unopened (ap (λ u. ends u e) (sym is) ∙ lasting)
              ∙ ap (λ l. Some (n + length l)) (sym told),
        )
    by false d =
        let other : same_client (session_of e).client s.client ≡ false = other_client (same_client (session_of e).client s.client) (same_session s (session_of e)) (apart s sum m e f o) d in
        let sent : sent_by s.client (sessions_after e mid) ≡ Some n = ap (option_map (λ (x : OpenSession). x.sent)) (others_stay e mid s.client other) ∙ h in
        let nothing = nothing_counted s n (sent_by s.client (sessions_after e mid)) sent in
        subst (λ l. AreSent s n l (sum_after e sum)) (sym (own_for_other s sum e d)) (nothing.0, λ live. nothing.1)

  pub entry_numbers : (n : ℕ) → sent_by s.client sum.sessions ≡ Some n → AreSent s n (those_for s (answers_to_by sum e)) (sum_after e sum)
  entry_numbers n h =
      let pushes = those_for s (entry_pushes sum e) in
      let first = pushes_counted s (sum.number + 1) (carried e sum).tree (touched (writes_of e) sum.listeners) sum.sessions n (alone s sum (writes_of e) k o) h in
      let last = own (n + length pushes) first.1 in
      let told : those_for s (answers_to_by sum e) ≡ pushes ++ those_for s (own_by sum e) = those-append s (entry_pushes sum e) (own_by sum e) in
      subst (λ l. AreSent s n l (sum_after e sum)) (sym told) (
        numbered_append (n + 1) (n + length pushes + 1) pushes (those_for s (own_by sum e)) (swapped n (length pushes)) first.0 last.0,
        λ live. last.1 live ∙ ap Some (added n (length pushes) (length (those_for s (own_by sum e))) (length (pushes ++ those_for s (own_by sum e))) (length-append pushes (those_for s (own_by sum e)))),
      ) where
        swapped : (a b : ℕ) → a + b + 1 ≡ a + 1 + b
        swapped a b = omega arith

        added : (a b c d : ℕ) → d ≡ b + c → a + b + c ≡ a + d
        added a b c d g = omega (arith, g)

-- ---- the messages so far

-- those after the first
abbrev pub after_first : List Down → List Down
after_first [] = []
after_first (m ∷ more) = more

-- with what is numbered on from there
pub numbered_on : (s : SessionId) (ms new : List Down) → StartsWithWelcome s ms → AreNumbered 1 (after_first ms) → AreNumbered (length (after_first ms) + 1) new → AreNumbered 1 (after_first (ms ++ new))
numbered_on s [] new w h k = absurd w
numbered_on s (m ∷ more) new w h k = numbered_append 1 (length more + 1) more new (swapped (length more)) h k where
  swapped : (a : ℕ) → a + 1 ≡ 1 + a
  swapped a = omega arith

pub counted_on : (s : SessionId) (ms new : List Down) → StartsWithWelcome s ms → length (after_first ms) + length new ≡ length (after_first (ms ++ new))
counted_on s [] new w = absurd w
counted_on s (m ∷ more) new w = sym (length-append more new)

-- nothing was sent to a session that was just opened
pub none_sent : (s : SessionId) (sum : Sum) → sent_by s.client (sum_after (entry.Open s) sum).sessions ≡ Some 0
none_sent s sum =
    let es = (carried (entry.Open s) sum).sessions in
    ap (option_map (λ (x : OpenSession). x.sent))
    (find_put s.client (began (stamp_of s)) es s.client ∙ ap (λ b. cond b (Some (began (stamp_of s))) (find client_cmp s.client es)) (client_itself s.client))
