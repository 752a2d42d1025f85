-- Who is open after an entry, by the sum, and that no session is opened again.
use Rattle.std.proofs.Common.{refl, sym, ◌∙◌, ap, subst, ◌≡◌, ℕ, List, [], ◌∷◌, length, Bool, true, false, not, cond, ◌||◌, ◌&&◌, ◌==◌, true≢false, Option, Some, None}
use Rattle.std.specs.List.{list_any}
use Rattle.std.specs.Option.{option_map}
use Rattle.std.specs.FinMap.Entries.{find}
use Rattle.std.proofs.lemmas.Bool.{and_parts, eqb-true}
use Rattle.pres_write.specs.declared.basic.Basic.{Basic}
use Rattle.pres_ids.specs.declared.id.Stamp.{Stamp}
use Rattle.pres_ids.specs.declared.id.SessionId.{SessionId}
use Rattle.pres_ids.specs.declared.id.Why.{Why}
use Rattle.pres_ids.specs.Ids.{ClientId, client_cmp, same_client, same_session, stamp_of, is_earlier}
use Rattle.pres_log.specs.declared.entry.Entry.{Entry}
use Rattle.pres_log.specs.declared.entry.Entry.TheVariants as entry
use Rattle.pres_server.specs.Sessions.{session_of}
use Rattle.pres_server.specs.InternalParts.{LivePart, Part, comes_after, same_stamp, is_live}
use Rattle.pres_server.specs.InternalFollows.{MayComeTogetherBy}
use Rattle.pres_server.specs.InternalSums.{MayEnter, MayEnterAll}
use Rattle.pres_server.specs.Sums.{Sum, OpenSession, OpenSessions, last_by, live_of, part_in, paths_in, is_open_in, changed, carried, began, answered, sum_after, sum_after_all}
use Rattle.pres_server.specs.Histories.{Keeps}
use Rattle.pres_server.proofs.Clients.{client_same, client_sym, session_same}
use Rattle.pres_server.proofs.Keyed.{find_put, find_others, find_changed}
use Rattle.pres_server.proofs.Touching.{part_carried}
use Rattle.pres_server.proofs.KeptSums.{kept_after, pair_of, last_is, enters}
use Rattle.pres_history.specs.Sessions.{opens, ends}
use Rattle.pres_history.proofs.Parts.{not_earlier, earlier_still}
use Rattle.pres_history.proofs.Steps.{or_false}

-- ---- sessions of one client

-- two sessions of a client are the same where their stamps are
same_by_stamp : (s t : SessionId) → same_client s.client t.client ≡ true → same_session s t ≡ same_stamp (stamp_of s) (stamp_of t)
same_by_stamp s t h = ap (λ b. b && s.incarnation == t.incarnation && s.attempt == t.attempt) h

other_client : (s t : SessionId) → same_client s.client t.client ≡ false → same_session s t ≡ false
other_client s t h = ap (λ b. b && s.incarnation == t.incarnation && s.attempt == t.attempt) h

stamp_same : (a b : Stamp) → same_stamp a b ≡ true → a ≡ b
stamp_same a b h =
    let p = and_parts (a.incarnation == b.incarnation) _ h in
    λ i. record { incarnation = eqb-true a.incarnation b.incarnation p.0 i; attempt = eqb-true a.attempt b.attempt p.1 i }

-- of a client one session is open
pub one_live : (s t : SessionId) (l : Option LivePart) → same_client s.client t.client ≡ true → is_live l (stamp_of s) ≡ true → is_live l (stamp_of t) ≡ true → same_session s t ≡ true
one_live s t None c a b = absurd (true≢false (sym a))
one_live s t (Some l) c a b = same_by_stamp s t c ∙ ap (same_stamp (stamp_of s)) (stamp_same (stamp_of t) l.stamp b) ∙ a

-- ---- who is open after an entry

-- the writes of an entry open and end no session
pub open_carried : (e : Entry) (sum : Sum) → Keeps sum → (s : SessionId) → is_live (option_map live_of (find client_cmp s.client (carried e sum).sessions)) (stamp_of s) ≡ is_open_in s sum
open_carried e sum k s = ap (λ (p : Part). is_live p.live (stamp_of s)) (part_carried e sum k s.client)

-- nor does an answer
still_open : (e : Entry) (b : Bool) (o : Option OpenSession) (t : Stamp) → is_live (option_map live_of (cond b (option_map (answered e) o) o)) t ≡ is_live (option_map live_of o) t
still_open e true None t = refl
still_open e true (Some o) t = refl
still_open e false o t = refl

own_still : (e : Entry) (sum : Sum) → Keeps sum → (s : SessionId) → is_live (option_map live_of (find client_cmp s.client (changed (session_of e).client (answered e) (carried e sum).sessions))) (stamp_of s) ≡ is_open_in s sum
own_still e sum k s =
    ap (λ o. is_live (option_map live_of o) (stamp_of s)) (find_changed (session_of e).client (answered e) (carried e sum).sessions s.client)
    ∙ still_open e (same_client (session_of e).client s.client) (find client_cmp s.client (carried e sum).sessions) (stamp_of s)
    ∙ open_carried e sum k s

-- it was open and isn't ended, or it is opened
abbrev pub is_open_after : SessionId → Sum → Entry → Bool
is_open_after s sum e = (is_open_in s sum && not (ends s e)) || opens s e

as_before : (b : Bool) → b ≡ ((b && true) || false)
as_before true = refl
as_before false = refl

opened_open : (sum : Sum) (m : ℕ) (t : SessionId) → Keeps sum → MayEnter sum m (entry.Open t) → (s : SessionId) → is_open_in s (sum_after (entry.Open t) sum) ≡ ((is_open_in s sum && true) || same_session s t)
opened_open sum m t k f s =
    ap (λ o. is_live (option_map live_of o) (stamp_of s)) (find_put t.client (began (stamp_of t)) mid s.client)
    ∙ by (same_client t.client s.client) refl where
      mid : OpenSessions
      mid = (carried (entry.Open t) sum).sessions

      by : (b : Bool) → same_client t.client s.client ≡ b → is_live (option_map live_of (cond b (Some (began (stamp_of t))) (find client_cmp s.client mid))) (stamp_of s) ≡ ((is_open_in s sum && true) || same_session s t)
      by true h =
          let closed : is_open_in s sum ≡ false = ap (λ c. is_live (part_in sum c).live (stamp_of s)) (sym (client_same t.client s.client h)) ∙ ap (λ l. is_live l (stamp_of s)) f.1 in
          sym (same_by_stamp s t (client_sym s.client t.client ∙ h)) ∙ ap (λ b. (b && true) || same_session s t) (sym closed)
      by false h =
          open_carried (entry.Open t) sum k s
          ∙ as_before (is_open_in s sum)
          ∙ ap (λ b. (is_open_in s sum && true) || b) (sym (other_client s t (client_sym s.client t.client ∙ h)))

ended_open : (sum : Sum) (m : ℕ) (t : SessionId) (q : Option ℕ) (w : Why) (rows : List Basic) → Keeps sum → MayEnter sum m (entry.Ended t q w rows) → (s : SessionId)
    → is_open_in s (sum_after (entry.Ended t q w rows) sum) ≡ ((is_open_in s sum && not (same_session s t)) || false)
ended_open sum m t q w rows k f s =
    ap (λ o. is_live (option_map live_of o) (stamp_of s)) (find_others t.client mid s.client)
    ∙ by (same_client t.client s.client) refl where
      mid : OpenSessions
      mid = (carried (entry.Ended t q w rows) sum).sessions

      gone : same_client t.client s.client ≡ true → (o : Bool) → is_open_in s sum ≡ o → false ≡ ((o && not (same_session s t)) || false)
      gone h false g = refl
      gone h true g =
          let there : is_live (part_in sum s.client).live (stamp_of t) ≡ true = ap (λ x. is_live (part_in sum x).live (stamp_of t)) (sym (client_same t.client s.client h)) ∙ f.0 in
          ap (λ b. not b || false) (sym (one_live s t (part_in sum s.client).live (client_sym s.client t.client ∙ h) g there))

      by : (b : Bool) → same_client t.client s.client ≡ b → is_live (option_map live_of (cond b None (find client_cmp s.client mid))) (stamp_of s) ≡ ((is_open_in s sum && not (same_session s t)) || false)
      by true h = gone h (is_open_in s sum) refl
      by false h =
          open_carried (entry.Ended t q w rows) sum k s
          ∙ as_before (is_open_in s sum)
          ∙ ap (λ b. (is_open_in s sum && not b) || false) (sym (other_client s t (client_sym s.client t.client ∙ h)))

pub open_entry : (sum : Sum) (m : ℕ) (e : Entry) → Keeps sum → MayEnter sum m e → (s : SessionId) → is_open_in s (sum_after e sum) ≡ is_open_after s sum e
open_entry sum m (entry.Open t) k f s = opened_open sum m t k f s
open_entry sum m (entry.Op t q n op outcome) k f s = own_still (entry.Op t q n op outcome) sum k s ∙ as_before (is_open_in s sum)
open_entry sum m (entry.Again t q n) k f s = own_still (entry.Again t q n) sum k s ∙ as_before (is_open_in s sum)
open_entry sum m (entry.Left t q puts) k f s = own_still (entry.Left t q puts) sum k s ∙ as_before (is_open_in s sum)
open_entry sum m (entry.Cancelled t q path) k f s = own_still (entry.Cancelled t q path) sum k s ∙ as_before (is_open_in s sum)
open_entry sum m (entry.Denied t q w) k f s = own_still (entry.Denied t q w) sum k s ∙ as_before (is_open_in s sum)
open_entry sum m (entry.On t q path) k f s = own_still (entry.On t q path) sum k s ∙ as_before (is_open_in s sum)
open_entry sum m (entry.Off t q path) k f s = own_still (entry.Off t q path) sum k s ∙ as_before (is_open_in s sum)
open_entry sum m (entry.Ended t q w rows) k f s = ended_open sum m t q w rows k f s

-- a session that is closed stays so where it isn't opened
pub closed_entry : (sum : Sum) (m : ℕ) (e : Entry) → Keeps sum → MayEnter sum m e → (s : SessionId) → is_open_in s sum ≡ false → opens s e ≡ false → is_open_in s (sum_after e sum) ≡ false
closed_entry sum m e k f s o n = open_entry sum m e k f s ∙ λ i. (o i && not (ends s e)) || n i

-- an entry that ends a session opens none
pub ends_opens : (s : SessionId) (e : Entry) → ends s e ≡ true → opens s e ≡ false
ends_opens s (entry.Open t) h = absurd (true≢false (sym h))
ends_opens s (entry.Op t q n op outcome) h = refl
ends_opens s (entry.Again t q n) h = refl
ends_opens s (entry.Left t q puts) h = refl
ends_opens s (entry.Cancelled t q path) h = refl
ends_opens s (entry.Denied t q w) h = refl
ends_opens s (entry.On t q path) h = refl
ends_opens s (entry.Off t q path) h = refl
ends_opens s (entry.Ended t q w rows) h = refl

pub opening_is : (s : SessionId) (e : Entry) → opens s e ≡ true → e ≡ entry.Open s
opening_is s (entry.Open t) h = ap (λ u. entry.Open u) (sym (session_same s t h))
opening_is s (entry.Op t q n op outcome) h = absurd (true≢false (sym h))
opening_is s (entry.Again t q n) h = absurd (true≢false (sym h))
opening_is s (entry.Left t q puts) h = absurd (true≢false (sym h))
opening_is s (entry.Cancelled t q path) h = absurd (true≢false (sym h))
opening_is s (entry.Denied t q w) h = absurd (true≢false (sym h))
opening_is s (entry.On t q path) h = absurd (true≢false (sym h))
opening_is s (entry.Off t q path) h = absurd (true≢false (sym h))
opening_is s (entry.Ended t q w rows) h = absurd (true≢false (sym h))

-- ---- who can't be opened any more

-- s doesn't come after the last session of its client
abbrev pub IsPast : SessionId → Sum → Type 0
IsPast s sum = comes_after (part_in sum s.client).last (stamp_of s) ≡ false

pub past_open : (sum : Sum) (s : SessionId) → is_open_in s sum ≡ true → IsPast s sum
past_open sum s o = ap (λ l. comes_after l (stamp_of s)) (last_is sum s o) ∙ not_earlier (stamp_of s)

pub past_unopened : (sum : Sum) (m : ℕ) (e : Entry) → MayEnter sum m e → (s : SessionId) → IsPast s sum → opens s e ≡ false
past_unopened sum m (entry.Open t) f s p = by (same_session s t) refl where
  by : (b : Bool) → same_session s t ≡ b → b ≡ false
  by false h = refl
  by true h = absurd (true≢false (sym f.0 ∙ subst (λ u. IsPast u sum) (session_same s t h) p))
past_unopened sum m (entry.Op t q n op outcome) f s p = refl
past_unopened sum m (entry.Again t q n) f s p = refl
past_unopened sum m (entry.Left t q puts) f s p = refl
past_unopened sum m (entry.Cancelled t q path) f s p = refl
past_unopened sum m (entry.Denied t q w) f s p = refl
past_unopened sum m (entry.On t q path) f s p = refl
past_unopened sum m (entry.Off t q path) f s p = refl
past_unopened sum m (entry.Ended t q w rows) f s p = refl

last_carried : (e : Entry) (sum : Sum) → Keeps sum → (c : ClientId) → last_by (find client_cmp c (carried e sum).sessions) (find client_cmp c sum.gone) ≡ (part_in sum c).last
last_carried e sum k c = ap (λ (p : Part). p.last) (part_carried e sum k c)

last_answered : (e : Entry) (b : Bool) (o : Option OpenSession) (last : Option Stamp) → last_by (cond b (option_map (answered e) o) o) last ≡ last_by o last
last_answered e true None last = refl
last_answered e true (Some o) last = refl
last_answered e false o last = refl

own_last : (e : Entry) (sum : Sum) → Keeps sum → (c : ClientId) → last_by (find client_cmp c (changed (session_of e).client (answered e) (carried e sum).sessions)) (find client_cmp c sum.gone) ≡ (part_in sum c).last
own_last e sum k c =
    ap (λ o. last_by o (find client_cmp c sum.gone)) (find_changed (session_of e).client (answered e) (carried e sum).sessions c)
    ∙ last_answered e (same_client (session_of e).client c) (find client_cmp c (carried e sum).sessions) (find client_cmp c sum.gone)
    ∙ last_carried e sum k c

own_past : (e : Entry) (sum : Sum) → Keeps sum → (s : SessionId) → IsPast s sum
    → comes_after (last_by (find client_cmp s.client (changed (session_of e).client (answered e) (carried e sum).sessions)) (find client_cmp s.client sum.gone)) (stamp_of s) ≡ false
own_past e sum k s p = ap (λ l. comes_after l (stamp_of s)) (own_last e sum k s.client) ∙ p

-- what comes after a stamp isn't before another that doesn't
not_before : (l : Option Stamp) (t s : Stamp) → comes_after l t ≡ true → comes_after l s ≡ false → is_earlier t s ≡ false
not_before None t s a b = absurd (true≢false b)
not_before (Some l) t s a b = by (is_earlier t s) refl where
  by : (x : Bool) → is_earlier t s ≡ x → x ≡ false
  by false h = refl
  by true h = absurd (true≢false (sym (earlier_still l t s a h) ∙ b))

pub past_entry : (sum : Sum) (m : ℕ) (e : Entry) → Keeps sum → MayEnter sum m e → (s : SessionId) → IsPast s sum → IsPast s (sum_after e sum)
past_entry sum m (entry.Open t) k f s p =
    (λ i. comes_after (last_by (find_put t.client (began (stamp_of t)) mid s.client i) (find_others t.client sum.gone s.client i)) (stamp_of s))
    ∙ by (same_client t.client s.client) refl where
      mid : OpenSessions
      mid = (carried (entry.Open t) sum).sessions

      by : (b : Bool) → same_client t.client s.client ≡ b → comes_after (last_by (cond b (Some (began (stamp_of t))) (find client_cmp s.client mid)) (cond b None (find client_cmp s.client sum.gone))) (stamp_of s) ≡ false
      by true h = not_before (part_in sum t.client).last (stamp_of t) (stamp_of s) f.0 (ap (λ c. comes_after (part_in sum c).last (stamp_of s)) (client_same t.client s.client h) ∙ p)
      by false h = ap (λ l. comes_after l (stamp_of s)) (last_carried (entry.Open t) sum k s.client) ∙ p
past_entry sum m (entry.Op t q n op outcome) k f s p = own_past (entry.Op t q n op outcome) sum k s p
past_entry sum m (entry.Again t q n) k f s p = own_past (entry.Again t q n) sum k s p
past_entry sum m (entry.Left t q puts) k f s p = own_past (entry.Left t q puts) sum k s p
past_entry sum m (entry.Cancelled t q path) k f s p = own_past (entry.Cancelled t q path) sum k s p
past_entry sum m (entry.Denied t q w) k f s p = own_past (entry.Denied t q w) sum k s p
past_entry sum m (entry.On t q path) k f s p = own_past (entry.On t q path) sum k s p
past_entry sum m (entry.Off t q path) k f s p = own_past (entry.Off t q path) sum k s p
past_entry sum m (entry.Ended t q w rows) k f s p =
    (λ i. comes_after (last_by (find_others t.client mid s.client i) (find_put t.client (stamp_of t) sum.gone s.client i)) (stamp_of s))
    ∙ by (same_client t.client s.client) refl where
      mid : OpenSessions
      mid = (carried (entry.Ended t q w rows) sum).sessions

      by : (b : Bool) → same_client t.client s.client ≡ b → comes_after (last_by (cond b None (find client_cmp s.client mid)) (cond b (Some (stamp_of t)) (find client_cmp s.client sum.gone))) (stamp_of s) ≡ false
      by true h =
          ap (λ l. comes_after l (stamp_of s)) (sym (last_is sum t f.0))
          ∙ ap (λ c. comes_after (part_in sum c).last (stamp_of s)) (client_same t.client s.client h)
          ∙ p
      by false h = ap (λ l. comes_after l (stamp_of s)) (last_carried (entry.Ended t q w rows) sum k s.client) ∙ p

-- ---- several entries

pub neither : (a b : Bool) → (a || b) ≡ false → (a ≡ false) × (b ≡ false)
neither true b h = absurd (true≢false h)
neither false b h = (refl, h)

pub closed_all : (xs : List Entry) (sum : Sum) (m : ℕ) → Keeps sum → MayEnterAll sum m xs → (s : SessionId) → is_open_in s sum ≡ false → list_any (opens s) xs ≡ false → is_open_in s (sum_after_all xs sum) ≡ false
closed_all [] sum m k f s o n = o
closed_all (e ∷ more) sum m k f s o n =
    let both = neither (opens s e) (list_any (opens s) more) n in
    closed_all more (sum_after e sum) m (kept_after sum m e k f.0) f.1 s (closed_entry sum m e k f.0 s o both.0) both.1

-- ---- a batch

two_open : (o e f p q : Bool) → p ≡ false → ((((o && not e) || p) && not f) || q) ≡ ((o && not (e || (f || false))) || (p || (q || false)))
two_open o e f true q h = absurd (true≢false h)
two_open false e f false q h = sym (or_false q)
two_open true true f false q h = sym (or_false q)
two_open true false true false q h = sym (or_false q)
two_open true false false false q h = refl

pub open_batch : (xs : List Entry) (sum : Sum) (m : ℕ) → Keeps sum → MayComeTogetherBy (part_in sum) (paths_in sum) (length sum.sessions) sum.tree m xs → (s : SessionId)
    → is_open_in s (sum_after_all xs sum) ≡ ((is_open_in s sum && not (list_any (ends s) xs)) || list_any (opens s) xs)
open_batch [] sum m k f s = absurd f
open_batch (e ∷ []) sum m k f s =
    open_entry sum m e k (enters sum m (e ∷ []) f).0 s
    ∙ λ i. (is_open_in s sum && not (sym (or_false (ends s e)) i)) || sym (or_false (opens s e)) i
open_batch (e ∷ g ∷ []) sum m k f s =
    let all = enters sum m (e ∷ g ∷ []) f in
    open_entry (sum_after e sum) m g (kept_after sum m e k all.0) all.1.0 s
    ∙ ap (λ b. (b && not (ends s g)) || opens s g) (open_entry sum m e k all.0 s)
    ∙ two_open (is_open_in s sum) (ends s e) (ends s g) (opens s e) (opens s g) (ap (opens s) (pair_of e g f.0).first)
open_batch (e ∷ g ∷ h ∷ more) sum m k f s = absurd f
