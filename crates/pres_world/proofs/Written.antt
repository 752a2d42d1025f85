-- What went out of one start of a client, and where the count of its writes begins.
use Rattle.std.proofs.Common.{refl, sym, ◌∙◌, ap, subst, ◌≡◌, ◌+◌, ◌<◌, ◌≤◌, ℕ, Bool, true, false, List, [], ◌∷◌, ◌++◌, length, take, slice_get, ◌⊎◌, inl, inr, Option, Some, None, true≢false, arith, append_assoc, length-append, ◌||◌, nat_lt}
use Rattle.std.specs.List.{Contains}
use Rattle.std.proofs.lemmas.Bool.{cases_order, lt-ltb}
use Rattle.pres_ids.specs.declared.id.SessionId.{SessionId}
use Rattle.pres_ids.specs.Ids.{ClientId, stamp_of, is_earlier}
use Rattle.pres_write.specs.declared.op.Op.{Op}
use Rattle.pres_write.specs.declared.outcome.Outcome.{Outcome}
use Rattle.pres_wire.specs.declared.up.Up.{Up}
use Rattle.pres_wire.specs.declared.up.Up.TheVariants as up
use Rattle.pres_wire.specs.declared.down.Down.{Down}
use Rattle.pres_wire.specs.declared.down.Down.TheVariants as down
use Rattle.pres_log.specs.declared.entry.Entry.{Entry}
use Rattle.pres_log.specs.declared.entry.Entry.TheVariants as entry
use Rattle.pres_log.specs.Logs.{Log, entries}
use Rattle.pres_history.specs.LegalLog.{IsLegal}
use Rattle.pres_history.specs.Outcomes.{ops}
use Rattle.pres_history.specs.Sessions.{opens}
use Rattle.pres_server.proofs.Clients.{session_itself}
use Rattle.pres_world.specs.Safe.{IsInTranscript}
use Rattle.pres_world.proofs.Stands.{none_or_some, stands_may, got_small, take_within, take_whole, among, ops-append, op_counts, found_before}
use Rattle.pres_world.proofs.SessionOrder.{open_is_newest}
use Rattle.pres_world.proofs.Backed.{here}
use Rattle.pres_world.proofs.Writes.{IsNth}

-- ---- where the count begins

-- a session of this start of the client was opened after x writes of the client
pub record IsBase (es : List Entry) (id : ClientId) (start x : ℕ) : Type 0 where
  pub session : SessionId
  pub before : List Entry
  pub later : List Entry
  pub opened : (before ++ entry.Open session ∷ []) ++ later ≡ es
  pub client : session.client ≡ id
  pub incarnation : session.incarnation ≡ start
  pub count : x ≡ ops session.client (before ++ entry.Open session ∷ [])

pub base_front : (es more : List Entry) (id : ClientId) (start x : ℕ) → IsBase es id start x → IsBase (es ++ more) id start x
base_front es more id start x h = record {
  session = h.session;
  before = h.before;
  later = h.later ++ more;
  opened = sym (append_assoc (h.before ++ entry.Open h.session ∷ []) h.later more) ∙ ap (λ l. l ++ more) h.opened;
  client = h.client;
  incarnation = h.incarnation;
  count = h.count;
}

abbrev ops_in : Down → ℕ
ops_in (down.Welcome s z count) = count
ops_in _ = 0

-- it is what the session's Welcome says
pub base_told : (es : List Entry) (s : SessionId) (z x : ℕ) → IsInTranscript es (down.Welcome s z x) → IsBase es s.client s.incarnation x
base_told es s z x h = record {
  session = s;
  before = h.0;
  later = h.1;
  opened = append_assoc h.0 (entry.Open s ∷ []) h.1 ∙ sym h.2;
  client = refl;
  incarnation = refl;
  count = ap ops_in h.3;
}

or_first : (a c : Bool) → (a || c) ≡ false → a ≡ false
or_first true c h = absurd (true≢false h)
or_first false c h = refl

-- a write of the client with a number above the count is of no earlier start
pub not_older : (log : Log) → IsLegal log → (id : ClientId) (start x : ℕ) → IsBase (entries log) id start x → (u : SessionId) (q n : ℕ) (o : Op) (r : Outcome) (k : ℕ) →
    slice_get (entries log) k ≡ Some (entry.Op u q n o r) → u.client ≡ id → x < n → start ≤ u.incarnation
not_older log legal id start x h u q n o r k get its less = by (cases_order k (length pre)) where
  es : List Entry
  es = entries log

  pre : List Entry
  pre = h.before ++ entry.Open h.session ∷ []

  e : Entry
  e = entry.Op u q n o r

  client : u.client ≡ h.session.client
  client = its ∙ sym h.client

  among_first : k < length pre → ⊥
  among_first small =
      let number : n ≡ ops u.client (take k es) + 1 = (stands_may log legal k e get).1.1 in
      let front = among es k (length pre) e get small in
      let is : take (length pre) es ≡ pre = ap (take (length pre)) (sym h.opened) ∙ take_within pre h.later (length pre) (omega arith) ∙ take_whole pre in
      let counted = op_counts u q n o r (take k es) in
      let more = subst (λ fs. ops u.client (take k es ++ e ∷ []) ≤ ops u.client fs) (sym front.1 ∙ is) (ops-append u.client (take k es ++ e ∷ []) front.0) in
      let count : x ≡ ops u.client pre = h.count ∙ ap (λ c. ops c pre) (sym client) in
      omega (arith, number, counted, more, count, less)

  behind : length h.before < k → start ≤ u.incarnation
  behind later = order (cases_order u.incarnation h.session.incarnation) where
    newest : is_earlier (stamp_of u) (stamp_of h.session) ≡ false
    newest =
        let opened_then = found_before (opens h.session) es (length h.before) k (entry.Open h.session) (here h.before h.later es (entry.Open h.session) h.opened) later (session_itself h.session) in
        let small = got_small es k e get in
        open_is_newest log legal k (omega (arith, small)) u h.session (stands_may log legal k e get).1.0.0 opened_then client

    order : (u.incarnation ≡ h.session.incarnation) ⊎ ((u.incarnation < h.session.incarnation) ⊎ (h.session.incarnation < u.incarnation)) → start ≤ u.incarnation
    order (inl same) = let began = h.incarnation in omega (arith, same, began)
    order (inr (inr more)) = let began = h.incarnation in omega (arith, more, began)
    order (inr (inl earlier)) = absurd (true≢false (sym (lt-ltb u.incarnation h.session.incarnation earlier) ∙ or_first (nat_lt u.incarnation h.session.incarnation) _ newest))

  by : (k ≡ length pre) ⊎ ((k < length pre) ⊎ (length pre < k)) → start ≤ u.incarnation
  by (inl is) = let all = length-append h.before (entry.Open h.session ∷ []) in behind (omega (arith, is, all))
  by (inr (inl small)) = absurd (among_first small)
  by (inr (inr large)) = let all = length-append h.before (entry.Open h.session ∷ []) in behind (omega (arith, large, all))

-- ---- what went out of one start

-- every packet of this start of the client with a write has the one with its number, counted on from where it began
pub record Written (es : List Entry) (ups : List Up) (id : ClientId) (start : ℕ) (b : Option ℕ) (ws : List Op) : Type 0 where
  pub fits : (s : SessionId) (q n : ℕ) (o : Op) → Contains ups (up.Op s q n o) → s.client ≡ id → s.incarnation ≡ start → IsNth b ws n o
  pub based : (x : ℕ) → b ≡ Some x → IsBase es id start x

-- so it is for some writes
pub record SomeWritten (es : List Entry) (ups : List Up) (id : ClientId) (start : ℕ) : Type 0 where
  pub base : Option ℕ
  pub writes : List Op
  pub all : Written es ups id start base writes

pub written_front : (es more : List Entry) (ups : List Up) (id : ClientId) (start : ℕ) (b : Option ℕ) (ws : List Op) → Written es ups id start b ws → Written (es ++ more) ups id start b ws
written_front es more ups id start b ws h = record { fits = h.fits; based = λ x e. base_front es more id start x (h.based x e) }

-- packets that carry no write of this start change nothing
pub written_beside : (es : List Entry) (ups vs : List Up) (id : ClientId) (start : ℕ) (b : Option ℕ) (ws : List Op) → ((s : SessionId) (q n : ℕ) (o : Op) → Contains vs (up.Op s q n o) → s.client ≡ id → s.incarnation ≡ start → Contains ups (up.Op s q n o)) → Written es ups id start b ws → Written es vs id start b ws
written_beside es ups vs id start b ws f h = record { fits = λ s q n o there its its_start. h.fits s q n o (f s q n o there its its_start) its its_start; based = h.based }

-- nothing went out yet
pub none_written : (es : List Entry) (ups : List Up) (id : ClientId) (start : ℕ) → ((s : SessionId) (q n : ℕ) (o : Op) → Contains ups (up.Op s q n o) → s.client ≡ id → s.incarnation ≡ start → ⊥) → Written es ups id start None []
none_written es ups id start f = record { fits = λ s q n o there its its_start. absurd (f s q n o there its its_start); based = λ x e. absurd (none_or_some x e) }
