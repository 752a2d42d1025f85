-- The sum of a whole legal log.
use Rattle.std.proofs.Common.{inl, refl, sym, ◌∙◌, ap, subst, ◌≡◌, ℕ, ◌+◌, ◌≤◌, min, max, List, [], ◌∷◌, ◌++◌, length, map, append-nil, append_assoc, arith, length-append, Option, Some, None, is_some, MatchOption}
use Rattle.std.specs.Option.{option_map}
use Rattle.std.specs.BTreeMap.{IsOrdered}
use Rattle.std.specs.FinMap.Entries.{find}
use Rattle.std.specs.List.Sorted.{IsStrictlySortedBy}
use Rattle.std.proofs.lemmas.List.{length-map}
use Rattle.std_collections.specs.Layout.BTreeMap.{btree_map}
use Rattle.pres_tree.specs.declared.scalar.Scalar.{Scalar}
use Rattle.pres_tree.specs.Paths.{Path}
use Rattle.pres_tree.specs.Rows.{Rows}
use Rattle.pres_write.specs.Moments as moments
use Rattle.pres_ids.specs.declared.id.SessionId.{SessionId}
use Rattle.pres_ids.specs.Ids.{ClientId, client_cmp, stamp_of}
use Rattle.pres_fan.specs.Listeners.{IsListeners, paths_of}
use Rattle.pres_log.specs.declared.entry.Batch.{Batch}
use Rattle.pres_log.specs.declared.entry.Entry.{Entry}
use Rattle.pres_log.specs.Logs.{Log, entries, last_moment}
use Rattle.pres_log.proofs.Entries.{entries-push}
use Rattle.pres_server.specs.declared.index.Index.{Index}
use Rattle.pres_server.specs.declared.input.Input.{Input}
use Rattle.pres_history.specs.Sessions.{is_open, sessions_of, open_sessions, open_sessions_of}
use Rattle.pres_history.specs.LegalLog.{MayFollow, IsLegal, IsLegalAfter}
use Rattle.pres_server.specs.ServerStates.{Heard}
use Rattle.pres_history.specs.ServerStates.{ServerState}
use Rattle.pres_server.specs.Turns.{Decision, makes, quiet, refused}
use Rattle.pres_history.specs.Turns.{moment_of, wanted, turn, batch_of, log_after}
use Rattle.pres_server.specs.InternalParts.{Part, is_live, count_in, listed, session_with, wanted_by, limited_by}
use Rattle.pres_history.specs.InternalParts.{Sound}
use Rattle.pres_server.specs.InternalSessions.{Session, open_count}
use Rattle.pres_server.specs.InternalIndex.{part_at, paths_at}
use Rattle.pres_history.specs.InternalInvariants.{ServerInvariant}
use Rattle.pres_server.specs.InternalFollows.{MayComeTogetherBy, LeavesRoomBy}
use Rattle.pres_history.proofs.Readers.{count_by, some_live}
use Rattle.pres_history.proofs.Decide.{live_is, wanted_is, wanted_allowed, limited_is}
use Rattle.pres_history.proofs.Follows.{joins_in, joins_out}
use Rattle.pres_server.proofs.Heard.{behind}
use Rattle.pres_history.proofs.OpenList.{id_of, open_list}
use Rattle.pres_history.proofs.Turned.{count_is, fitting, kept_after}
use Rattle.pres_server.proofs.Replayed.{sum_push}
use Rattle.pres_history.proofs.LegalLogs.{of_legal, legal_after, legal_is_sound}
use Rattle.pres_server.specs.Sums.{Sum, OpenSession, live_of, nothing, part_in, paths_in, sum_with, sum_from, sum_of}
use Rattle.pres_server.specs.SumAnswers.{answers_by}
use Rattle.pres_server.specs.SumTurns.{FollowsSum, FollowAll, moment_by, turn_by, sum_after_turn}
use Rattle.pres_history.specs.SumLaws.{Says, LegalReadersSay, SameHeard, SumSays, LegalSumSays, LegalByTheSum, SumsDecide, WholeIsLegal, ReachedStays}
use Rattle.pres_history.proofs.Keyed.{each}
use Rattle.pres_server.specs.InternalSums.{open_of}
use Rattle.pres_history.proofs.Summed.{IsSumOf, part_is, sent_is, TakenAll, taken}

-- ---- an index whose sum is that of the log

pub record Stands (log : Log) : Type 0 where
  pub index : Index
  pub holds : ServerInvariant log (last_moment log) index
  pub is_sum : IsSumOf index (sum_of log)
  pub number : (sum_of log).number ≡ length (entries log)
  pub batches : (sum_of log).batches ≡ length log
  pub moment : (sum_of log).moment ≡ last_moment log

abbrev empty : Index
empty = record { places = record { live = btree_map [] (inl tt); gone = btree_map [] (inl tt) }; retry = []; listeners = []; tree = [] }

no_listeners : IsListeners []
unfolding IsStrictlySortedBy
no_listeners = record { ordered = tt; few = λ s. omega arith }

in_order : IsOrdered client_cmp empty.places.live
unfolding IsStrictlySortedBy
in_order = tt

start : Stands []
start = record {
  index = empty;
  holds = record {
    legal = tt;
    indexed = record { parts = λ c. refl; sent = λ c. refl; listens = λ s. refl; held = no_listeners; tree = refl };
    last = refl;
    ordered = in_order;
  };
  is_sum = record { sessions = refl; gone = refl; rows = refl; listeners = refl; tree = refl };
  number = refl;
  batches = refl;
  moment = refl;
}

-- what its entries make of it
further : (log : Log) (b : Batch) → (s : Stands log) → MayFollow log b → TakenAll (entries log) b.entries (sum_of log)
further log b s f =
    let first : b.first ≡ (sum_of log).number + 1 = f.first ∙ ap (λ n. n + 1) (sym s.number) in
    taken b.entries (entries log) b.first b.moment s.index (sum_of log) (fitting log (last_moment log) s.index b s.holds f) s.is_sum first s.holds.ordered

step : (log : Log) (b : Batch) → Stands log → MayFollow log b → Stands (log ++ b ∷ [])
step log b s f = record {
  index = t.index;
  holds = subst (λ m. ServerInvariant (log ++ b ∷ []) m t.index) kept.last kept;
  is_sum = subst (IsSumOf t.index) (sym (sum_push nothing log b)) with_batch;
  number = ap (λ (x : Sum). x.number) (sum_push nothing log b) ∙ t.number ∙ (λ i. s.number i + length b.entries) ∙ sym (length-append (entries log) b.entries) ∙ ap length (sym (entries-push log b));
  batches = ap (λ (x : Sum). x.batches) (sum_push nothing log b) ∙ ap (λ n. n + 1) s.batches ∙ sym (length-append log (b ∷ []));
  moment = ap (λ (x : Sum). x.moment) (sum_push nothing log b) ∙ kept.last;
} where
  t : TakenAll (entries log) b.entries (sum_of log)
  t = further log b s f

  kept : ServerInvariant (log ++ b ∷ []) b.moment t.index
  kept = kept_after log (last_moment log) s.index t.index b s.holds f t.indexed t.ordered

  with_batch : IsSumOf t.index (sum_with (sum_of log) b)
  with_batch = record { sessions = t.is_sum.sessions; gone = t.is_sum.gone; rows = t.is_sum.rows; listeners = t.is_sum.listeners; tree = t.is_sum.tree }

pub stands : (log : Log) → IsLegal log → Stands log
stands = of_legal Stands start step

-- ---- what it says

-- the sessions that it names
named : (es : List (ClientId × Session)) → map (λ (e : ClientId × OpenSession). session_with e.0 e.1.stamp) (each open_of es) ≡ map (λ (e : ClientId × SessionId). e.1) (behind id_of es)
named [] = refl
named (e ∷ es) = ap (λ l. session_with e.0 e.1.stamp ∷ l) (named es)

says : (log : Log) → IsLegal log → Stands log → Says (entries log) (sum_of log)
says log legal s = record {
  number = s.number;
  parts = λ c. part_is s.index (sum_of log) s.is_sum c ∙ s.holds.indexed.parts c;
  sent = λ c. sent_is s.index (sum_of log) s.is_sum c ∙ s.holds.indexed.sent c;
  listens = λ t. ap (paths_of t) s.is_sum.listeners ∙ s.holds.indexed.listens t;
  sessions =
      ap (map (λ (e : ClientId × OpenSession). session_with e.0 e.1.stamp)) s.is_sum.sessions
      ∙ named s.index.places.live.entries
      ∙ ap (map (λ (e : ClientId × SessionId). e.1)) (open_list (entries log) s.index s.holds.indexed (legal_is_sound log legal) s.holds.ordered);
  tree = s.is_sum.tree ∙ s.holds.indexed.tree;
}

-- how many sessions are open
counted : (log : Log) → (s : Stands log) → length (sum_of log).sessions ≡ open_count s.index.places
counted log s = ap length s.is_sum.sessions ∙ length-map s.index.places.live.entries (λ (e : ClientId × Session). (e.0, open_of e.1))

-- ---- what may follow

abbrev Said : Type 0
Said = (ClientId → Part) × (SessionId → List Path) × ℕ × Rows Scalar

said : (log : Log) → (s : Stands log)
    → let a : Said = (part_in (sum_of log), paths_in (sum_of log), length (sum_of log).sessions, (sum_of log).tree) in
    let b : Said = (part_at s.index, paths_at s.index, open_count s.index.places, s.index.tree) in a ≡ b
said log s = λ i. (λ c. part_is s.index (sum_of log) s.is_sum c i, λ t. paths_of t (s.is_sum.listeners i), counted log s i, s.is_sum.tree i)

abbrev Together : ℕ → List Entry → Said → Type 0
Together m xs x = MayComeTogetherBy x.0 x.1 x.2 x.3 m xs

abbrev Room : List Entry → ℕ × ℕ → Type 0
Room xs x = LeavesRoomBy x.0 x.1 xs

follows_in : (log : Log) (b : Batch) → Stands log → FollowsSum (sum_of log) b → MayFollow log b
follows_in log b s f = joins_in log (last_moment log) s.index b s.holds f.in_range (record {
  first = f.first ∙ ap (λ n. n + 1) s.number;
  not_earlier = subst (λ m. m ≤ b.moment) s.moment f.not_earlier;
  room = subst (Room b.entries) (λ i. (s.number i, counted log s i)) f.room;
  together = subst (Together b.moment b.entries) (said log s) f.allowed;
})

follows_out : (log : Log) (b : Batch) → Stands log → MayFollow log b → FollowsSum (sum_of log) b
follows_out log b s f =
    let j = joins_out log (last_moment log) s.index b s.holds f in
    record {
      first = f.first ∙ ap (λ n. n + 1) (sym s.number);
      not_earlier = subst (λ m. m ≤ b.moment) (sym s.moment) f.not_earlier;
      in_range = f.in_range;
      allowed = subst (Together b.moment b.entries) (sym (said log s)) j.together;
      room = subst (Room b.entries) (λ i. (sym s.number i, sym (counted log s) i)) j.room;
    }

-- ---- turns

turns : (log : Log) → IsLegal log → (s : Stands log) → (heard : Heard) (input : Input) (now : ℕ) → turn_by (record { sum = sum_of log; heard = heard }) input now ≡ turn (record { log = log; heard = heard }) input now
turns log legal s heard input now = sym (
    limited_is es m (wanted state m input) sound (wanted_allowed state m input sound)
    ∙ (λ i. limited_by (sym s.number i) (sym open_now i) (wanted_is state m input sound i))
    ∙ (λ i. limited_by (sum_of log).number (length (sum_of log).sessions) (wanted_by (λ c. sym (w.parts c) i) (λ t. sym (w.listens t) i) heard (sym w.tree i) (sym moment_now i) input))) where
      es : List Entry
      es = entries log

      m : ℕ
      m = moment_of log now

      state : ServerState
      state = record { log = log; heard = heard }

      sound : Sound es
      sound = legal_is_sound log legal

      w : Says es (sum_of log)
      w = says log legal s

      open_now : length (sum_of log).sessions ≡ length (open_sessions es)
      open_now = counted log s ∙ count_is log (last_moment log) s.index s.holds

      moment_now : moment_by (sum_of log) now ≡ m
      moment_now = ap (max (min now moments.last_moment)) s.moment

-- the sum after the commit; where a batch begins makes no difference to it
committed : (log : Log) (m : ℕ) (d : Decision) → sum_after_turn (sum_of log) m d ≡ sum_of (log_after log m d)
committed log m (makes es) = sym (sum_push nothing log (batch_of log m es))
committed log m quiet = refl
committed log m (refused f) = refl

-- ---- the laws

pub sum_says : (log : Log) → LegalSumSays log
sum_says log legal = record {
  says = says log legal s;
  batches = s.batches;
  moment = s.moment;
  follows = λ b. (follows_in log b s, follows_out log b s);
  turns = turns log legal s;
  committed = committed log;
  answered = λ b f. (further log b s f).answered;
} where
  s : Stands log
  s = stands log legal

pub sums_decide : (a b : Log) → SumsDecide a b
sums_decide a b la lb same = record {
  follows = λ batch. (over batch, back batch);
  turns = λ heard input now. sym (x.turns heard input now) ∙ ap (λ s. turn_by (record { sum = s; heard = heard }) input now) same ∙ y.turns heard input now;
  answered = λ batch f. sym (x.answered batch f) ∙ ap (λ s. answers_by s batch.entries) same ∙ y.answered batch (over batch f);
  sums = λ batch. sum_push nothing a batch ∙ ap (λ s. sum_with s batch) same ∙ sym (sum_push nothing b batch);
} where
  x : SumSays a
  x = sum_says a la

  y : SumSays b
  y = sum_says b lb

  over : (batch : Batch) → MayFollow a batch → MayFollow b batch
  over batch f = (y.follows batch).0 (subst (λ s. FollowsSum s batch) same ((x.follows batch).1 f))

  back : (batch : Batch) → MayFollow b batch → MayFollow a batch
  back batch f = (x.follows batch).0 (subst (λ s. FollowsSum s batch) (sym same) ((y.follows batch).1 f))

-- the batches that follow from the sum follow the log
all_follow : (later log : Log) → IsLegal log → FollowAll (sum_of log) later → IsLegal (log ++ later) × (sum_of (log ++ later) ≡ sum_from (sum_of log) later)
all_follow [] log legal f = (subst IsLegal (sym (append-nil log)) legal, ap sum_of (append-nil log))
all_follow (b ∷ later) log legal f =
    let next = ((sum_says log legal).follows b).0 f.0 in
    let rest = all_follow later (log ++ b ∷ []) (legal_after log b legal next) (subst (λ s. FollowAll s later) (sym (sum_push nothing log b)) f.1) in (
      subst IsLegal (append_assoc log (b ∷ []) later) rest.0,
      ap sum_of (sym (append_assoc log (b ∷ []) later)) ∙ rest.1 ∙ ap (λ s. sum_from s later) (sum_push nothing log b),
    )

pub whole_is_legal : (log : Log) (base : Sum) (later : Log) → WholeIsLegal log base later
whole_is_legal log base later legal same f =
    let all = all_follow later log legal (subst (λ s. FollowAll s later) (sym same) f) in
    (all.0, all.1 ∙ ap (λ s. sum_from s later) same)

pub reached_stays : (base : Sum) (later : Log) → ReachedStays base later
reached_stays base later r f =
    let whole = whole_is_legal r.log base later r.legal r.summed f in
    record { log = r.log ++ later; legal = whole.0; summed = whole.1 }

each_follows : (later log : Log) → IsLegal log → IsLegalAfter log later → FollowAll (sum_of log) later
each_follows [] log legal h = tt
each_follows (b ∷ later) log legal h = (
  ((sum_says log legal).follows b).1 h.0,
  subst (λ s. FollowAll s later) (sum_push nothing log b) (each_follows later (log ++ b ∷ []) (legal_after log b legal h.0) h.1),
)

pub legal_by_the_sum : (log : Log) → LegalByTheSum log
legal_by_the_sum log = (λ legal. each_follows log [] tt legal, λ f. (all_follow log [] tt f).0)

-- ---- readers and replays

-- of a client that has at most one session open
stamp_told : (c : ClientId) (live : Option OpenSession) (found : List SessionId) → found ≡ listed c (option_map live_of live)
    → MatchOption (option_map (λ (session : OpenSession). session.stamp) live) (found ≡ []) (λ stamp. found ≡ session_with c stamp ∷ [])
stamp_told c None found e = e
stamp_told c (Some session) found e = e

pub readers_say : (log : Log) → LegalReadersSay log
readers_say log legal = record {
  opened = λ s. ap (λ (p : Part). is_live p.live (stamp_of s)) (w.parts s.client) ∙ sym (live_is s es sound);
  accepted = λ s. ap (λ (p : Part). count_in p.live (stamp_of s)) (w.parts s.client) ∙ count_by s es sound;
  has_open = λ c. some_there (find client_cmp c (sum_of log).sessions) ∙ ap (λ (p : Part). is_some p.live) (w.parts c) ∙ some_live (λ s. is_open s es) es (sessions_of c es);
  stamp = λ c. stamp_told c (find client_cmp c (sum_of log).sessions) (open_sessions_of c es) (sound.one_open c ∙ ap (λ (p : Part). listed c p.live) (sym (w.parts c)));
  rows = λ c. ap (λ (p : Part). p.rows) (w.parts c);
} where
  es : List Entry
  es = entries log

  sound : Sound es
  sound = legal_is_sound log legal

  w : Says es (sum_of log)
  w = says log legal (stands log legal)

  some_there : (o : Option OpenSession) → is_some o ≡ is_some (option_map live_of o)
  some_there None = refl
  some_there (Some session) = refl

-- a client with an open session, heard of at the moment
abbrev open_at : ℕ → ClientId × OpenSession → ClientId × ℕ
open_at m e = (e.0, m)

abbrev id_at : ℕ → ClientId × SessionId → ClientId × ℕ
id_at m e = (e.0, m)

moments_same : (m : ℕ) (es : List (ClientId × Session)) → map (open_at m) (each open_of es) ≡ map (id_at m) (behind id_of es)
moments_same m [] = refl
moments_same m (e ∷ es) = ap (λ l. (e.0, m) ∷ l) (moments_same m es)

pub heard_same : (log : Log) → SameHeard log
heard_same log legal =
    let s = stands log legal in
    (λ i. map (open_at (s.moment i)) (s.is_sum.sessions i))
    ∙ moments_same (last_moment log) s.index.places.live.entries
    ∙ ap (map (id_at (last_moment log))) (open_list (entries log) s.index s.holds.indexed (legal_is_sound log legal) s.holds.ordered)
