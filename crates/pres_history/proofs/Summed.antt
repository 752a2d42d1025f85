-- The sum of an index: what a server's index says without the moments at which clients were heard of. It follows the index
-- through each entry.
use Rattle.std.proofs.Common.{refl, sym, ◌∙◌, ap, subst, ◌≡◌, ℕ, ◌+◌, suc, List, [], ◌∷◌, ◌++◌, length, map, fold, append-nil, append_assoc, arith, Option, Some, None, unwrap_or}
use Rattle.std.specs.Option.{option_map}
use Rattle.std.specs.BTreeMap.{BTreeMap, get, IsOrdered, Updates}
use Rattle.std.specs.Map.{keys_of}
use Rattle.std.specs.List.Sorted.{IsStrictlySortedBy}
use Rattle.std.specs.FinMap.Entries.{find, put}
use Rattle.std_collections.specs.Layout.BTreeMap.{with_entries}
use Rattle.pres_tree.specs.declared.scalar.Scalar.{Scalar}
use Rattle.pres_tree.specs.Rows.{Rows}
use Rattle.pres_write.specs.Basics.{applied}
use Rattle.pres_ids.specs.declared.id.Stamp.{Stamp}
use Rattle.pres_ids.specs.Ids.{ClientId, client_cmp, stamp_of}
use Rattle.pres_wire.specs.declared.down.Down.{Down}
use Rattle.pres_wire.specs.declared.down.Down.TheVariants.{Push}
use Rattle.pres_retry.specs.Tables.{rows_of}
use Rattle.pres_fan.specs.Listeners.{touched}
use Rattle.pres_log.specs.declared.entry.Entry.{Entry}
use Rattle.pres_log.specs.declared.entry.Entry.TheVariants as entry
use Rattle.pres_log.specs.Logs.{writes_of}
use Rattle.pres_server.specs.declared.index.Index.{Index}
use Rattle.pres_server.specs.Sessions.{session_of}
use Rattle.pres_history.specs.Sessions.{count}
use Rattle.pres_history.specs.SessionPlans.{plan}
use Rattle.pres_server.specs.Answering.{shown}
use Rattle.pres_history.specs.Streams.{answers_to, answers}
use Rattle.pres_server.specs.InternalParts.{Part, LivePart, plan_after, message_next, answer_by}
use Rattle.pres_history.specs.InternalParts.{Sound, live_in}
use Rattle.pres_server.specs.InternalSessions.{Session, live_after, last_stamp, live_part, sent_to}
use Rattle.pres_server.specs.InternalSessions as places
use Rattle.pres_server.specs.InternalPushes.{TouchedSession, Standing, after_push, after_pushes, pushes}
use Rattle.pres_server.specs.InternalIndex.{session_at, gone_at, part_at, sent_at, Carries, Steps, GoneSteps, retry_after, listeners_after, answer_on}
use Rattle.pres_history.specs.InternalInvariants.{Indexed, MayComeUncounted, MayTakeAll}
use Rattle.pres_server.proofs.Heard.{find_behind}
use Rattle.pres_history.proofs.Parts.{only_open}
use Rattle.pres_history.proofs.Carried.{Between, between}
use Rattle.pres_history.proofs.Taken.{rest_taken, first_added}
use Rattle.pres_server.specs.InternalSums.{open_of}
use Rattle.pres_server.specs.Sums.{Sum, OpenSession, part_by, part_in, sent_by, changed, sent_more, pushed, carried, answered, sessions_after, gone_after, entered, sum_after, sum_after_all}
use Rattle.pres_server.specs.SumAnswers.{pushes_by, answers_to_by, answers_by}
use Rattle.pres_server.proofs.Keyed.{at_client, found, others, sorted_with, sorted_others, sorted_changed, changed_found}
use Rattle.pres_history.proofs.Keyed.{each, each_put, each_others, each_changed, updates_put, updates_others, updates_changed}

-- the sum says what the index says
pub record IsSumOf (index : Index) (sum : Sum) : Type 0 where
  pub sessions : sum.sessions ≡ each open_of index.places.live.entries
  pub gone : sum.gone ≡ index.places.gone.entries
  pub rows : sum.rows ≡ index.retry
  pub listeners : sum.listeners ≡ index.listeners
  pub tree : sum.tree ≡ index.tree

-- ---- what it says of a client

session_is : (index : Index) (sum : Sum) → IsSumOf index sum → (c : ClientId) → find client_cmp c sum.sessions ≡ option_map open_of (session_at index c)
session_is index sum same c = ap (find client_cmp c) same.sessions ∙ find_behind (λ _ session. open_of session) c index.places.live.entries

part_same : (live : Option Session) (last : Option Stamp) (index : Index) (c : ClientId)
    → part_by (option_map open_of live) last index.retry c ≡ record { last = last_stamp live last; rows = rows_of c index.retry; live = option_map live_part live }
part_same None last index c = refl
part_same (Some session) last index c = refl

pub part_is : (index : Index) (sum : Sum) → IsSumOf index sum → (c : ClientId) → part_in sum c ≡ part_at index c
part_is index sum same c =
    (λ i. part_by (session_is index sum same c i) ((ap (find client_cmp c) same.gone ∙ found c index.places.gone.entries) i) (same.rows i) c)
    ∙ part_same (session_at index c) (gone_at index c) index c

sent_same : (live : Option Session) → option_map (λ (session : OpenSession). session.sent) (option_map open_of live) ≡ sent_to live
sent_same None = refl
sent_same (Some session) = refl

pub sent_is : (index : Index) (sum : Sum) → IsSumOf index sum → (c : ClientId) → sent_by c sum.sessions ≡ sent_at index c
sent_is index sum same c = ap (option_map (λ (session : OpenSession). session.sent)) (session_is index sum same c) ∙ sent_same (session_at index c)

-- ---- the writes of an entry

abbrev one_sent : Session → Session
one_sent session = record { stamp = session.stamp; count = session.count; sent = session.sent + 1; heard = session.heard; plan = session.plan }

-- the sessions after a Push to the one that is reached
abbrev push_one : List (ClientId × Session) → TouchedSession → List (ClientId × Session)
push_one es t = changed t.0.client one_sent es

abbrev push_all : List (ClientId × Session) → List TouchedSession → List (ClientId × Session)
push_all es ts = fold push_one es ts

one_pushed : (t : TouchedSession) (es : List (ClientId × Session)) → (λ c. at_client c (push_one es t)) ≡ after_push (λ c. at_client c es) t
one_pushed t es = λ i c. changed_found t.0.client one_sent es c i

all_pushed : (ts : List TouchedSession) (es : List (ClientId × Session)) (c : ClientId) → at_client c (push_all es ts) ≡ after_pushes (λ k. at_client k es) ts c
all_pushed [] es c = refl
all_pushed (t ∷ ts) es c = all_pushed ts (push_one es t) c ∙ ap (λ (live : Standing). after_pushes live ts c) (one_pushed t es)

each_pushed : (ts : List TouchedSession) (es : List (ClientId × Session)) → each open_of (push_all es ts) ≡ fold pushed (each open_of es) ts
each_pushed [] es = refl
each_pushed (t ∷ ts) es = each_pushed ts (push_one es t) ∙ ap (λ l. fold pushed l ts) (each_changed open_of t.0.client one_sent sent_more (λ _. refl) es)

sorted_pushed : (ts : List TouchedSession) (es : List (ClientId × Session)) → IsStrictlySortedBy client_cmp (keys_of es) → IsStrictlySortedBy client_cmp (keys_of (push_all es ts))
sorted_pushed [] es h = h
sorted_pushed (t ∷ ts) es h = sorted_pushed ts (push_one es t) (sorted_changed t.0.client one_sent es h)

-- the index once they are carried out
abbrev pub mid_of : Entry → Index → Index
mid_of e index = record {
  places = record { live = with_entries index.places.live (push_all index.places.live.entries (touched (writes_of e) index.listeners)); gone = index.places.gone };
  retry = index.retry;
  listeners = index.listeners;
  tree = applied index.tree (writes_of e);
}

carries : (e : Entry) (index : Index) → Carries (writes_of e) index (mid_of e index)
carries e index = record { live = all_pushed (touched (writes_of e) index.listeners) index.places.live.entries; gone = refl; retry = refl; listeners = refl; tree = refl }

mid_is : (e : Entry) (index : Index) (sum : Sum) → IsSumOf index sum → IsSumOf (mid_of e index) (carried e sum)
mid_is e index sum same = record {
  sessions = (λ i. fold pushed (same.sessions i) (touched (writes_of e) (same.listeners i))) ∙ sym (each_pushed (touched (writes_of e) index.listeners) index.places.live.entries);
  gone = same.gone;
  rows = same.rows;
  listeners = same.listeners;
  tree = ap (λ t. applied t (writes_of e)) same.tree;
}

-- what they send
pushes_same : (z : ℕ) (tree : Rows Scalar) (ts : List TouchedSession) (es : List (ClientId × Session)) → pushes_by z tree (each open_of es) ts ≡ pushes z tree (λ c. at_client c es) ts
pushes_same z tree [] es = refl
pushes_same z tree (t ∷ ts) es =
    let first : sent_by t.0.client (each open_of es) ≡ sent_to (at_client t.0.client es) =
    ap (option_map (λ (session : OpenSession). session.sent)) (find_behind (λ _ session. open_of session) t.0.client es) ∙ sent_same (at_client t.0.client es) in
    let more : pushes_by z tree (pushed (each open_of es) t) ts ≡ pushes z tree (after_push (λ c. at_client c es) t) ts =
    ap (λ l. pushes_by z tree l ts) (sym (each_changed open_of t.0.client one_sent sent_more (λ _. refl) es))
    ∙ pushes_same z tree ts (push_one es t)
    ∙ ap (λ (live : Standing). pushes z tree live ts) (one_pushed t es) in
    λ i. message_next (first i) (λ r. Push t.0 r z (map (shown tree) t.1)) ++ more i

-- ---- the entry itself

-- an open session after an entry of its own that answers it
abbrev one_more : ℕ → Entry → Session → Session
one_more m e session = places.answered m (plan_after e session.plan) session

abbrev stands_after : ℕ → Entry → List (ClientId × Session) → List (ClientId × Session)
stands_after m (entry.Open s) es = put client_cmp s.client (places.began (stamp_of s) m) es
stands_after m (entry.Ended s q why rows) es = others s.client es
stands_after m e es = changed (session_of e).client (one_more m e) es

stands_updates : (m : ℕ) (e : Entry) (live : BTreeMap ClientId Session)
    → Updates client_cmp live (with_entries live (stands_after m e live.entries)) (session_of e).client (live_after m e (get client_cmp live (session_of e).client))
stands_updates m (entry.Open s) live = updates_put s.client (places.began (stamp_of s) m) live
stands_updates m (entry.Op s q n op outcome) live = updates_changed s.client (one_more m (entry.Op s q n op outcome)) live
stands_updates m (entry.Again s q n) live = updates_changed s.client (one_more m (entry.Again s q n)) live
stands_updates m (entry.Left s q puts) live = updates_changed s.client (one_more m (entry.Left s q puts)) live
stands_updates m (entry.Cancelled s q path) live = updates_changed s.client (one_more m (entry.Cancelled s q path)) live
stands_updates m (entry.Denied s q why) live = updates_changed s.client (one_more m (entry.Denied s q why)) live
stands_updates m (entry.On s q path) live = updates_changed s.client (one_more m (entry.On s q path)) live
stands_updates m (entry.Off s q path) live = updates_changed s.client (one_more m (entry.Off s q path)) live
stands_updates m (entry.Ended s q why rows) live = updates_others s.client live

each_stands : (m : ℕ) (e : Entry) (es : List (ClientId × Session)) → each open_of (stands_after m e es) ≡ sessions_after e (each open_of es)
each_stands m (entry.Open s) es = each_put open_of s.client (places.began (stamp_of s) m) es
each_stands m (entry.Op s q n op outcome) es = each_changed open_of s.client (one_more m (entry.Op s q n op outcome)) (answered (entry.Op s q n op outcome)) (λ _. refl) es
each_stands m (entry.Again s q n) es = each_changed open_of s.client (one_more m (entry.Again s q n)) (answered (entry.Again s q n)) (λ _. refl) es
each_stands m (entry.Left s q puts) es = each_changed open_of s.client (one_more m (entry.Left s q puts)) (answered (entry.Left s q puts)) (λ _. refl) es
each_stands m (entry.Cancelled s q path) es = each_changed open_of s.client (one_more m (entry.Cancelled s q path)) (answered (entry.Cancelled s q path)) (λ _. refl) es
each_stands m (entry.Denied s q why) es = each_changed open_of s.client (one_more m (entry.Denied s q why)) (answered (entry.Denied s q why)) (λ _. refl) es
each_stands m (entry.On s q path) es = each_changed open_of s.client (one_more m (entry.On s q path)) (answered (entry.On s q path)) (λ _. refl) es
each_stands m (entry.Off s q path) es = each_changed open_of s.client (one_more m (entry.Off s q path)) (answered (entry.Off s q path)) (λ _. refl) es
each_stands m (entry.Ended s q why rows) es = each_others open_of s.client es

sorted_stands : (m : ℕ) (e : Entry) (es : List (ClientId × Session)) → IsStrictlySortedBy client_cmp (keys_of es) → IsStrictlySortedBy client_cmp (keys_of (stands_after m e es))
sorted_stands m (entry.Open s) es h = sorted_with s.client (places.began (stamp_of s) m) es h
sorted_stands m (entry.Op s q n op outcome) es h = sorted_changed s.client (one_more m (entry.Op s q n op outcome)) es h
sorted_stands m (entry.Again s q n) es h = sorted_changed s.client (one_more m (entry.Again s q n)) es h
sorted_stands m (entry.Left s q puts) es h = sorted_changed s.client (one_more m (entry.Left s q puts)) es h
sorted_stands m (entry.Cancelled s q path) es h = sorted_changed s.client (one_more m (entry.Cancelled s q path)) es h
sorted_stands m (entry.Denied s q why) es h = sorted_changed s.client (one_more m (entry.Denied s q why)) es h
sorted_stands m (entry.On s q path) es h = sorted_changed s.client (one_more m (entry.On s q path)) es h
sorted_stands m (entry.Off s q path) es h = sorted_changed s.client (one_more m (entry.Off s q path)) es h
sorted_stands m (entry.Ended s q why rows) es h = sorted_others s.client es h

abbrev gone_map : Entry → BTreeMap ClientId Stamp → BTreeMap ClientId Stamp
gone_map (entry.Open s) gone = with_entries gone (others s.client gone.entries)
gone_map (entry.Ended s q why rows) gone = with_entries gone (put client_cmp s.client (stamp_of s) gone.entries)
gone_map _ gone = gone

gone_is : (e : Entry) (gone : BTreeMap ClientId Stamp) → gone_after e gone.entries ≡ (gone_map e gone).entries
gone_is (entry.Open s) gone = refl
gone_is (entry.Op s q n op outcome) gone = refl
gone_is (entry.Again s q n) gone = refl
gone_is (entry.Left s q puts) gone = refl
gone_is (entry.Cancelled s q path) gone = refl
gone_is (entry.Denied s q why) gone = refl
gone_is (entry.On s q path) gone = refl
gone_is (entry.Off s q path) gone = refl
gone_is (entry.Ended s q why rows) gone = refl

-- the index after the entry
abbrev pub next_of : ℕ → ℕ → Entry → Index → Index
next_of z m e mid = record {
  places = record { live = with_entries mid.places.live (stands_after m e mid.places.live.entries); gone = gone_map e mid.places.gone };
  retry = retry_after z e mid.retry;
  listeners = listeners_after e mid.listeners;
  tree = mid.tree;
}

-- the stamp of an open session is its client's last
open_last : (live : Option Session) (last : Option Stamp) (l : LivePart) → option_map live_part live ≡ Some l → last_stamp live last ≡ Some l.stamp
open_last None last l k = absurd (cc)
open_last (Some session) last l k = ap (λ (o : Option LivePart). Some (unwrap_or o l).stamp) k

gone_steps : (z m : ℕ) (es : List Entry) (e : Entry) (mid : Index) → Between es e mid → Sound es → MayComeUncounted es m e → GoneSteps mid (next_of z m e mid) e
gone_steps z m es (entry.Open s) mid ix sound f = updates_others s.client mid.places.gone
gone_steps z m es (entry.Op s q n op outcome) mid ix sound f = refl
gone_steps z m es (entry.Again s q n) mid ix sound f = refl
gone_steps z m es (entry.Left s q puts) mid ix sound f = refl
gone_steps z m es (entry.Cancelled s q path) mid ix sound f = refl
gone_steps z m es (entry.Denied s q why) mid ix sound f = refl
gone_steps z m es (entry.On s q path) mid ix sound f = refl
gone_steps z m es (entry.Off s q path) mid ix sound f = refl
gone_steps z m es (entry.Ended s q why rows) mid ix sound f =
    subst (λ w. Updates client_cmp mid.places.gone (gone_map (entry.Ended s q why rows) mid.places.gone) s.client w) (sym last) (updates_put s.client (stamp_of s) mid.places.gone) where
      here : LivePart
      here = record { stamp = stamp_of s; count = count s es; plan = plan s es }

      last : last_stamp (session_at mid s.client) (gone_at mid s.client) ≡ Some (stamp_of s)
      last = open_last (session_at mid s.client) (gone_at mid s.client) here (ap (λ (p : Part). p.live) (ix.parts s.client) ∙ ap (λ xs. live_in xs es) (only_open s es sound f.0))

steps : (z m : ℕ) (es : List Entry) (e : Entry) (mid : Index) → Between es e mid → Sound es → MayComeUncounted es m e → Steps z m mid (next_of z m e mid) e
steps z m es e mid ix sound f = record { live = stands_updates m e mid.places.live; gone = gone_steps z m es e mid ix sound f; retry = refl; listeners = refl; tree = refl }

next_is : (z m : ℕ) (e : Entry) (mid : Index) (sum : Sum) → z ≡ sum.number + 1 → IsSumOf mid sum → IsSumOf (next_of z m e mid) (entered e sum)
next_is z m e mid sum n same = record {
  sessions = ap (sessions_after e) same.sessions ∙ sym (each_stands m e mid.places.live.entries);
  gone = ap (gone_after e) same.gone ∙ gone_is e mid.places.gone;
  rows = λ i. retry_after (sym n i) e (same.rows i);
  listeners = ap (listeners_after e) same.listeners;
  tree = same.tree;
}

-- ---- the entries of a batch

-- what the entry answers, by the index
abbrev answered_on : ℕ → ℕ → Entry → Index → List Down
answered_on z m e index =
    pushes z (mid_of e index).tree (session_at index) (touched (writes_of e) index.listeners) ++ answer_on (mid_of e index) (record { number = z; moment = m }) e

answers_same : (z m : ℕ) (e : Entry) (index : Index) (sum : Sum) → z ≡ sum.number + 1 → IsSumOf index sum → answers_to_by sum e ≡ answered_on z m e index
answers_same z m e index sum n same = λ i. all_pushes i ++ own i where
  c : ClientId
  c = (session_of e).client

  mid : IsSumOf (mid_of e index) (carried e sum)
  mid = mid_is e index sum same

  all_pushes : pushes_by (sum.number + 1) (carried e sum).tree sum.sessions (touched (writes_of e) sum.listeners) ≡ pushes z (mid_of e index).tree (session_at index) (touched (writes_of e) index.listeners)
  all_pushes =
      (λ i. pushes_by (sym n i) (mid.tree i) (same.sessions i) (touched (writes_of e) (same.listeners i)))
      ∙ pushes_same z (mid_of e index).tree (touched (writes_of e) index.listeners) index.places.live.entries

  own : answer_by (sum.number + 1) e (part_in sum c).rows (sent_by c (carried e sum).sessions) (carried e sum).tree ≡ answer_by z e (part_at (mid_of e index) c).rows (sent_at (mid_of e index) c) (mid_of e index).tree
  own = λ i. answer_by (sym n i) e (rows_of c (same.rows i)) (sent_is (mid_of e index) (carried e sum) mid c i) (mid.tree i)

-- the sum and an index after these entries
pub record TakenAll (es xs : List Entry) (sum : Sum) : Type 0 where
  pub index : Index
  pub indexed : Indexed (es ++ xs) index
  pub is_sum : IsSumOf index (sum_after_all xs sum)
  pub ordered : IsOrdered client_cmp index.places.live
  pub number : (sum_after_all xs sum).number ≡ sum.number + length xs
  pub answered : answers_by sum xs ≡ answers es xs

plus_none : (n : ℕ) → n ≡ n + 0
plus_none n = omega arith

plus_one : (a b : ℕ) → a + 1 + b ≡ a + suc b
plus_one a b = omega arith

pub taken : (xs es : List Entry) (z m : ℕ) (old : Index) (sum : Sum) → MayTakeAll es z m xs old → IsSumOf old sum → z ≡ sum.number + 1 → IsOrdered client_cmp old.places.live → TakenAll es xs sum
taken [] es z m old sum f same n o = record {
  index = old;
  indexed = subst (λ l. Indexed l old) (sym (append-nil es)) f.indexed;
  is_sum = same;
  ordered = o;
  number = plus_none sum.number;
  answered = refl;
}
taken (e ∷ more) es z m old sum f same n o =
    let rest = taken more (es ++ e ∷ []) (z + 1) m new (sum_after e sum) (rest_taken es z m (e ∷ more) e more old mid new refl f (carries e old) stepped)
    (next_is z m e mid (carried e sum) n (mid_is e old sum same)) (ap (λ k. k + 1) n) ordered in
    record {
      index = rest.index;
      indexed = subst (λ l. Indexed l rest.index) (append_assoc es (e ∷ []) more) rest.indexed;
      is_sum = rest.is_sum;
      ordered = rest.ordered;
      number = rest.number ∙ plus_one sum.number (length more);
      answered = λ i. (answers_same z m e old sum n same ∙ added) i ++ rest.answered i;
    } where
      mid : Index
      mid = mid_of e old

      new : Index
      new = next_of z m e mid

      stepped : Steps z m mid new e
      stepped = steps z m es e mid (between es e old mid f.indexed f.sound (carries e old)) f.sound f.in_turn.0

      added : answered_on z m e old ≡ answers_to es e
      added = first_added es (e ∷ more) e more old new z m [] (answered_on z m e old) refl f (record { between = mid; carried = carries e old; steps = stepped; answers = refl })

      ordered : IsOrdered client_cmp new.places.live
      ordered = sorted_stands m e mid.places.live.entries (sorted_pushed (touched (writes_of e) old.listeners) old.places.live.entries o)
