-- A server's readers, its turn, its commit and its replay, over what holds of its sum.
use Rattle.std.proofs.Common.{refl, sym, ◌∙◌, ap, subst, ◌≡◌, ℕ, ◌+◌, ◌^◌, ◌<◌, ◌≤◌, min, max, List, [], ◌∷◌, length, map, Bool, true, false, cond, not, true≢false, arith, ◌↔◌, Option, Some, None, IsSome, is_some, IfSome, IfNone}
use Rattle.std.specs.Option.{option_map, option_copied}
use Rattle.std.specs.Borrow.{Bor}
use Rattle.std.specs.Map.{lookup}
use Rattle.std.specs.BTreeMap.{is_at, IsOrdered}
use Rattle.std.specs.List.Sorted.{IsStrictlySortedBy}
use Rattle.std.specs.FinMap.Entries.{where_key, same_entries}
use Rattle.std.proofs.lemmas.List.{length-map}
use Rattle.std.proofs.lemmas.Map.Made.{lookup-map_values}
use Rattle.pres_tree.specs.Paths.{Path}
use Rattle.pres_write.specs.Moments as moments
use Rattle.pres_ids.specs.declared.id.SessionId.{SessionId}
use Rattle.pres_ids.specs.Ids.{ClientId, client_cmp, same_client, stamp_of}
use Rattle.pres_fan.specs.Listeners.{IsListeners}
use Rattle.pres_log.specs.Batches.{may_hold}
use Rattle.pres_log.specs.declared.entry.Batch.{Batch}
use Rattle.pres_log.specs.declared.entry.Entry.{Entry}
use Rattle.pres_server.specs.declared.index.Index.{Index}
use Rattle.pres_server.specs.declared.client_sessions.ClientSessions.{ClientSessions}
use Rattle.pres_server.specs.declared.input.Input.{Input}
use Rattle.pres_server.specs.ServerStates.{first_client, heard_last}
use Rattle.pres_server.specs.InternalParts.{Part, is_live, count_in, wanted_by, limited_by}
use Rattle.pres_server.specs.InternalSessions.{Session, moment_at, stamp_at, live_part, heard_at, heard_only, heard_of_all, open_count}
use Rattle.pres_server.specs.InternalIndex.{session_at, part_at, live_at, paths_at, heard_in, decision_on, Hears}
use Rattle.pres_server.specs.InternalFollows.{MayComeTogetherBy, LeavesRoomBy, MayJoinOn}
use Rattle.pres_server.specs.Sums.{Sum, OpenSession, nothing, part_in, paths_in, is_open_in, accepted_in, has_open_in, open_stamp_in, sum_after_all, sum_with}
use Rattle.pres_server.specs.SumTurns.{FollowsSum, moment_by, turn_by, batch_by}
use Rattle.pres_server.specs.Histories.{IsSum}
use Rattle.pres_server.specs.Replays.{heard_by}
use Rattle.pres_server.specs.InternalSums.{open_of, sessions_in, gone_in, sum_in, Agrees, MayTakeFrom}
use Rattle.pres_server.proofs.Clients.{client_same}
use Rattle.pres_server.proofs.Clients.{clients_total, clients_apart}
use Rattle.pres_server.proofs.Heard.{find_behind, keys_behind, behind_sorted, heard_tells, first_heard, none_heard}
use Rattle.pres_server.proofs.KeptSums.{After, after_all, enters, pair_of}
use Rattle.pres_server.proofs.Keyed.{in_order}
use Rattle.pres_server.proofs.SumSteps.{part_agrees, agrees_in, sum_is}

module _ (batches moment number : ℕ) (index : Index) where
  abbrev pub here : Sum
  here = sum_in batches moment number index

  -- ---- readers

  pub part_is : (c : ClientId) → part_in here c ≡ part_at index c
  part_is c = part_agrees index here (agrees_in batches moment number index) c

  pub open_is : (s : SessionId) → is_live (live_at index s) (stamp_of s) ≡ is_open_in s here
  open_is s = ap (λ (p : Part). is_live p.live (stamp_of s)) (sym (part_is s.client))

  pub accepted_is : (s : SessionId) → count_in (live_at index s) (stamp_of s) ≡ accepted_in s here
  accepted_is s = ap (λ (p : Part). count_in p.live (stamp_of s)) (sym (part_is s.client))

  pub has_open_is : (c : ClientId) → is_some (moment_at (session_at index c)) ≡ has_open_in c here
  has_open_is c = by (session_at index c) ∙ ap is_some (sym (find_behind (λ _ session. open_of session) c index.places.live.entries)) where
    by : (live : Option Session) → is_some (moment_at live) ≡ is_some (option_map open_of live)
    by None = refl
    by (Some session) = refl

  pub open_stamp_is : (c : ClientId) → stamp_at (session_at index c) ≡ open_stamp_in c here
  open_stamp_is c = by (session_at index c) ∙ ap (option_map (λ (session : OpenSession). session.stamp)) (sym (find_behind (λ _ session. open_of session) c index.places.live.entries)) where
    by : (live : Option Session) → stamp_at live ≡ option_map (λ (session : OpenSession). session.stamp) (option_map open_of live)
    by None = refl
    by (Some session) = refl

  has_heard : (c : ClientId) → is_some (heard_last (heard_in index) c) ≡ has_open_in c here
  has_heard c = ap is_some (heard_tells index c) ∙ has_open_is c

  pub first_opens : (r : Option (Bor ClientId)) → option_copied r ≡ first_client (heard_in index) → IfSome r (λ c. has_open_in c.now here ≡ true)
  first_opens None h = tt
  first_opens (Some c) h = sym (has_heard c.now) ∙ first_heard (heard_in index) c.now (sym h)

  pub none_opens : (r : Option (Bor ClientId)) → option_copied r ≡ first_client (heard_in index) → IfNone r ((c : ClientId) → has_open_in c here ≡ false)
  none_opens None h = λ c. sym (has_heard c) ∙ none_heard (heard_in index) c (sym h)
  none_opens (Some c) h = tt

  -- ---- what a turn asks of the index

  pub open_counted : length (sessions_in index) ≡ open_count index.places
  open_counted = length-map index.places.live.entries (λ (e : ClientId × Session). (e.0, open_of e.1))

  pub number_small : IsSum here → number < 2 ^ 52
  number_small k = let room = k.room in omega arith

  pub open_small : IsSum here → open_count index.places < 2 ^ 53
  open_small k = let few = k.few in let n = open_counted in omega arith

  -- an open session is counted
  pub counted : (c : ClientId) → IsSome (part_at index c).live → 0 < open_count index.places
  counted c h = by index.places.live.entries h where
    by : (es : List (ClientId × Session)) → IsSome (option_map live_part (lookup (is_at (client_cmp c)) es)) → 0 < length es
    by [] k = absurd (true≢false (sym k))
    by (e ∷ es) k = omega arith

  -- ---- a turn

  pub moment_is : (now : ℕ) → now ≤ moments.last_moment → max moment now ≡ moment_by here now
  moment_is now low = omega arith

  -- what the index decides is the turn
  pub turned : (i : Input) (now z m : ℕ) → now ≤ moments.last_moment → m ≡ max moment now → z ≡ number → turn_by (record { sum = here; heard = heard_in index }) i now ≡ decision_on index (record { number = z; moment = m }) i
  turned i now z m low e f =
      λ x. limited_by (sym f x) (open_counted x) (wanted_by (λ c. part_is c x) (paths_at index) (heard_in index) index.tree ((sym (moment_is now low) ∙ sym e) x) i)

  -- ---- a batch

  abbrev Said : Type 0
  Said = (ClientId → Part) × ℕ

  said : let a : Said = (part_at index, open_count index.places) in let b : Said = (part_in here, length here.sessions) in a ≡ b
  said = λ i. (λ c. sym (part_is c) i, sym open_counted i)

  abbrev Joins : ℕ → ℕ → List Entry → Said → Type 0
  Joins z m es x = LeavesRoomBy z x.1 es × MayComeTogetherBy x.0 (paths_at index) x.1 index.tree m es

  -- the readers of a batch decide whether it may follow
  pub follows_by : (b : Batch) (z m : ℕ) (es : List Entry) → z ≡ number → m ≡ b.moment → es ≡ b.entries → b.first ≡ z + 1 → moment ≤ m → m ≤ moments.last_moment → MayJoinOn index (record { number = z; moment = m }) es ↔ FollowsSum here b
  follows_by b z m es ez em ee first later range = (
    λ h.
        let j : Joins z m es (part_in here, length here.sessions) = subst (Joins z m es) said h in
        let k : Joins number b.moment b.entries (part_in here, length here.sessions) = subst (λ (x : ℕ × ℕ × List Entry). Joins x.0 x.1 x.2 (part_in here, length here.sessions)) (λ i. (ez i, em i, ee i)) j in
        record { first = first ∙ ap (λ n. n + 1) ez; not_earlier = omega arith; in_range = omega arith; allowed = k.1; room = k.0 },
    λ f.
        let k : Joins z m es (part_in here, length here.sessions) = subst (λ (x : ℕ × ℕ × List Entry). Joins x.0 x.1 x.2 (part_in here, length here.sessions)) (λ i. (sym ez i, sym em i, sym ee i)) (f.room, f.allowed) in
        subst (Joins z m es) (sym said) k,
  )

  pub fits : (b : Batch) → IsSum here → FollowsSum here b → MayTakeFrom here b.first b.moment b.entries index
  fits b k f =
      let room = f.room in
      record { agrees = agrees_in batches moment number index; keeps = k.keeps; next = f.first; in_turn = enters here b.moment b.entries f.allowed; room = omega arith }

  pub after : (b : Batch) → IsSum here → FollowsSum here b → After b.entries here
  after b k f = after_all b.entries here b.moment k.keeps (enters here b.moment b.entries f.allowed)

  -- the sum with the batch
  pub joined : (new : Index) (b : Batch) (n m : ℕ) → IsSum here → FollowsSum here b → n ≡ number + length b.entries → m ≡ b.moment → Agrees new (sum_after_all b.entries here) → IsOrdered client_cmp new.places.live → IsOrdered client_cmp new.places.gone
      → sum_in (batches + 1) m n new ≡ sum_with here b
  joined new b n m k f en em a live gone =
      (λ i. sum_in (batches + 1) (em i) ((en ∙ sym (after b k f).number) i) new)
      ∙ sum_is (batches + 1) b.moment new (sum_after_all b.entries here) a (after b k f).keeps live gone

  -- an index of which it says the same
  pub unchanged : (new : Index) → IsSum here → Agrees new here → IsOrdered client_cmp new.places.live → IsOrdered client_cmp new.places.gone → sum_in batches moment number new ≡ here
  unchanged new k a live gone = sum_is batches moment new here a k.keeps live gone

  -- ---- a client that was heard of

  -- who stands gone is the same where the same clients have sessions open
  gone_still : (new : Index) → ((c : ClientId) → is_some (session_at new c) ≡ is_some (session_at index c)) → new.places.gone ≡ index.places.gone → gone_in new ≡ gone_in index
  gone_still new f g = λ i. where_key client_cmp (λ c. not (f c i)) (g i).entries

  pub open_in_order : IsSum here → IsOrdered client_cmp index.places.live
  open_in_order k = subst (IsStrictlySortedBy client_cmp) (keys_behind (λ _ session. open_of session) index.places.live.entries) k.keeps.sessions

  heard_open : (m : ℕ) (live : Option Session) → option_map open_of (heard_at m live) ≡ option_map open_of live
  heard_open m None = refl
  heard_open m (Some session) = refl

  heard_some : (m : ℕ) (live : Option Session) → is_some (heard_at m live) ≡ is_some live
  heard_some m None = refl
  heard_some m (Some session) = refl

  pub heard_still : (k : ClientId) (m : ℕ) (new : Index) → Hears k m index new → IsSum here → IsOrdered client_cmp new.places.live → sum_in batches moment number new ≡ here
  heard_still k m new h s o = λ i. record {
    batches = batches;
    moment = moment;
    number = number;
    tree = h.tree i;
    rows = h.retry i;
    gone = gone_still new (λ c. ap is_some (h.live c) ∙ somes c (same_client k c) refl) h.gone i;
    sessions = sessions_same i;
    listeners = h.listeners i;
  } where
    opens : (c : ClientId) (b : Bool) → same_client k c ≡ b → option_map open_of (cond b (heard_at m (session_at index k)) (session_at index c)) ≡ option_map open_of (session_at index c)
    opens c true e = heard_open m (session_at index k) ∙ ap (λ x. option_map open_of (session_at index x)) (client_same k c e)
    opens c false e = refl

    somes : (c : ClientId) (b : Bool) → same_client k c ≡ b → is_some (cond b (heard_at m (session_at index k)) (session_at index c)) ≡ is_some (session_at index c)
    somes c true e = heard_some m (session_at index k) ∙ ap (λ x. is_some (session_at index x)) (client_same k c e)
    somes c false e = refl

    sessions_same : sessions_in new ≡ sessions_in index
    sessions_same =
        same_entries client_cmp clients_total clients_apart (sessions_in new) (sessions_in index)
        (behind_sorted (λ _ session. open_of session) new.places.live.entries o) (in_order (sessions_in index) s.keeps.sessions)
        (λ c.
        find_behind (λ _ session. open_of session) c new.places.live.entries
        ∙ ap (option_map open_of) (h.live c)
        ∙ opens c (same_client k c) refl
        ∙ sym (find_behind (λ _ session. open_of session) c index.places.live.entries))

  -- ---- a server that is rebuilt

  abbrev as_open : ClientId × Session → ClientId × OpenSession
  as_open e = (e.0, open_of e.1)

  abbrev as_heard : ClientId × Session → ClientId × ℕ
  as_heard e = (e.0, e.1.heard)

  abbrev at_moment : ClientId × OpenSession → ClientId × ℕ
  at_moment e = (e.0, moment)

  -- the open sessions, with another moment
  abbrev pub all_heard : ℕ → List (ClientId × Session) → List (ClientId × Session)
  all_heard m es = map (λ (e : ClientId × Session). (e.0, heard_only m e.1)) es

  -- the index with these places
  abbrev pub with_places : ClientSessions → Index
  with_places places = record { places = places; retry = index.retry; listeners = index.listeners; tree = index.tree }

  session_anew : (m : ℕ) (places : ClientSessions) → places.live.entries ≡ all_heard m index.places.live.entries → (c : ClientId) → session_at (with_places places) c ≡ option_map (heard_only m) (session_at index c)
  session_anew m places h c = ap (lookup (is_at (client_cmp c))) h ∙ lookup-map_values (heard_only m) (is_at (client_cmp c)) index.places.live.entries

  anew_some : (m : ℕ) (live : Option Session) → is_some (option_map (heard_only m) live) ≡ is_some live
  anew_some m None = refl
  anew_some m (Some session) = refl

  anew_open : (m : ℕ) (es : List (ClientId × Session)) → map as_open (all_heard m es) ≡ map as_open es
  anew_open m [] = refl
  anew_open m (e ∷ es) = ap (λ l. as_open e ∷ l) (anew_open m es)

  pub anew_still : (m : ℕ) (places : ClientSessions) → places.live.entries ≡ all_heard m index.places.live.entries → places.gone ≡ index.places.gone → sum_in batches moment number (with_places places) ≡ here
  anew_still m places h g = λ i. record {
    batches = batches;
    moment = moment;
    number = number;
    tree = index.tree;
    rows = index.retry;
    gone = gone_still (with_places places) (λ c. ap is_some (session_anew m places h c) ∙ anew_some m (session_at index c)) g i;
    sessions = (ap (map as_open) h ∙ anew_open m index.places.live.entries) i;
    listeners = index.listeners;
  }

  moments_set : (es : List (ClientId × Session)) → map as_heard (all_heard moment es) ≡ map at_moment (map as_open es)
  moments_set [] = refl
  moments_set (e ∷ es) = ap (λ l. at_moment (as_open e) ∷ l) (moments_set es)

  pub heard_is_anew : (places : ClientSessions) → places.live.entries ≡ all_heard moment index.places.live.entries → heard_of_all places ≡ heard_by here
  heard_is_anew places h = ap (map as_heard) h ∙ moments_set index.places.live.entries

-- ---- a batch

-- a batch may hold entries that may come together
pub held_by : (sum : Sum) (m : ℕ) (xs : List Entry) → MayComeTogetherBy (part_in sum) (paths_in sum) (length sum.sessions) sum.tree m xs → may_hold xs ≡ true
held_by sum m [] t = absurd t
held_by sum m (e ∷ []) t = refl
held_by sum m (e ∷ f ∷ []) t = let p = pair_of e f t.0 in subst (λ (x : Entry × Entry). may_hold (x.0 ∷ x.1 ∷ []) ≡ true) (λ i. (sym p.first i, sym p.second i)) refl
held_by sum m (e ∷ f ∷ g ∷ more) t = absurd t

-- the batch is the one of the turn
pub batch_is : (sum : Sum) (b : Batch) → FollowsSum sum b → b ≡ batch_by sum b.moment b.entries
batch_is sum b follows = λ i. record { first = follows.first i; moment = b.moment; entries = b.entries }

-- numbers are far from the last one
pub number_after : (sum : Sum) (b : Batch) → FollowsSum sum b → sum.number + length b.entries < 2 ^ 52
number_after sum b f = let room = f.room in omega arith

pub batches_small : (sum : Sum) → IsSum sum → sum.batches < 2 ^ 52
batches_small sum k = let few = k.batches in let room = k.room in omega arith

-- ---- a server without a history

nobody_listens : IsListeners []
unfolding IsStrictlySortedBy
nobody_listens = record { ordered = tt; few = λ s. omega arith }

pub nothing_holds : IsSum nothing
unfolding IsStrictlySortedBy
nothing_holds = record {
  keeps = record { sessions = tt; gone = tt; answered = tt; each = λ c. tt; answers = λ c. tt; known = λ c h. h; apart = λ c h. refl; listeners = nobody_listens; listening = λ s h. refl };
  few = omega arith;
  batches = omega arith;
  room = omega arith;
  moment = omega arith;
}
