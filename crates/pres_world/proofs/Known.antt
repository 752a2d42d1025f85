-- What is known of one client of a world: what went out with one number of one session is one message, writes of one start
-- have their numbers, and what is shown is what the log tells.
use Rattle.std.proofs.Common.{if◌then◌else◌, refl, sym, ◌∙◌, ap, subst, ◌≡◌, ◌+◌, ◌<◌, ◌≤◌, ℕ, zero, suc, Bool, true, false, List, [], ◌∷◌, ◌++◌, slice_get, ◌⊎◌, inl, inr, Option, Some, None, true≢false, arith, unwrap_or, nat_lt, length, drop}
use Rattle.std.specs.List.{All, Contains}
use Rattle.std.proofs.lemmas.Bool.{cases_order}
use Rattle.std.proofs.lemmas.List.Elements.{All-contains, Contains-append_cases}
use Rattle.pres_ids.specs.declared.id.SessionId.{SessionId}
use Rattle.pres_ids.specs.Ids.{ClientId}
use Rattle.pres_ids.specs.Numbers.{greatest_number}
use Rattle.pres_write.specs.declared.op.Op.{Op}
use Rattle.pres_wire.specs.declared.down.Down.{Down}
use Rattle.pres_wire.specs.declared.down.Down.TheVariants as down
use Rattle.pres_wire.specs.declared.up.Up.{Up}
use Rattle.pres_wire.specs.declared.up.Up.TheVariants as up
use Rattle.pres_wire.specs.Messages.{session_in, q_in}
use Rattle.pres_client.specs.declared.client.Phase.{Phase}
use Rattle.pres_client.specs.declared.client.Phase.TheVariants as phase
use Rattle.pres_client.specs.Clients.{ClientState as Client, start, is_online, is_opening, outstanding}
use Rattle.pres_client.specs.ReceivedMessages.{after_receive}
use Rattle.pres_client.specs.Steps.{ClientStep, calls, receives, hands_out_sends, hands_out_notices, after, run, IsMessage, AreMessages, IsClientStep as MayHappen}
use Rattle.pres_client.specs.Views.{Trail, trail, trail_step, kept_for, nothing, takes, with_taken}
use Rattle.pres_client.proofs.SentSteps.{sends_hold}
use Rattle.pres_log.specs.declared.entry.Entry.{Entry}
use Rattle.pres_log.specs.declared.entry.Entry.TheVariants as entry
use Rattle.pres_log.specs.Logs.{Log, entries}
use Rattle.pres_client_state.specs.Watches.{watch_of}
use Rattle.pres_history.specs.LegalLog.{IsLegal}
use Rattle.pres_history.specs.Streams.{stream}
use Rattle.pres_tree.specs.Paths.{Path}
use Rattle.std.specs.Option.{is_some}
use Rattle.std.proofs.lemmas.List.Elements.{All-append, All-cons, All-nil}
use Rattle.pres_world.specs.Safe.{CameFromMessage, IsInTranscript}
use Rattle.pres_world.proofs.Hears.{Hears, receive_hears}
use Rattle.pres_world.proofs.Asked.{Asked, Steps, count_after, step_steps, asked_step, opening_asked}
use Rattle.pres_world.proofs.Faith.{Listed}
use Rattle.pres_world.proofs.Follow.{Faith, Raw, seen_nothing, faith_kept, quiet_raw, next_of, takes_online, heard_raw, faith_handed, faith_noted, raw_into, kept_again, trail_then}
use Rattle.pres_world.proofs.Opened.{IsWelcomed, step_opened, opened_taken}
use Rattle.pres_world.proofs.Writes.{AllFit, IsNth, nth_on, opening_fit}
use Rattle.pres_world.proofs.Written.{IsBase, SomeWritten, Written, base_told, none_written, written_beside}
use Rattle.pres_client.specs.Sends.{SendList, none_made, made, made_step, kept_while, opening, MayGoOut}
use Rattle.pres_client.proofs.SentOut.{steps_send}
use Rattle.pres_world.specs.WorldClients.{handed_out, started_again}
use Rattle.pres_world.specs.Safe.{WasSent}
use Rattle.pres_world.proofs.Stands.{none_or_some, got_small}
use Rattle.pres_world.proofs.Stays.{Begins, Moves, moves_base, receive_stays}
use Rattle.pres_world.proofs.Lists.{get_contained, HasBase, InList, Grown, Makes, step_makes, grown_in, grown_front, opening_in, run_then, made_then, kept_if, opened_if, listed_of}

-- the session was asked for by the client, as its last one or before
abbrev pub Within : Client → SessionId → Type 0
Within c s = (s.incarnation < c.session.incarnation) ⊎ ((s.incarnation ≡ c.session.incarnation) × (s.attempt ≤ c.attempts))

abbrev pub Has : Up → ℕ → SessionId → Type 0
Has m q s = (q_in m ≡ Some q) × (session_in m ≡ s)

-- no message of the session that is being opened has a number
abbrev pub Opens : List Up → Client → SessionId → Type 0
Opens ups c s = ((m : Up) (q : ℕ) → Contains ups m → Has m q c.session → ⊥) × ((s ≡ c.session → ⊥) × (c.session.attempt ≤ c.attempts))

abbrev pub list_of : ClientId → ℕ → List ClientStep → List Up
list_of id incarnation steps = (made (start id incarnation) none_made steps).messages

abbrev pub writes_of : ClientId → ℕ → List ClientStep → List Op
writes_of id incarnation steps = (made (start id incarnation) none_made steps).writes

-- The client is an incarnation after steps. Its last list has all that was sent of its session with a number, its writes
-- all that this incarnation sent of them, and the log tells what it shows.
pub record Known (log : Log) (ups : List Up) (id : ClientId) (c : Client) : Type 0 where
  pub incarnation : ℕ
  pub steps : List ClientStep
  pub ran : run (start id incarnation) steps ≡ c
  pub none : c.sends ≡ []
  pub its : c.session.client ≡ id
  pub session : SessionId
  pub owner : session.client ≡ id
  pub same : c.session.incarnation ≡ incarnation
  pub of_start : session.incarnation ≡ incarnation
  pub has_base : HasBase c
  pub fit : AllFit c.base (writes_of id incarnation steps) (list_of id incarnation steps)
  pub written : Written (entries log) ups id incarnation c.base (writes_of id incarnation steps)
  pub earlier : (i : ℕ) → i < incarnation → SomeWritten (entries log) ups id i
  pub listed : InList session (list_of id incarnation steps)
  pub within : Within c session
  pub complete : (m : Up) (q : ℕ) → Contains ups m → Has m q session → Contains (list_of id incarnation steps) m
  pub online : is_online c.phase ≡ true → session ≡ c.session
  pub opening : is_opening c.phase ≡ true → Opens ups c session
  pub known : (m : Up) (q : ℕ) → Contains ups m → q_in m ≡ Some q → (session_in m).client ≡ id → Within c (session_in m)
  pub messages : AreMessages steps
  pub few : is_online c.phase ≡ true → c.taken ≤ length (stream c.session (entries log))
  pub faith : (p : Path) → Faith (entries log) c (list_of id incarnation steps) p (trail p (start id incarnation) nothing steps)

-- the client d, and what it sent
pub record Next (log : Log) (ups : List Up) (id : ClientId) (d : Client) : Type 0 where
  pub later : Known log (ups ++ d.sends) id (handed_out d)
  pub new : (m : Up) (q : ℕ) → Contains d.sends m → q_in m ≡ Some q → session_in m ≡ later.session

both_phases : (p : Phase) → is_online p ≡ true → is_opening p ≡ true → ⊥
both_phases phase.Online e f = true≢false (sym f)
both_phases phase.Opening e f = true≢false (sym e)
both_phases phase.Off e f = true≢false (sym e)

widen : (c d : Client) (s : SessionId) → Moves c d → Within c s → Within d s
widen c d s (inl m) (inl w) = let e = ap (λ (x : SessionId). x.incarnation) m.session in inl (omega (arith, e, w))
widen c d s (inl m) (inr w) = let e = ap (λ (x : SessionId). x.incarnation) m.session in let a = m.attempts in let x = w.1 in inr (w.0 ∙ sym e, omega (arith, a, x))
widen c d s (inr m) (inl w) = let e = ap (λ (x : SessionId). x.incarnation) m.session in inl (omega (arith, e, w))
widen c d s (inr m) (inr w) = let e = ap (λ (x : SessionId). x.incarnation) m.session in let a = m.attempts in let x = w.1 in inr (w.0 ∙ sym e, omega (arith, a, x))

-- a session that was asked for before isn't the one that is being opened
too_new : (c d : Client) (s : SessionId) → Begins c d → Within c s → s ≡ d.session → ⊥
too_new c d s b (inl w) e = let i = ap (λ (x : SessionId). x.incarnation) (e ∙ b.session) in omega (arith, i, w)
too_new c d s b (inr w) e = let a = ap (λ (x : SessionId). x.attempt) (e ∙ b.session) in let x = w.1 in omega (arith, a, x)

up_is : (x y : Up) → Some x ≡ Some y → x ≡ y
up_is x y e = ap (λ o. unwrap_or o x) e

item_there : (xs : List Up) (i : ℕ) (m : Up) → slice_get xs i ≡ Some m → Contains xs m
item_there [] i m get = absurd (none_or_some m get)
item_there (x ∷ xs) zero m get = (0, omega arith, up_is x m get)
item_there (x ∷ xs) (suc i) m get = behind (item_there xs i m get) where
  behind : Contains xs m → Contains (x ∷ xs) m
  behind (k, less, is) = (suc k, omega (arith, less), is)

pub nothing_in : (m : Up) → Contains [] m → ⊥
nothing_in m (k, less, is) = omega (arith, less)

pub packet_there : (ups : List Up) (m : Up) → WasSent ups m → Contains ups m
packet_there ups m (zero, get) = absurd (none get) where
  none : None ≡ Some m → ⊥
  none e = grind arith
packet_there ups m (suc i, get) = item_there ups i m get

-- what is received is what the log tells
abbrev pub Heard : Log → ClientStep → Type 0
Heard log (receives m) = IsInTranscript (entries log) m × IsMessage m
Heard log (calls k) = Unit {0}
Heard log hands_out_sends = Unit {0}
Heard log hands_out_notices = Unit {0}

its_step : (log : Log) (s : ClientStep) → Heard log s → MayHappen s
its_step log (receives m) h = h.1
its_step log (calls k) h = tt
its_step log hands_out_sends h = tt
its_step log hands_out_notices h = tt

number_is : (x y : ℕ) → Some x ≡ Some y → x ≡ y
number_is x y e = ap (λ o. unwrap_or o x) e

-- it goes Online with the step, or not
abbrev Arrives : Client → Client → Type 0
Arrives c d = (is_online d.phase ≡ true → is_online c.phase ≡ true) ⊎ ((is_online d.phase ≡ true) × (is_online c.phase ≡ false))

arrival : (c d : Client) (a : Bool) → is_online d.phase ≡ a → (b : Bool) → is_online c.phase ≡ b → Arrives c d
arrival c d false e b f = inl (λ on. absurd (true≢false (sym on ∙ e)))
arrival c d true e true f = inl (λ on. f)
arrival c d true e false f = inr (e, f)

kept_writes : (c d : Client) (t : SendList) → (kept_while c d t).writes ≡ t.writes
kept_writes c d t = by (is_online d.phase) (is_online c.phase) where
  by : (a b : Bool) → (if a then (if b then t else opening d t) else t).writes ≡ t.writes
  by false b = refl
  by true true = refl
  by true false = refl

-- what the writes are counted on from, where the client goes Online
record NewBase (es : List Entry) (id : ClientId) (incarnation : ℕ) (c d : Client) : Type 0 where
  pub count : ℕ
  pub base : d.base ≡ Some (unwrap_or c.base count)
  pub told : IsBase es id incarnation count

new_base : (log : Log) (c : Client) (s : ClientStep) (id : ClientId) (incarnation : ℕ) → Heard log s → c.session.client ≡ id → c.session.incarnation ≡ incarnation → IsWelcomed c s (after c s) → NewBase (entries log) id incarnation c (after c s)
new_base log c (receives (down.Welcome s z count)) id incarnation heard its its_start h = record {
  count = count;
  base = h.base;
  told = subst (λ i. IsBase (entries log) i incarnation count) (ap (λ (x : SessionId). x.client) h.session ∙ its) (subst (λ i. IsBase (entries log) s.client i count) (ap (λ (x : SessionId). x.incarnation) h.session ∙ its_start) (base_told (entries log) s z count heard.0));
}
new_base log c (receives (down.Reply s r z q n done out)) id incarnation heard its its_start h = absurd h
new_base log c (receives (down.Gone s r z why)) id incarnation heard its its_start h = absurd h
new_base log c (receives (down.Fault session reason)) id incarnation heard its its_start h = absurd h
new_base log c (receives (down.Armed s r z q)) id incarnation heard its its_start h = absurd h
new_base log c (receives (down.Denied s r z q why)) id incarnation heard its its_start h = absurd h
new_base log c (receives (down.Snap s r z q p v)) id incarnation heard its its_start h = absurd h
new_base log c (receives (down.Push s r z vs)) id incarnation heard its its_start h = absurd h
new_base log c (receives (down.OffDone s r z q)) id incarnation heard its its_start h = absurd h
new_base log c (calls k) id incarnation heard its its_start h = absurd h
new_base log c hands_out_sends id incarnation heard its its_start h = absurd h
new_base log c hands_out_notices id incarnation heard its its_start h = absurd h

pub step_known : (log : Log) → IsLegal log → (ups : List Up) → ((i : ℕ) (e : Entry) → slice_get (entries log) i ≡ Some e → CameFromMessage ups e) → (id : ClientId) (c : Client) (s : ClientStep) → Heard log s → Known log ups id c → Moves c (after c s) → Next log ups id (after c s)
step_known log legal ups came id c s heard k moves = by (is_online d.phase) refl (is_online c.phase) refl where
  d : Client
  d = after c s

  c0 : Client
  c0 = start id k.incarnation

  t : SendList
  t = made c0 none_made k.steps

  u : SendList
  u = made_step c t s

  v : SendList
  v = kept_while c d u

  more : List ClientStep
  more = s ∷ hands_out_sends ∷ []

  ms : List Up
  ms = list_of id k.incarnation (k.steps ++ more)

  makes : Makes c t u
  makes = step_makes c t s

  grown : Grown c t u
  grown = makes.grown

  ran : run c0 (k.steps ++ more) ≡ handed_out d
  ran = run_then c0 k.steps more ∙ ap (λ x. run x more) k.ran

  kept : kept_while d (handed_out d) v ≡ v
  kept = kept_if d (handed_out d) v (is_online d.phase) refl (λ e. e)

  is_made : made c0 none_made (k.steps ++ more) ≡ v
  is_made = made_then c0 none_made k.steps more ∙ ap (λ x. made x t more) k.ran ∙ kept

  is_list : ms ≡ v.messages
  is_list = ap (λ (x : SendList). x.messages) is_made

  is_sent : list_of id k.incarnation (k.steps ++ s ∷ []) ≡ v.messages
  is_sent = ap (λ (x : SendList). x.messages) (made_then c0 none_made k.steps (s ∷ []) ∙ ap (λ x. made x t (s ∷ [])) k.ran)

  sent : All (MayGoOut d (list_of id k.incarnation (k.steps ++ s ∷ []))) d.sends
  sent = subst (λ (x : Client). (new : List Up) → (after x s).sends ≡ x.sends ++ new → All (MayGoOut (after x s) (list_of id k.incarnation (k.steps ++ s ∷ []))) new) k.ran
      (steps_send id k.incarnation k.steps s) d.sends (sym (ap (λ l. l ++ d.sends) k.none))

  unnumbered : (m : Up) (q : ℕ) → None ≡ Some q → ⊥
  unnumbered m q e = grind arith

  listed_by : (m : Up) (q : ℕ) → q_in m ≡ Some q → MayGoOut d (list_of id k.incarnation (k.steps ++ s ∷ [])) m → Contains ms m
  listed_by m q has (inl hello) = absurd (unnumbered m q (sym (ap q_in hello) ∙ has))
  listed_by m q has (inr (inl beat)) = absurd (unnumbered m q (sym (ap q_in beat) ∙ has))
  listed_by m q has (inr (inr there)) = subst (λ l. Contains l m) (is_sent ∙ sym is_list) there

  new_listed : (m : Up) (q : ℕ) → Contains d.sends m → q_in m ≡ Some q → Contains ms m
  new_listed m q there has = listed_by m q has (All-contains (MayGoOut d (list_of id k.incarnation (k.steps ++ s ∷ []))) d.sends m sent there)

  client : d.session.client ≡ id
  client = by_move moves where
    by_move : Moves c d → d.session.client ≡ id
    by_move (inl x) = ap (λ (y : SessionId). y.client) x.session ∙ k.its
    by_move (inr x) = ap (λ (y : SessionId). y.client) x.session ∙ k.its

  -- all that is known of the new list, which is of the session
  known_by : (session : SessionId) → InList session ms → Within d session → (m : Up) (q : ℕ) → Contains (ups ++ d.sends) m → q_in m ≡ Some q → (session_in m).client ≡ id → Within d (session_in m)
  known_by session listed within m q there has its = by_place (Contains-append_cases ups d.sends m there) where
    by_place : Contains ups m ⊎ Contains d.sends m → Within d (session_in m)
    by_place (inl old) = widen c d (session_in m) moves (k.known m q old has its)
    by_place (inr new) = subst (Within d) (sym (listed_of session ms m listed (new_listed m q new has))) within

  -- ---- what is shown

  es : List Entry
  es = entries log

  tr : Path → Trail
  tr p = trail p c0 nothing k.steps

  all_messages : AreMessages (k.steps ++ more)
  all_messages = All-append MayHappen k.steps more k.messages (All-cons MayHappen s (hands_out_sends ∷ []) (its_step log s heard) (All-cons MayHappen hands_out_sends [] tt (All-nil MayHappen)))

  same_list : is_online c.phase ≡ true → is_online d.phase ≡ true → ms ≡ u.messages
  same_list on still = is_list ∙ ap (λ (x : SendList). x.messages) (kept_if c d u (is_online d.phase) refl (λ _. on))

  in_session : is_online d.phase ≡ true → d.session ≡ c.session
  in_session on = by_move moves where
    by_move : Moves c d → d.session ≡ c.session
    by_move (inl x) = x.session
    by_move (inr x) = absurd (true≢false (sym on ∙ x.now))

  listed_now : is_online c.phase ≡ true → Listed es c.session t.messages
  listed_now on = ((λ i q x get. found (up.Off c.session q x) q refl refl (came i (entry.Off c.session q x) get)), (λ i q x get. found (up.On c.session q x) q refl refl (came i (entry.On c.session q x) get))) where
    found : (m : Up) (q : ℕ) → q_in m ≡ Some q → session_in m ≡ c.session → WasSent ups m → (j : ℕ) × (q ≡ j + 1) × (slice_get t.messages j ≡ Some m)
    found m q has its packet =
        let there = k.complete m q (packet_there ups m packet) (has, its ∙ sym (k.online on)) in
        let at = get_contained t.messages m there in
        (at.0, number_is q (at.0 + 1) (sym has ∙ (k.listed at.0 m at.1).0), at.1)

  waits : is_online c.phase ≡ true → drop c.heard t.messages ≡ outstanding c
  waits = subst (λ (x : Client). is_online x.phase ≡ true → drop x.heard t.messages ≡ outstanding x) k.ran (sends_hold id k.incarnation k.steps)

  quiet : (p : Path) → count_after c s ≡ c.taken → Raw es d ms p (tr p)
  quiet p e = raw_into es d u.messages ms p (tr p) (λ g on. sym (same_list ((k.faith p).counted g).0 on)) (quiet_raw es c d t u p (tr p) (k.faith p) (λ on still. subst (Steps p c d t u) e (step_steps p c t s on still)) in_session)

  heard_now : (p : Path) (m : Down) → s ≡ receives m → IsInTranscript es m → (b : Bool) → takes c m ≡ b → Raw es (after_receive c m) ms p (if b then with_taken p c (tr p) m else tr p)
  heard_now p m is told false h = subst (λ y. Raw es (after c y) ms p (tr p)) is (quiet p (ap (count_after c) is ∙ ap (λ b. if b then c.taken + 1 else c.taken) h))
  heard_now p m is told true h =
      let on = takes_online c m h in
      raw_into es (after_receive c m) t.messages ms p (with_taken p c (tr p) m)
      (λ g still. sym (same_list on (subst (λ y. is_online (after c y).phase ≡ true) (sym is) still) ∙ ap (λ y. (made_step c t y).messages) is))
      (heard_raw log legal c m t.messages p (tr p) (k.faith p) (listed_now on) (waits on) h told (subst (λ b. Hears c (if b then c.taken + 1 else c.taken) (after_receive c m)) h (receive_hears c m on)) (receive_stays c m).session)

  raw : (p : Path) → Raw es d ms p (trail_step p c (tr p) s)
  raw p = by_step s refl heard where
    by_step : (y : ClientStep) → s ≡ y → Heard log y → Raw es (after c y) ms p (trail_step p c (tr p) y)
    by_step (receives m) is told = heard_now p m is told.0 (takes c m) refl
    by_step (calls x) is told = subst (λ y. Raw es (after c y) ms p (tr p)) is (quiet p (ap (count_after c) is))
    by_step hands_out_sends is told = subst (λ y. Raw es (after c y) ms p (tr p)) is (quiet p (ap (count_after c) is))
    by_step hands_out_notices is told = subst (λ y. Raw es (after c y) ms p (tr p)) is (quiet p (ap (count_after c) is))

  asked_now : (p : Path) → is_online d.phase ≡ true → is_some (watch_of p d.watches) ≡ true → Asked ms p
  asked_now p on there = by_phase (is_online c.phase) refl where
    by_phase : (b : Bool) → is_online c.phase ≡ b → Asked ms p
    by_phase true o = subst (λ l. Asked l p) (sym (same_list o on)) (asked_step p c d t u (count_after c s) (step_steps p c t s o on) ((k.faith p).asked o) there)
    by_phase false o = subst (λ l. Asked l p) (sym (is_list ∙ ap (λ (x : SendList). x.messages) (opened_if c d u on o))) (opening_asked p d u)

  faith_now : (p : Path) → Faith es (handed_out d) ms p (trail p c0 nothing (k.steps ++ more))
  faith_now p = subst (Faith es (handed_out d) ms p) (sym shape) (faith_handed es d ms p _ [] (faith_kept es d ms p (trail_step p c (tr p) s) (raw p) (asked_now p))) where
    shape : trail p c0 nothing (k.steps ++ more) ≡ kept_for p d (trail_step p c (tr p) s)
    shape = trail_then p c0 nothing k.steps more ∙ ap (λ x. trail p x (tr p) more) k.ran ∙ kept_again p d (trail_step p c (tr p) s)

  few_now : is_online d.phase ≡ true → d.taken ≤ length (stream d.session es)
  few_now on = by_phase (is_online c.phase) refl where
    small : is_online c.phase ≡ true → (m : Down) → Heard log (receives m) → (b : Bool) → takes c m ≡ b → (if b then c.taken + 1 else c.taken) ≤ length (stream c.session es)
    small o m told true h = let less = got_small (stream c.session es) c.taken m (next_of es c m h told.0) in omega (arith, less)
    small o m told false h = k.few o

    by_count : is_online c.phase ≡ true → (y : ClientStep) → Heard log y → count_after c y ≤ length (stream c.session es)
    by_count o (receives m) told = small o m told (takes c m) refl
    by_count o (calls x) told = k.few o
    by_count o hands_out_sends told = k.few o
    by_count o hands_out_notices told = k.few o

    by_phase : (b : Bool) → is_online c.phase ≡ b → d.taken ≤ length (stream d.session es)
    by_phase true o =
        let n = (step_steps [] c t s o on).taken in
        let few = by_count o s heard in
        let same = ap (λ x. length (stream x es)) (in_session on) in
        omega (arith, n, few, same)
    by_phase false o = let n = opened_taken c s on o in omega (arith, n)

  -- ---- what was written

  ws : List Op
  ws = writes_of id k.incarnation (k.steps ++ more)

  is_writes : ws ≡ t.writes ++ makes.more
  is_writes = ap (λ (x : SendList). x.writes) is_made ∙ kept_writes c d u ∙ makes.writes

  same_now : d.session.incarnation ≡ k.incarnation
  same_now = by_move moves where
    by_move : Moves c d → d.session.incarnation ≡ k.incarnation
    by_move (inl x) = ap (λ (y : SessionId). y.incarnation) x.session ∙ k.same
    by_move (inr x) = ap (λ (y : SessionId). y.incarnation) x.session ∙ k.same

  arrives : Arrives c d
  arrives = arrival c d (is_online d.phase) refl (is_online c.phase) refl

  begun : is_online d.phase ≡ true → is_online c.phase ≡ false → NewBase es id k.incarnation c d
  begun on off = new_base log c s id k.incarnation heard k.its k.same (step_opened c s on off)

  base_into : (x : ℕ) → c.base ≡ Some x → d.base ≡ Some x
  base_into x e = by_arrival arrives where
    by_arrival : Arrives c d → d.base ≡ Some x
    by_arrival (inl h) = moves_base c d moves h ∙ e
    by_arrival (inr h) = let b = begun h.0 h.1 in b.base ∙ ap (λ o. Some (unwrap_or o b.count)) e

  has_base_now : HasBase d
  has_base_now on = by_arrival arrives where
    by_arrival : Arrives c d → (x : ℕ) × (d.base ≡ Some x)
    by_arrival (inl h) = let b = k.has_base (h on) in (b.0, base_into b.0 b.1)
    by_arrival (inr h) = let b = begun h.0 h.1 in (unwrap_or c.base b.count, b.base)

  fit_now : AllFit d.base ws ms
  fit_now = by_arrival arrives where
    shape : (b : Option ℕ) → AllFit b u.writes v.messages → AllFit b ws ms
    shape b h = subst (λ l. AllFit b ws l) (sym is_list) (subst (λ l. AllFit b l v.messages) (sym (ap (λ (x : SendList). x.writes) is_made ∙ kept_writes c d u)) h)

    by_arrival : Arrives c d → AllFit d.base ws ms
    by_arrival (inl h) = shape d.base (subst (λ b. AllFit b u.writes v.messages) (sym (moves_base c d moves h)) (subst (λ (x : SendList). AllFit c.base u.writes x.messages) (sym (kept_if c d u (is_online d.phase) refl h)) (makes.fit k.has_base k.fit)))
    by_arrival (inr h) = let b = has_base_now h.0 in shape d.base (subst (λ (x : SendList). AllFit d.base u.writes x.messages) (sym (opened_if c d u h.0 h.1)) (opening_fit d u b.0 b.1))

  based_now : (x : ℕ) → d.base ≡ Some x → IsBase es id k.incarnation x
  based_now x e = by_arrival arrives where
    by_base : NewBase es id k.incarnation c d → (o : Option ℕ) → c.base ≡ o → IsBase es id k.incarnation x
    by_base b None n = subst (IsBase es id k.incarnation) (number_is b.count x (sym (ap (λ o. Some (unwrap_or o b.count)) n) ∙ sym b.base ∙ e)) b.told
    by_base b (Some y) n = k.written.based x (n ∙ sym (ap (λ o. Some (unwrap_or o b.count)) n) ∙ sym b.base ∙ e)

    by_arrival : Arrives c d → IsBase es id k.incarnation x
    by_arrival (inl h) = k.written.based x (sym (moves_base c d moves h) ∙ e)
    by_arrival (inr h) = by_base (begun h.0 h.1) c.base refl

  written_now : Written es (ups ++ d.sends) id k.incarnation d.base ws
  written_now = record {
    fits = λ x q n o there its its_start. by_place x q n o (Contains-append_cases ups d.sends (up.Op x q n o) there) its its_start;
    based = based_now;
  } where
    by_place : (x : SessionId) (q n : ℕ) (o : Op) → Contains ups (up.Op x q n o) ⊎ Contains d.sends (up.Op x q n o) → x.client ≡ id → x.incarnation ≡ k.incarnation → IsNth d.base ws n o
    by_place x q n o (inl old) its its_start = subst (λ l. IsNth d.base l n o) (sym is_writes) (nth_on c.base d.base t.writes makes.more n o base_into (k.written.fits x q n o old its its_start))
    by_place x q n o (inr new) its its_start = fit_now (up.Op x q n o) (new_listed (up.Op x q n o) q new refl)

  -- what is new is of this start
  earlier_now : (session : SessionId) → InList session ms → session.incarnation ≡ k.incarnation → (i : ℕ) → i < k.incarnation → SomeWritten es (ups ++ d.sends) id i
  earlier_now session listed of_start i less = let w = k.earlier i less in record { base = w.base; writes = w.writes; all = written_beside es ups (ups ++ d.sends) id i w.base w.writes old w.all } where
    old : (x : SessionId) (q n : ℕ) (o : Op) → Contains (ups ++ d.sends) (up.Op x q n o) → x.client ≡ id → x.incarnation ≡ i → Contains ups (up.Op x q n o)
    old x q n o there its its_start = by_place (Contains-append_cases ups d.sends (up.Op x q n o) there) where
      by_place : Contains ups (up.Op x q n o) ⊎ Contains d.sends (up.Op x q n o) → Contains ups (up.Op x q n o)
      by_place (inl here) = here
      by_place (inr new) = absurd (let is = ap (λ (y : SessionId). y.incarnation) (listed_of session ms (up.Op x q n o) listed (new_listed (up.Op x q n o) q new refl)) in omega (arith, less, of_start, its_start, is))

  -- ---- the list goes on

  goes_on : (is_online d.phase ≡ true → is_online c.phase ≡ true) → Next log ups id d
  goes_on h = record {
    later = record {
      incarnation = k.incarnation;
      steps = k.steps ++ more;
      ran = ran;
      none = refl;
      its = client;
      session = k.session;
      owner = k.owner;
      same = same_now;
      of_start = k.of_start;
      has_base = has_base_now;
      fit = fit_now;
      written = written_now;
      earlier = earlier_now k.session listed k.of_start;
      listed = listed;
      within = widen c d k.session moves k.within;
      complete = complete;
      online = online;
      opening = opens;
      known = known_by k.session listed (widen c d k.session moves k.within);
      messages = all_messages;
      few = few_now;
      faith = faith_now;
    };
    new = λ m q there has. listed_of k.session ms m listed (new_listed m q there has);
  } where
    same : ms ≡ u.messages
    same = is_list ∙ ap (λ (x : SendList). x.messages) (kept_if c d u (is_online d.phase) refl h)

    listed : InList k.session ms
    listed = subst (InList k.session) (sym same) (grown_in c t u k.session k.online grown k.listed)

    complete : (m : Up) (q : ℕ) → Contains (ups ++ d.sends) m → Has m q k.session → Contains ms m
    complete m q there has = by_place (Contains-append_cases ups d.sends m there) where
      by_place : Contains ups m ⊎ Contains d.sends m → Contains ms m
      by_place (inl old) = subst (λ l. Contains l m) (sym same) (grown_front c t u grown m (k.complete m q old has))
      by_place (inr new) = new_listed m q new has.0

    online : is_online d.phase ≡ true → k.session ≡ d.session
    online e = by_move moves where
      by_move : Moves c d → k.session ≡ d.session
      by_move (inl x) = k.online (h e) ∙ sym x.session
      by_move (inr x) = absurd (true≢false (sym e ∙ x.now))

    opens : is_opening d.phase ≡ true → Opens (ups ++ d.sends) (handed_out d) k.session
    opens e = by_move moves where
      by_move : Moves c d → Opens (ups ++ d.sends) (handed_out d) k.session
      by_move (inl x) = (none, (apart, early)) where
        was : Opens ups c k.session
        was = k.opening (x.opening e)

        apart : k.session ≡ d.session → ⊥
        apart f = was.1.0 (f ∙ x.session)

        none : (m : Up) (q : ℕ) → Contains (ups ++ d.sends) m → Has m q d.session → ⊥
        none m q there has = by_place (Contains-append_cases ups d.sends m there) where
          by_place : Contains ups m ⊎ Contains d.sends m → ⊥
          by_place (inl old) = was.0 m q old (has.0, has.1 ∙ x.session)
          by_place (inr new) = apart (sym (listed_of k.session ms m listed (new_listed m q new has.0)) ∙ has.1)

        early : d.session.attempt ≤ d.attempts
        early = let a = ap (λ (y : SessionId). y.attempt) x.session in let b = x.attempts in let l = was.1.1 in omega (arith, a, b, l)
      by_move (inr x) = (none, (apart, early)) where
        apart : k.session ≡ d.session → ⊥
        apart f = too_new c d k.session x k.within f

        none : (m : Up) (q : ℕ) → Contains (ups ++ d.sends) m → Has m q d.session → ⊥
        none m q there has = by_place (Contains-append_cases ups d.sends m there) where
          by_place : Contains ups m ⊎ Contains d.sends m → ⊥
          by_place (inl old) = too_new c d (session_in m) x (k.known m q old has.0 (ap (λ (y : SessionId). y.client) has.1 ∙ client)) has.1
          by_place (inr new) = apart (sym (listed_of k.session ms m listed (new_listed m q new has.0)) ∙ has.1)

        early : d.session.attempt ≤ d.attempts
        early = let a = ap (λ (y : SessionId). y.attempt) x.session in let b = x.attempts in omega (arith, a, b)

  -- ---- a session is opened

  is_opened : is_online d.phase ≡ true → is_online c.phase ≡ false → Next log ups id d
  is_opened on off = by_move moves where
    by_move : Moves c d → Next log ups id d
    by_move (inr x) = absurd (true≢false (sym on ∙ x.now))
    by_move (inl x) = record {
      later = record {
        incarnation = k.incarnation;
        steps = k.steps ++ more;
        ran = ran;
        none = refl;
        its = client;
        session = d.session;
        owner = client;
        same = same_now;
        of_start = same_now;
        has_base = has_base_now;
        fit = fit_now;
        written = written_now;
        earlier = earlier_now d.session listed same_now;
        listed = listed;
        within = within;
        complete = complete;
        online = λ _. refl;
        opening = λ e. absurd (both_phases d.phase on e);
        known = known_by d.session listed within;
        messages = all_messages;
        few = few_now;
        faith = faith_now;
      };
      new = λ m q there has. listed_of d.session ms m listed (new_listed m q there has);
    } where
      was_opening : is_opening c.phase ≡ true
      was_opening = by_case (x.online on) where
        by_case : (is_online c.phase ≡ true) ⊎ (is_opening c.phase ≡ true) → is_opening c.phase ≡ true
        by_case (inl e) = absurd (true≢false (sym e ∙ off))
        by_case (inr e) = e

      was : Opens ups c k.session
      was = k.opening was_opening

      listed : InList d.session ms
      listed = subst (InList d.session) (sym (is_list ∙ ap (λ (y : SendList). y.messages) (opened_if c d u on off))) (opening_in d u)

      within : Within d d.session
      within = inr (refl, early) where
        early : d.session.attempt ≤ d.attempts
        early = let a = ap (λ (y : SessionId). y.attempt) x.session in let b = x.attempts in let l = was.1.1 in omega (arith, a, b, l)

      complete : (m : Up) (q : ℕ) → Contains (ups ++ d.sends) m → Has m q d.session → Contains ms m
      complete m q there has = by_place (Contains-append_cases ups d.sends m there) where
        by_place : Contains ups m ⊎ Contains d.sends m → Contains ms m
        by_place (inl old) = absurd (was.0 m q old (has.0, has.1 ∙ x.session))
        by_place (inr new) = new_listed m q new has.0

  by : (a : Bool) → is_online d.phase ≡ a → (b : Bool) → is_online c.phase ≡ b → Next log ups id d
  by true e true f = goes_on (λ _. f)
  by true e false f = is_opened e f
  by false e b f = goes_on (λ g. absurd (true≢false (sym g ∙ e)))

-- ---- a client that starts again, or hands its notices out

pub faith_start : (es : List Entry) (id : ClientId) (n : ℕ) (p : Path) → Faith es (start id n) [] p nothing
faith_start es id n p = record { seen = seen_nothing es p; counted = λ g. absurd (true≢false (sym g)); live = λ g. absurd (true≢false (sym g)); asked = λ e. absurd (true≢false (sym e)) }

fresh : (log : Log) (ups : List Up) (id : ClientId) (c : Client) → Known log ups id c → Known log ups id (start id (c.session.incarnation + 1))
fresh log ups id c k = record {
  incarnation = n;
  steps = [];
  ran = refl;
  none = refl;
  its = refl;
  session = before;
  owner = refl;
  same = refl;
  of_start = refl;
  has_base = λ e. absurd (true≢false (sym e));
  fit = λ m there. absurd (nothing_in m there);
  written = none_written (entries log) ups id n (λ s q i o there its its_start. apart (up.Op s q i o) (k.known (up.Op s q i o) q there refl its) its_start);
  earlier = earlier;
  listed = λ i m get. absurd (none_or_some m get);
  within = inr (refl, omega arith);
  complete = λ m q there has. absurd (apart m (k.known m q there has.0 (ap (λ (s : SessionId). s.client) has.1)) (ap (λ (s : SessionId). s.incarnation) has.1));
  online = λ e. absurd (true≢false (sym e));
  opening = λ e. absurd (true≢false (sym e));
  known = λ m q there has its. rises (session_in m) (k.known m q there has its);
  messages = All-nil MayHappen;
  few = λ e. absurd (true≢false (sym e));
  faith = faith_start (entries log) id n;
} where
  n : ℕ
  n = c.session.incarnation + 1

  before : SessionId
  before = record { client = id; incarnation = n; attempt = 0 }

  apart : (m : Up) → Within c (session_in m) → (session_in m).incarnation ≡ c.session.incarnation + 1 → ⊥
  apart m (inl w) e = omega (arith, w, e)
  apart m (inr w) e = let x = w.0 in omega (arith, x, e)

  earlier : (i : ℕ) → i < n → SomeWritten (entries log) ups id i
  earlier i less = by (cases_order i k.incarnation) where
    by : (i ≡ k.incarnation) ⊎ ((i < k.incarnation) ⊎ (k.incarnation < i)) → SomeWritten (entries log) ups id i
    by (inl is) = record { base = c.base; writes = writes_of id k.incarnation k.steps; all = subst (λ j. Written (entries log) ups id j c.base (writes_of id k.incarnation k.steps)) (sym is) k.written }
    by (inr (inl small)) = k.earlier i small
    by (inr (inr large)) = absurd (let same = k.same in omega (arith, less, large, same))

  rises : (s : SessionId) → Within c s → Within (start id n) s
  rises s (inl w) = inl (omega (arith, w))
  rises s (inr w) = let x = w.0 in inl (omega (arith, x))

pub again : (log : Log) (ups : List Up) (id : ClientId) (c : Client) → Known log ups id c → Known log ups id (started_again id c)
again log ups id c k = by (nat_lt c.session.incarnation greatest_number) where
  by : (b : Bool) → Known log ups id (if b then start id (c.session.incarnation + 1) else c)
  by true = fresh log ups id c k
  by false = k

pub quieted : (log : Log) (ups : List Up) (id : ClientId) (c : Client) → Known log ups id c → Known log ups id (record c { notices = [] })
quieted log ups id c k = record {
  incarnation = k.incarnation;
  steps = k.steps ++ hands_out_notices ∷ [];
  ran = run_then (start id k.incarnation) k.steps (hands_out_notices ∷ []) ∙ ap (λ x. run x (hands_out_notices ∷ [])) k.ran;
  none = k.none;
  its = k.its;
  session = k.session;
  owner = k.owner;
  same = k.same;
  of_start = k.of_start;
  has_base = k.has_base;
  fit = subst (λ l. AllFit c.base l (list_of id k.incarnation (k.steps ++ hands_out_notices ∷ []))) (sym writes) (subst (λ l. AllFit c.base t.writes l) (sym same) k.fit);
  written = subst (Written (entries log) ups id k.incarnation c.base) (sym writes) k.written;
  earlier = k.earlier;
  listed = subst (InList k.session) (sym same) k.listed;
  within = k.within;
  complete = λ m q there has. subst (λ l. Contains l m) (sym same) (k.complete m q there has);
  online = k.online;
  opening = k.opening;
  known = k.known;
  messages = All-append MayHappen k.steps (hands_out_notices ∷ []) k.messages (All-cons MayHappen hands_out_notices [] tt (All-nil MayHappen));
  few = k.few;
  faith = λ p. subst (Faith (entries log) (record c { notices = [] }) _ p) (sym (shape p)) (subst (λ l. Faith (entries log) (record c { notices = [] }) l p (kept_for p c (tr p))) (sym same) (told p));
} where
  tr : Path → Trail
  tr p = trail p (start id k.incarnation) nothing k.steps

  shape : (p : Path) → trail p (start id k.incarnation) nothing (k.steps ++ hands_out_notices ∷ []) ≡ kept_for p c (tr p)
  shape p = trail_then p (start id k.incarnation) nothing k.steps (hands_out_notices ∷ []) ∙ ap (λ x. trail p x (tr p) (hands_out_notices ∷ [])) k.ran

  told : (p : Path) → Faith (entries log) (record c { notices = [] }) (list_of id k.incarnation k.steps) p (kept_for p c (tr p))
  told p = let f = k.faith p in faith_noted (entries log) c (list_of id k.incarnation k.steps) p _ (faith_kept (entries log) c (list_of id k.incarnation k.steps) p (tr p) (record { seen = λ w. f.seen; live = λ g on w. f.live g }) f.asked)

  t : SendList
  t = made (start id k.incarnation) none_made k.steps

  all : made (start id k.incarnation) none_made (k.steps ++ hands_out_notices ∷ []) ≡ t
  all = made_then (start id k.incarnation) none_made k.steps (hands_out_notices ∷ []) ∙ ap (λ x. made x t (hands_out_notices ∷ [])) k.ran ∙ kept_if c (record c { notices = [] }) t (is_online c.phase) refl (λ e. e)

  same : list_of id k.incarnation (k.steps ++ hands_out_notices ∷ []) ≡ t.messages
  same = ap (λ (x : SendList). x.messages) all

  writes : writes_of id k.incarnation (k.steps ++ hands_out_notices ∷ []) ≡ t.writes
  writes = ap (λ (x : SendList). x.writes) all

-- what another client sent
pub others : (log : Log) (ups new : List Up) (id other : ClientId) (c : Client) → ((m : Up) (q : ℕ) → Contains new m → q_in m ≡ Some q → (session_in m).client ≡ id) → (other ≡ id → ⊥) → Known log ups other c → Known log (ups ++ new) other c
others log ups new id other c from apart k = record {
  incarnation = k.incarnation;
  steps = k.steps;
  ran = k.ran;
  none = k.none;
  its = k.its;
  session = k.session;
  owner = k.owner;
  same = k.same;
  of_start = k.of_start;
  has_base = k.has_base;
  fit = k.fit;
  written = written_beside (entries log) ups (ups ++ new) other k.incarnation c.base (writes_of other k.incarnation k.steps) (λ s q n o there its its_start. old (up.Op s q n o) q there refl its) k.written;
  earlier = λ i less. let w = k.earlier i less in record { base = w.base; writes = w.writes; all = written_beside (entries log) ups (ups ++ new) other i w.base w.writes (λ s q n o there its its_start. old (up.Op s q n o) q there refl its) w.all };
  listed = k.listed;
  within = k.within;
  complete = λ m q there has. k.complete m q (old m q there has.0 (ap (λ (s : SessionId). s.client) has.1 ∙ k.owner)) has;
  online = k.online;
  opening = λ e. let was = k.opening e in ((λ m q there has. was.0 m q (old m q there has.0 (ap (λ (s : SessionId). s.client) has.1 ∙ k.its)) has), was.1);
  known = λ m q there has its. k.known m q (old m q there has its) has its;
  messages = k.messages;
  few = k.few;
  faith = k.faith;
} where
  old : (m : Up) (q : ℕ) → Contains (ups ++ new) m → q_in m ≡ Some q → (session_in m).client ≡ other → Contains ups m
  old m q there has its = by (Contains-append_cases ups new m there) where
    by : Contains ups m ⊎ Contains new m → Contains ups m
    by (inl x) = x
    by (inr x) = absurd (apart (sym its ∙ from m q x has))
