-- What each client of a world sent, and shows, in a world as a whole, and that the world goes on so.
use Rattle.std.proofs.Common.{if◌then◌else◌, ◌&&◌, not, refl, sym, ◌∙◌, ap, subst, ◌≡◌, ◌≤◌, ℕ, Bool, true, false, cond, List, [], ◌∷◌, ◌++◌, slice_get, ◌⊎◌, inl, inr, Option, Some, None, true≢false, arith, unwrap_or, is_eq, Ordering, Less, Equal, Greater, length, take}
use Rattle.std.specs.Prelude.{fold}
use Rattle.std.specs.List.{AllByRecursion, Contains}
use Rattle.std.specs.Ordering.{eq_by_cmp}
use Rattle.std.specs.Cmp.{tied_itself}
use Rattle.std.specs.FinMap.Entries.{find, put, find-put}
use Rattle.std.proofs.lemmas.Bool.{and_parts}
use Rattle.std.proofs.lemmas.List.Elements.{Contains-append_cases}
use Rattle.pres_ids.specs.declared.id.SessionId.{SessionId}
use Rattle.pres_ids.specs.Ids.{ClientId, client_cmp, same_session}
use Rattle.pres_write.specs.declared.op.Op.{Op}
use Rattle.pres_write.specs.declared.outcome.Outcome.{Outcome}
use Rattle.pres_wire.specs.declared.down.Down.{Down}
use Rattle.pres_wire.specs.declared.down.Down.TheVariants as down
use Rattle.pres_wire.specs.declared.up.Up.{Up}
use Rattle.pres_wire.specs.declared.up.Up.TheVariants as up
use Rattle.pres_wire.specs.Messages.{session_in, q_in}
use Rattle.pres_client.specs.Clients.{ClientState as Client, start, is_online, view}
use Rattle.pres_client.specs.ReceivedMessages.{accepts}
use Rattle.pres_client.specs.Steps.{ClientStep, after, IsClientStep as MayHappen}
use Rattle.pres_client.specs.Views.{trail, nothing}
use Rattle.pres_client.proofs.Trails.{views_hold}
use Rattle.pres_log.specs.declared.entry.Entry.{Entry}
use Rattle.pres_log.specs.declared.entry.Entry.TheVariants as entry
use Rattle.pres_log.specs.Logs.{Log, entries, item_at, tree}
use Rattle.pres_history.specs.LegalLog.{IsLegal}
use Rattle.pres_server.specs.Sessions.{session_of}
use Rattle.pres_history.specs.Streams.{stream}
use Rattle.pres_server.proofs.Clients.{session_same, clients_total, clients_apart}
use Rattle.pres_tree.specs.declared.scalar.Scalar.{Scalar}
use Rattle.pres_tree.specs.Paths.{Path}
use Rattle.pres_tree.specs.Rows.{Rows, value_at}
use Rattle.std.proofs.lemmas.List.Elements.{All-nil}
use Rattle.pres_world.specs.ServerSides.{ServerSideState}
use Rattle.pres_world.specs.Safe.{CameFromMessage}
use Rattle.pres_world.proofs.Faith.{stream_longer}
use Rattle.pres_world.proofs.Follow.{Faith, faith_front}
use Rattle.pres_world.proofs.Writes.{nth_once}
use Rattle.pres_world.proofs.Written.{SomeWritten, Written, none_written, not_older, written_front}
use Rattle.pres_world.specs.WorldClients.{acknowledged, handed_out, is_fault, started_again}
use Rattle.pres_world.proofs.Backed.{Backed, IsWrite, all_into, item_front}
use Rattle.pres_world.specs.Worlds.{World, Clients, joined, new_world, becomes, IsClient}
use Rattle.pres_world.specs.Safe.{WasSent, SameNumberSameMessage, SameNumberSameOp}
use Rattle.pres_world.proofs.Stands.{none_or_some}
use Rattle.pres_world.proofs.Stays.{Moves}
use Rattle.pres_world.proofs.Lists.{listed_once}
use Rattle.pres_world.proofs.Known.{Within, list_of, writes_of, Known, Next, nothing_in, packet_there, Heard, step_known, faith_start, again, quieted, others}

-- two packets of one session with one number are one message
abbrev pub OneMessage : List Up → Type 0
OneMessage ups = (m k : Up) (q : ℕ) → Contains ups m → Contains ups k → session_in m ≡ session_in k → q_in m ≡ Some q → q_in k ≡ Some q → m ≡ k

-- the client of a session that sent a message with a number is there
abbrev pub HasClient : Clients → ClientId → Type 0
HasClient clients id = (c : Client) × (find client_cmp id clients ≡ Some c)

-- the write that a reply tells of was asked for by the start of the client that took the reply, or by an earlier one
abbrev pub Early : List Entry → Down → Type 0
Early es (down.Reply s r z q n done out) = ((e : Entry) × (item_at es done ≡ Some e)) × ((u : SessionId) (p k : ℕ) (o : Op) (x : Outcome) → item_at es done ≡ Some (entry.Op u p k o x) → u.incarnation ≤ s.incarnation)
Early es _ = Unit {0}

early_front : (es more : List Entry) (m : Down) → Early es m → Early (es ++ more) m
early_front es more (down.Reply s r z q n done out) h = ((h.0.0, item_front es more done h.0.0 h.0.1), λ u p k o x at. h.1 u p k o x (h.0.1 ∙ sym (item_front es more done h.0.0 h.0.1) ∙ at))
early_front es more (down.Welcome s z count) h = tt
early_front es more (down.Gone s r z why) h = tt
early_front es more (down.Fault session reason) h = tt
early_front es more (down.Armed s r z q) h = tt
early_front es more (down.Denied s r z q why) h = tt
early_front es more (down.Snap s r z q p v) h = tt
early_front es more (down.Push s r z values) h = tt
early_front es more (down.OffDone s r z q) h = tt

pub record Numbered (w : World) : Type 0 where
  pub one : OneMessage w.ups
  pub clients : (id : ClientId) (c : Client) → IsClient w id c → Known w.serving.history w.ups id c
  pub owned : (m : Up) (q : ℕ) → Contains w.ups m → q_in m ≡ Some q → HasClient w.clients (session_in m).client
  pub early : AllByRecursion (Early (entries w.serving.history)) w.acks

one_more : (log : Log) (ups : List Up) (id : ClientId) (d : Client) → OneMessage ups → Next log ups id d → OneMessage (ups ++ d.sends)
one_more log ups id d one n m k q m_there k_there same mq kq = by (Contains-append_cases ups d.sends m m_there) (Contains-append_cases ups d.sends k k_there) where
  both : session_in m ≡ n.later.session → m ≡ k
  both its = listed_once n.later.session _ m k q n.later.listed (n.later.complete m q m_there (mq, its)) (n.later.complete k q k_there (kq, sym same ∙ its)) mq kq

  by : Contains ups m ⊎ Contains d.sends m → Contains ups k ⊎ Contains d.sends k → m ≡ k
  by (inl x) (inl y) = one m k q x y same mq kq
  by (inl x) (inr y) = both (same ∙ n.new k q y kq)
  by (inr x) y = both (n.new m q x mq)

client_is : (x y : Client) → Some x ≡ Some y → x ≡ y
client_is x y e = ap (λ o. unwrap_or o x) e

tie : (o : Ordering) → is_eq o ≡ true → o ≡ Equal
tie Less h = absurd (true≢false (sym h))
tie Equal h = refl
tie Greater h = absurd (true≢false (sym h))

-- the client with the id became d; what holds of it, and of the others as they were, holds of all
put_known : (log : Log) (ups : List Up) (clients : Clients) (id : ClientId) (d : Client) → Known log ups id d → ((other : ClientId) (c : Client) → (other ≡ id → ⊥) → find client_cmp other clients ≡ Some c → Known log ups other c)
    → (other : ClientId) (c : Client) → find client_cmp other (put client_cmp id d clients) ≡ Some c → Known log ups other c
put_known log ups clients id d here rest other c found = by (eq_by_cmp client_cmp other id) refl where
  by : (b : Bool) → eq_by_cmp client_cmp other id ≡ b → Known log ups other c
  by true e =
      let same = clients_apart other id (tie (client_cmp other id) e) in
      let is = client_is d c (sym (find-put client_cmp clients_total other id d clients ∙ ap (λ x. cond x (Some d) (find client_cmp other clients)) e) ∙ found) in
      subst (Known log ups other) is (subst (λ x. Known log ups x d) (sym same) here)
  by false e = rest other c (λ same. true≢false (sym (ap is_eq (tied_itself clients_total id)) ∙ ap (λ x. eq_by_cmp client_cmp x id) (sym same) ∙ e)) (sym (find-put client_cmp clients_total other id d clients ∙ ap (λ x. cond x (Some d) (find client_cmp other clients)) e) ∙ found)

-- it is still there
put_there : (clients : Clients) (id : ClientId) (d : Client) (other : ClientId) → HasClient clients other → HasClient (put client_cmp id d clients) other
put_there clients id d other h = by (eq_by_cmp client_cmp other id) refl where
  by : (b : Bool) → eq_by_cmp client_cmp other id ≡ b → HasClient (put client_cmp id d clients) other
  by true e = (d, find-put client_cmp clients_total other id d clients ∙ ap (λ x. cond x (Some d) (find client_cmp other clients)) e)
  by false e = (h.0, find-put client_cmp clients_total other id d clients ∙ ap (λ x. cond x (Some d) (find client_cmp other clients)) e ∙ h.1)

pub becomes_numbered : (w : World) (id : ClientId) (c : Client) (s : ClientStep) → IsLegal w.serving.history → ((i : ℕ) (e : Entry) → slice_get (entries w.serving.history) i ≡ Some e → CameFromMessage w.ups e) → Heard w.serving.history s → Numbered w → IsClient w id c → Moves c (after c s) → Numbered (becomes w id (after c s))
becomes_numbered w id c s legal came heard h there moves = record {
  one = one_more w.serving.history w.ups id d h.one n;
  clients = put_known w.serving.history (w.ups ++ d.sends) w.clients id (handed_out d) n.later (λ other x apart found. others w.serving.history w.ups d.sends id other x (λ m q in_new has. ap (λ (y : SessionId). y.client) (n.new m q in_new has) ∙ n.later.owner) apart (h.clients other x found));
  owned = λ m q there has. by_place m q has (Contains-append_cases w.ups d.sends m there);
  early = h.early;
} where
  d : Client
  d = after c s

  n : Next w.serving.history w.ups id d
  n = step_known w.serving.history legal w.ups came id c s heard (h.clients id c there) moves

  by_place : (m : Up) (q : ℕ) → q_in m ≡ Some q → Contains w.ups m ⊎ Contains d.sends m → HasClient (put client_cmp id (handed_out d) w.clients) (session_in m).client
  by_place m q has (inl old) = put_there w.clients id (handed_out d) (session_in m).client (h.owned m q old has)
  by_place m q has (inr new) = put_there w.clients id (handed_out d) (session_in m).client (subst (HasClient w.clients) (sym (ap (λ (y : SessionId). y.client) (n.new m q new has) ∙ n.later.owner)) (c, there))

puts_numbered : (w : World) (id : ClientId) (d : Client) → Numbered w → Known w.serving.history w.ups id d → Numbered (record w { clients = put client_cmp id d w.clients })
puts_numbered w id d h here = record { one = h.one; clients = put_known w.serving.history w.ups w.clients id d here (λ other x apart found. h.clients other x found); owned = λ m q there has. put_there w.clients id d (session_in m).client (h.owned m q there has); early = h.early }

pub again_numbered : (w : World) (id : ClientId) (c : Client) → Numbered w → IsClient w id c → Numbered (record w { clients = put client_cmp id (started_again id c) w.clients })
again_numbered w id c h there = puts_numbered w id (started_again id c) h (again w.serving.history w.ups id c (h.clients id c there))

pub quiet_numbered : (w : World) (id : ClientId) (c : Client) → Numbered w → IsClient w id c → Numbered (record w { clients = put client_cmp id (record c { notices = [] }) w.clients })
quiet_numbered w id c h there = puts_numbered w id (record c { notices = [] }) h (quieted w.serving.history w.ups id c (h.clients id c there))

-- the log grows
known_front : (log later : Log) (more : List Entry) (ups : List Up) (id : ClientId) (c : Client) → entries later ≡ entries log ++ more → Known log ups id c → Known later ups id c
known_front log later more ups id c grown k = record {
  incarnation = k.incarnation;
  steps = k.steps;
  ran = k.ran;
  none = k.none;
  its = k.its;
  session = k.session;
  owner = k.owner;
  same = k.same;
  of_start = k.of_start;
  has_base = k.has_base;
  fit = k.fit;
  written = longer k.incarnation c.base (writes_of id k.incarnation k.steps) k.written;
  earlier = λ i less. let w = k.earlier i less in record { base = w.base; writes = w.writes; all = longer i w.base w.writes w.all };
  listed = k.listed;
  within = k.within;
  complete = k.complete;
  online = k.online;
  opening = k.opening;
  known = k.known;
  messages = k.messages;
  few = λ on. let was = k.few on in let longer = stream_longer c.session (entries log) more in subst (λ l. c.taken ≤ length (stream c.session l)) (sym grown) (omega (arith, was, longer));
  faith = λ p. subst (λ l. Faith l c (list_of id k.incarnation k.steps) p (trail p (start id k.incarnation) nothing k.steps)) (sym grown) (faith_front (entries log) more c _ p _ k.few (k.faith p));
} where
  longer : (i : ℕ) (b : Option ℕ) (ws : List Op) → Written (entries log) ups id i b ws → Written (entries later) ups id i b ws
  longer i b ws w = subst (λ l. Written l ups id i b ws) (sym grown) (written_front (entries log) more ups id i b ws w)

pub grown_numbered : (w : World) (v : ServerSideState) (more : List Entry) → entries v.history ≡ entries w.serving.history ++ more → Numbered w → Numbered (record w { serving = v })
grown_numbered w v more grown h = record {
  one = h.one;
  clients = λ id c there. known_front w.serving.history v.history more w.ups id c grown (h.clients id c there);
  owned = h.owned;
  early = subst (λ l. AllByRecursion (Early l) w.acks) (sym grown) (all_into (Early (entries w.serving.history)) (Early (entries w.serving.history ++ more)) w.acks (early_front (entries w.serving.history) more) h.early);
}

-- ---- what is shown

pub shown_true : (w : World) (id : ClientId) (c : Client) → Numbered w → IsClient w id c → (p : Path) (z : ℕ) (v : Rows Scalar) → view p c ≡ Some (z, v) → (z ≤ length (entries w.serving.history)) × (v ≡ value_at p (tree (take z (entries w.serving.history))))
shown_true w id c h there p z v shows =
    let k = h.clients id c there in
    (k.faith p).seen z v (sym (views_hold id k.incarnation p k.steps k.messages) ∙ ap (view p) k.ran ∙ shows)

-- ---- a new world

first_known : (id : ClientId) → Known [] [] id (start id 1)
first_known id = record {
  incarnation = 1;
  steps = [];
  ran = refl;
  none = refl;
  its = refl;
  session = record { client = id; incarnation = 1; attempt = 0 };
  owner = refl;
  same = refl;
  of_start = refl;
  has_base = λ e. absurd (true≢false (sym e));
  fit = λ m there. absurd (nothing_in m there);
  written = none_written [] [] id 1 (λ s q n o there its its_start. nothing_in (up.Op s q n o) there);
  earlier = λ i less. record { base = None; writes = []; all = none_written [] [] id i (λ s q n o there its its_start. nothing_in (up.Op s q n o) there) };
  listed = λ i m get. absurd (none_or_some m get);
  within = inr (refl, omega arith);
  complete = λ m q there has. absurd (nothing_in m there);
  online = λ e. absurd (true≢false (sym e));
  opening = λ e. absurd (true≢false (sym e));
  known = λ m q there has its. absurd (nothing_in m there);
  messages = All-nil MayHappen;
  few = λ e. absurd (true≢false (sym e));
  faith = faith_start [] id 1;
}

joined_known : (clients : Clients) (ids : List ClientId) → ((id : ClientId) (c : Client) → find client_cmp id clients ≡ Some c → Known [] [] id c) → (id : ClientId) (c : Client) → find client_cmp id (fold joined clients ids) ≡ Some c → Known [] [] id c
joined_known clients [] h = h
joined_known clients (x ∷ ids) h = joined_known (joined clients x) ids (put_known [] [] clients x (start x 1) (first_known x) (λ other c apart found. h other c found))

pub new_numbered : (ids : List ClientId) → Numbered (new_world ids)
new_numbered ids = record { one = λ m k q x y same mq kq. absurd (nothing_in m x); clients = joined_known [] ids (λ id c found. absurd (nobody c found)); owned = λ m q there has. absurd (nothing_in m there); early = tt } where
  nobody : (c : Client) → None ≡ Some c → ⊥
  nobody c e = grind arith

-- ---- a reply that is taken

early_ack : (log : Log) (ups : List Up) (id : ClientId) (c : Client) (m : Down) → Known log ups id c → ((z : ℕ) (e : Entry) → item_at (entries log) z ≡ Some e → CameFromMessage ups e) → Backed (entries log) m → accepts c m ≡ true → Early (entries log) m
early_ack log ups id c (down.Reply s r z q n done out) k came backed taken = ((entry.Op w.session w.q n w.op w.outcome, w.stands), early) where
  w : IsWrite (entries log) s n done out
  w = backed.0

  is : s ≡ c.session
  is = session_same s c.session (and_parts (same_session s c.session) _ (and_parts (is_online c.phase) _ taken).1).0

  early : (u : SessionId) (p j : ℕ) (o : Op) (x : Outcome) → item_at (entries log) done ≡ Some (entry.Op u p j o x) → u.incarnation ≤ s.incarnation
  early u p j o x at = by (k.known (up.Op u p j o) p (packet_there ups (up.Op u p j o) (came done (entry.Op u p j o x) at)) refl its) where
    its : u.client ≡ id
    its = ap (λ e. (session_of (unwrap_or e (entry.Open u))).client) (sym at ∙ w.stands) ∙ w.client ∙ ap (λ (y : SessionId). y.client) is ∙ k.its

    by : Within c u → u.incarnation ≤ s.incarnation
    by (inl less) = let e = ap (λ (y : SessionId). y.incarnation) is in omega (arith, less, e)
    by (inr same) = let e = ap (λ (y : SessionId). y.incarnation) is in let x = same.0 in omega (arith, x, e)
early_ack log ups id c (down.Welcome s z count) k came backed taken = tt
early_ack log ups id c (down.Gone s r z why) k came backed taken = tt
early_ack log ups id c (down.Fault session reason) k came backed taken = tt
early_ack log ups id c (down.Armed s r z q) k came backed taken = tt
early_ack log ups id c (down.Denied s r z q why) k came backed taken = tt
early_ack log ups id c (down.Snap s r z q p v) k came backed taken = tt
early_ack log ups id c (down.Push s r z values) k came backed taken = tt
early_ack log ups id c (down.OffDone s r z q) k came backed taken = tt

pub early_acks : (log : Log) (ups : List Up) (id : ClientId) (c : Client) (m : Down) → Known log ups id c → ((z : ℕ) (e : Entry) → item_at (entries log) z ≡ Some e → CameFromMessage ups e) → Backed (entries log) m → AllByRecursion (Early (entries log)) (acknowledged c m)
early_acks log ups id c m k came backed = by (accepts c m) refl (is_fault m) where
  by : (a : Bool) → accepts c m ≡ a → (b : Bool) → AllByRecursion (Early (entries log)) (if a && not b then m ∷ [] else [])
  by true e true = tt
  by true e false = (early_ack log ups id c m k came backed e, tt)
  by false e b = tt

-- ---- writes of one start

-- what went out of the start of the client that a session is of
written_of : (log : Log) (ups : List Up) (id : ClientId) (c : Client) (s : SessionId) → Known log ups id c → Within c s → SomeWritten (entries log) ups id s.incarnation
written_of log ups id c s k (inl less) = let same = k.same in k.earlier s.incarnation (omega (arith, less, same))
written_of log ups id c s k (inr within) = record { base = c.base; writes = writes_of id k.incarnation k.steps; all = subst (λ i. Written (entries log) ups id i c.base (writes_of id k.incarnation k.steps)) (sym (within.0 ∙ k.same)) k.written }

all_written : (w : World) → Numbered w → (s : SessionId) (q n : ℕ) (o : Op) → Contains w.ups (up.Op s q n o) → SomeWritten (entries w.serving.history) w.ups s.client s.incarnation
all_written w h s q n o there =
    let c = h.owned (up.Op s q n o) q there refl in
    let k = h.clients s.client c.0 c.1 in
    written_of w.serving.history w.ups s.client c.0 s k (k.known (up.Op s q n o) q there refl refl)

-- two packets of one start of a client with one number carry one write
pub packets_repeat : (w : World) → Numbered w → SameNumberSameOp w.ups
packets_repeat w h s t q p n o x first second its its_start =
    let there = packet_there w.ups (up.Op s q n o) first in
    let a = all_written w h s q n o there in
    nth_once a.base a.writes n o x (a.all.fits s q n o there refl refl) (a.all.fits t p n x (packet_there w.ups (up.Op t p n x) second) (sym its) (sym its_start))

-- what stands for a write that was asked for is of the start that asked for it, where no later start asked
pub same_start : (w : World) → Numbered w → IsLegal w.serving.history → (s u : SessionId) (q p n : ℕ) (o x : Op) (r : Outcome) (i : ℕ) → WasSent w.ups (up.Op s q n o) →
    slice_get (entries w.serving.history) i ≡ Some (entry.Op u p n x r) → u.client ≡ s.client → u.incarnation ≤ s.incarnation → u.incarnation ≡ s.incarnation
same_start w h legal s u q p n o x r i first get its early =
    let there = packet_there w.ups (up.Op s q n o) first in
    let a = all_written w h s q n o there in
    let asked = a.all.fits s q n o there refl refl in
    let count = asked.count in
    let late = not_older w.serving.history legal s.client s.incarnation asked.base (a.all.based asked.base asked.known) u p n x r i get its (omega (arith, count)) in
    omega (arith, early, late)

pub packets_numbered : (w : World) → Numbered w → SameNumberSameMessage w.ups
packets_numbered w h m k q x y = h.one m k q (packet_there w.ups m x) (packet_there w.ups k y)
