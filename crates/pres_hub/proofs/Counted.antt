-- How many messages were accepted since the start, turn by turn.
use Rattle.std.proofs.Common.{refl, sym, ◌∙◌, ap, subst, ◌≡◌, ◌<◌, ◌+◌, ◌^◌, ℕ, List, ◌∷◌, [], false, Option, Some, None, arith}
use Rattle.pres_ids.specs.declared.id.SessionId.{SessionId}
use Rattle.pres_wire.specs.declared.down.Down.{Down}
use Rattle.pres_wire.specs.declared.up.Up.{Up}
use Rattle.pres_wire.specs.declared.up.Up.TheVariants as up
use Rattle.pres_log.specs.declared.entry.Batch.{Batch}
use Rattle.pres_server.specs.declared.input.Input.{Input}
use Rattle.pres_server.specs.declared.input.Input.TheVariants as input
use Rattle.pres_server.specs.Turns.{Decision, refused, quiet, makes}
use Rattle.pres_server.specs.Sums.{Sum}
use Rattle.pres_server.specs.SumStates.{SumState}
use Rattle.pres_server.specs.SumAnswers.{answers_by}
use Rattle.pres_server.specs.SumTurns.{turn_by, moment_by, batch_by}
use Rattle.pres_server.specs.Histories.{History, LeadsTo, with_batch, begun_at}
use Rattle.pres_history.proofs.Histories.{history_holds}
use Rattle.pres_ring.specs.AcceptedMessages.{accepted, messages_in}
use Rattle.pres_ring.proofs.AcceptedSince.{accepted_since_adds, accepted_since_is_few}
use Rattle.pres_ring.proofs.TurnsBy.{accepts_one}
use Rattle.pres_ring.specs.RingEnds.{OutboxState}
use Rattle.pres_ring.specs.Lines.{Lines}
use Rattle.pres_keeper.specs.Engines.{Runs}
use Rattle.pres_keeper.specs.EngineTurns.{IsDone, IsTurnDone, history_made, history_turned}
use Rattle.pres_dispatch.specs.Dispatches.{is_hello, IsJoined, AreEnded, history_ended}
use Rattle.pres_dispatch.proofs.Behind.{leads_by}
use Rattle.pres_dispatch.proofs.Ended.{slow_keeps}
use Rattle.pres_hub.specs.Cores.{AreAccepted}
use Rattle.pres_hub.specs.CoreCalls.{accepted_by, accepted_of}

-- nothing was accepted when the hub starts
pub none_accepted : (start : ℕ) (base sum : Sum) → base ≡ sum → start ≡ sum.number → AreAccepted start 0 (begun_at base)
none_accepted start base sum same h = (h ∙ sym (ap (λ (x : Sum). x.number) same), refl)

-- after this batch
made_accepted : (start count : ℕ) (history : History) (b : Batch) → AreAccepted start count history → AreAccepted start (count + accepted b.entries) (with_batch history b)
made_accepted start count history b h = (h.0, accepted_since_adds history b ∙ ap (λ n. n + accepted b.entries) h.1)

-- the number of messages that the decision accepts
abbrev pub taken : ℕ → Decision → ℕ
taken messages (makes es) = messages
taken messages _ = 0

none_taken : (d : Decision) → taken 0 d ≡ 0
none_taken (refused f) = refl
none_taken quiet = refl
none_taken (makes es) = refl

one_taken : (d : Decision) → taken 1 d ≡ accepted_by d
one_taken (refused f) = refl
one_taken quiet = refl
one_taken (makes es) = refl

-- the history leads to the server's sum, and has this many messages accepted since the start
abbrev pub Accepted : ℕ → ℕ → History → SumState → Type 0
Accepted start count history s = LeadsTo history s.sum × AreAccepted start count history

-- a turn adds what it accepts
turned_accepted : (start count : ℕ) (history : History) (s : SumState) (new : Option SumState) (i : Input) (now : ℕ) (outs : List Down) → IsTurnDone (Some s) i now new outs → Accepted start count history s
    → Runs (Accepted start (count + taken (messages_in i) (turn_by s i now)) (history_turned history (Some s) i now)) new
turned_accepted start count history s new i now outs turned h = by (turn_by s i now) refl turned where
  by : (d : Decision) → turn_by s i now ≡ d → IsDone d s (moment_by s.sum now) i new outs → Runs (Accepted start (count + taken (messages_in i) d) (history_made history s.sum (moment_by s.sum now) d)) new
  by (refused f) k done = absurd done
  by quiet k done =
      let same : count ≡ count + 0 = omega arith in
      subst (Runs (Accepted start (count + 0) history)) (sym done.0) (h.0, subst (λ n. AreAccepted start n history) same h.1)
  by (makes es) k done =
      let one : accepted es ≡ messages_in i = accepts_one s i now es k in
      let b : Batch = batch_by s.sum (moment_by s.sum now) es in
      subst (Runs (Accepted start (count + messages_in i) (with_batch history b))) (sym done.0)
      (leads_by history s h.0 i now es k, subst (λ n. AreAccepted start (count + n) (with_batch history b)) one (made_accepted start count history b h.1))

-- an input that is no message adds nothing
pub same_accepted : (start count : ℕ) (history : History) (old new : Option SumState) (i : Input) (now : ℕ) (outs : List Down) → messages_in i ≡ 0 → IsTurnDone old i now new outs → Runs (Accepted start count history) old
    → Runs (Accepted start count (history_turned history old i now)) new
same_accepted start count history None new i now outs none turned h = absurd turned
same_accepted start count history (Some s) new i now outs none turned h =
    let zero : taken (messages_in i) (turn_by s i now) ≡ 0 = ap (λ n. taken n (turn_by s i now)) none ∙ none_taken (turn_by s i now) in
    let same : count + taken (messages_in i) (turn_by s i now) ≡ count = omega (arith, zero) in
    subst (λ n. Runs (Accepted start n (history_turned history (Some s) i now)) new) same (turned_accepted start count history s new i now outs turned h)

-- a message adds itself where it is accepted
pub said_accepted : (start count : ℕ) (history : History) (old new : Option SumState) (m : Up) (now : ℕ) (outs : List Down) → IsTurnDone old (input.Up m) now new outs → Runs (Accepted start count history) old
    → Runs (Accepted start (count + accepted_of old m now) (history_turned history old (input.Up m) now)) new
said_accepted start count history None new m now outs turned h = absurd turned
said_accepted start count history (Some s) new m now outs turned h =
    subst (λ n. Runs (Accepted start (count + n) (history_turned history (Some s) (input.Up m) now)) new) (one_taken (turn_by s (input.Up m) now))
    (turned_accepted start count history s new (input.Up m) now outs turned h)

-- a Hello that is done is one more
joined_done : (s : SessionId) (now : ℕ) (old new : Option SumState) (before after : Lines) (end : OutboxState) → (joined : IsJoined s now old new before after end)
    → IsTurnDone old (input.Up (up.Hello s)) now new (answers_by joined.state.sum joined.made)
joined_done s now old new before after end joined =
    let state = joined.state in
    subst (λ o. IsTurnDone o (input.Up (up.Hello s)) now new (answers_by state.sum joined.made)) (sym joined.ran)
    (subst (λ d. IsDone d state (moment_by state.sum now) (input.Up (up.Hello s)) new (answers_by state.sum joined.made)) (sym joined.turned) (joined.runs, refl))

pub joined_accepted : (start count : ℕ) (history : History) (s : SessionId) (now : ℕ) (old new : Option SumState) (before after : Lines) (end : OutboxState) → IsJoined s now old new before after end → Runs (Accepted start count history) old
    → Runs (Accepted start (count + 1) (history_turned history old (input.Up (up.Hello s)) now)) new
joined_accepted start count history s now old new before after end joined h =
    let one : accepted_of old (up.Hello s) now ≡ 1 = ap (λ o. accepted_of o (up.Hello s) now) joined.ran ∙ ap accepted_by joined.turned in
    subst (λ n. Runs (Accepted start (count + n) (history_turned history old (input.Up (up.Hello s)) now)) new) one
    (said_accepted start count history old new (up.Hello s) now (answers_by joined.state.sum joined.made) (joined_done s now old new before after end joined) h)

-- ends of slow sessions add nothing
pub ended_accepted : (start count now : ℕ) (history : History) (old new : Option SumState) (before after : Lines) → (ended : AreEnded now old new before after) → Runs (Accepted start count history) old
    → Runs (Accepted start count (history_ended history ended)) new
ended_accepted start count now history old new before after ended h =
    slow_keeps (Accepted start count) now (λ l x s server outs opened turned k. same_accepted start count l (Some x) server (input.Slow s) now outs refl turned k)
    history old new before after ended h

pub no_hello : (i : Input) → messages_in i ≡ 0 → is_hello i ≡ false
no_hello (input.Up m) h = absurd (cc h)
no_hello (input.Lost s) h = refl
no_hello (input.Slow s) h = refl
no_hello (input.Restart c) h = refl
no_hello input.Tick h = refl

-- the messages don't run out of numbers, since the entries don't
pub few_accepted : (start count : ℕ) (history : History) (s : SumState) → Accepted start count history s → count < 2 ^ 53
few_accepted start count history s h =
    let few = accepted_since_is_few history s.sum h.0 in
    let room = (history_holds history s.sum h.0).room in
    let same = h.1.1 in
    omega (arith, few, room, same)
