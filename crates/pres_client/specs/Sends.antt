-- What a client sends: in each session one list of messages, the k-th with q = k, and the k-th write of an incarnation
-- with n = k counted on from the writes that the server had before.
use Rattle.std.specs.Prelude.{◌≡◌, ◌+◌, ℕ, true, List, [], ◌∷◌, ◌++◌, All, map, length, drop, Option, Some, None, ◌⊎◌, if◌then◌else◌}
use Rattle.std.specs.List.{Contains}
use Rattle.std.specs.Option.{is_none}
use Rattle.pres_tree.specs.Paths.{Path}
use Rattle.pres_write.specs.declared.op.Op.{Op}
use Rattle.pres_write.specs.declared.op.Op.TheVariants as op
use Rattle.pres_write.specs.declared.unconditional.Unconditional.TheVariants as unconditional
use Rattle.pres_write.specs.Transactions.{comparison}
use Rattle.pres_write.specs.Updates.{update_of}
use Rattle.pres_ids.specs.declared.id.SessionId.{SessionId}
use Rattle.pres_wire.specs.declared.up.Up.{Up}
use Rattle.pres_wire.specs.declared.up.Up.TheVariants as up
use Rattle.pres_ids.specs.Ids.{ClientId}
use Rattle.pres_client_state.specs.declared.ask.Ask.{Ask}
use Rattle.pres_client_state.specs.Queues.{messages}
use Rattle.pres_client_state.specs.Watches.{watch_of}
use Rattle.pres_client_state.specs.Asks.{ask_of}
use Rattle.pres_client.specs.declared.call.Answer.{Answer}
use Rattle.pres_client.specs.declared.call.Answer.TheVariants as answer
use Rattle.pres_client.specs.declared.call.Call.{Call}
use Rattle.pres_client.specs.declared.call.Call.TheVariants as call
use Rattle.pres_client.specs.Clients.{ClientState, start, is_online, base_of, outstanding}
use Rattle.pres_client.specs.Calls.{refusal}
use Rattle.pres_client.specs.Steps.{ClientStep, calls, receives, hands_out_sends, hands_out_notices, after, run}

-- what was made so far: the writes of the incarnation, and the messages of the session
pub record SendList : Type 0 where
  pub writes : List Op
  pub messages : List Up

-- nothing was made
abbrev pub none_made : SendList
none_made = record { writes = []; messages = [] }

-- a message still without its q
abbrev pub Unnumbered : Type 0
Unnumbered = ℕ → Up

-- the messages, each with the next q
abbrev pub numbered : ℕ → List Unnumbered → List Up
numbered q [] = []
numbered q (m ∷ ms) = m q ∷ numbered (q + 1) ms

-- writes, from the number n on
abbrev pub op_messages : SessionId → ℕ → List Op → List Unnumbered
op_messages s n [] = []
op_messages s n (o ∷ os) = (λ q. up.Op s q n o) ∷ op_messages s (n + 1) os

-- a listen for each of the paths
abbrev pub on_messages : SessionId → List Path → List Unnumbered
on_messages s ps = map (λ p. let m : Unnumbered = λ q. up.On s q p in m) ps

-- at the Welcome: a listen for each path, in path order, and each write without an answer, in order. The client is d.
abbrev pub opening : ClientState → SendList → SendList
opening d t =
    record t { messages = numbered 1 (on_messages d.session (map (λ e. e.0) d.watches) ++ op_messages d.session (base_of d + d.answered + 1) (drop d.answered t.writes)) }

-- one message more, where the client is Online
abbrev pub made_one : ClientState → SendList → Unnumbered → SendList
made_one c t m = if is_online c.phase then record t { messages = t.messages ++ m (length t.messages + 1) ∷ [] } else t

-- one write more
abbrev pub wrote_one : ClientState → SendList → Op → SendList
wrote_one c t o = let u = made_one c t (λ q. up.Op c.session q (base_of c + length t.writes + 1) o) in record u { writes = t.writes ++ o ∷ [] }

-- the try of a transaction that its caller answered with a new value
abbrev pub answered_one : ClientState → SendList → Answer → Option Ask → SendList
answered_one c t given None = t
answered_one c t answer.Abort (Some a) = t
answered_one c t (answer.New new) (Some a) = wrote_one c t (op.Tx (comparison a.path a.value new))

-- what an accepted call makes
abbrev pub made_by : ClientState → SendList → Call → SendList
made_by c t (call.Set p draft) = wrote_one c t (op.Set (p, draft))
made_by c t (call.Update p places) = wrote_one c t (op.Update (update_of p places.items))
made_by c t (call.Remove p) = wrote_one c t (op.Set (p, []))
made_by c t (call.Transact p) = t
made_by c t (call.Answer k given) = answered_one c t given (ask_of k c.asks)
made_by c t (call.OnDisconnectSet p draft) = made_one c t (λ q. up.Left c.session q (unconditional.Set (p, draft)))
made_by c t (call.OnDisconnectUpdate p places) = made_one c t (λ q. up.Left c.session q (unconditional.Update (update_of p places.items)))
made_by c t (call.OnDisconnectRemove p) = made_one c t (λ q. up.Left c.session q (unconditional.Set (p, [])))
made_by c t (call.OnDisconnectCancel p) = made_one c t (λ q. up.Cancel c.session q p)
made_by c t (call.Listen p) = if is_none (watch_of p c.watches) then made_one c t (λ q. up.On c.session q p) else t
made_by c t (call.Unlisten p) = if is_none (watch_of p c.watches) then t else made_one c t (λ q. up.Off c.session q p)
made_by c t call.GoOnline = t
made_by c t call.GoOffline = made_one c t (λ q. up.Bye c.session q)
made_by c t call.Lost = t
made_by c t call.Beat = t
made_by c t call.Resend = t

-- a call that is refused makes nothing
abbrev pub made_step : ClientState → SendList → ClientStep → SendList
made_step c t (calls k) = if is_none (refusal c k) then made_by c t k else t
made_step c t (receives m) = t
made_step c t hands_out_sends = t
made_step c t hands_out_notices = t

-- the session's list begins when the client goes Online, and is of no more use once it is not
abbrev pub kept_while : ClientState → ClientState → SendList → SendList
kept_while c d t = if is_online d.phase then (if is_online c.phase then t else opening d t) else t

-- what was made after the steps, from t on
abbrev pub made : ClientState → SendList → List ClientStep → SendList
made c t [] = t
made c t (s ∷ steps) = made (after c s) (kept_while c (after c s) (made_step c t s)) steps

-- After any steps of an incarnation that is Online, what is outstanding is its session's list without the beginning
-- that was answered.
abbrev pub SendsHold : Type 0
SendsHold =
    (client : ClientId) (incarnation : ℕ) (steps : List ClientStep) →
    let c = run (start client incarnation) steps in
    let t = made (start client incarnation) none_made steps in
    is_online c.phase ≡ true → drop c.heard t.messages ≡ outstanding c

-- A Hello or a Beat of the client's session, or a member of the session's list.
abbrev pub MayGoOut : ClientState → List Up → Up → Type 0
MayGoOut c messages m = (m ≡ up.Hello c.session) ⊎ ((m ≡ up.Beat c.session) ⊎ Contains messages m)

-- What a step sends is a Hello or a Beat of its session, or stands in the session's list.
abbrev pub StepSends : Type 0
StepSends =
    (client : ClientId) (incarnation : ℕ) (steps : List ClientStep) (s : ClientStep) →
    let c = run (start client incarnation) steps in
    let d = after c s in
    let t = made (start client incarnation) none_made (steps ++ s ∷ []) in
    (new : List Up) → d.sends ≡ c.sends ++ new → All (MayGoOut d t.messages) new
