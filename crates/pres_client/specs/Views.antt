-- What a client shows of a path, by the list of the messages that it took: the number of the last one, and the value in
-- the last Snap or Push that names the path, from the Snap on that answers the last listen to it.
use Rattle.std.specs.Prelude.{◌≡◌, ◌&&◌, ℕ, Bool, true, false, List, [], ◌∷◌, ◌++◌, drop, Option, Some, None, if◌then◌else◌}
use Rattle.std.specs.Option.{is_some}
use Rattle.pres_tree.specs.declared.scalar.Scalar.{Scalar}
use Rattle.pres_tree.specs.Paths.{Path, same_path}
use Rattle.pres_tree.specs.Rows.{Rows}
use Rattle.pres_wire.specs.declared.down.Down.{Down}
use Rattle.pres_wire.specs.declared.down.Down.TheVariants as down
use Rattle.pres_ids.specs.declared.id.SessionId.{SessionId}
use Rattle.pres_ids.specs.Ids.{ClientId}
use Rattle.pres_wire.specs.Views.{seen_in}
use Rattle.pres_client_state.specs.Watches.{watch_of}
use Rattle.pres_client.specs.Clients.{ClientState, start, is_online, view}
use Rattle.pres_client.specs.ReceivedMessages.{is_next, fits, first_listen, is_last}
use Rattle.pres_client.specs.Steps.{ClientStep, AreMessages, calls, receives, hands_out_sends, hands_out_notices, after, run}

-- the messages that a view is made of, and whether more of them count
pub record Trail : Type 0 where
  pub messages : List Down
  pub counts : Bool

-- no message
abbrev pub nothing : Trail
nothing = record { messages = []; counts = false }

-- one message more, where they count
abbrev pub more : Trail → Down → Trail
more t m = if t.counts then record t { messages = t.messages ++ m ∷ [] } else t

-- a message of the session's stream that is taken
abbrev pub takes : ClientState → Down → Bool
takes c (down.Welcome s z ops) = false
takes c (down.Reply s r z q n done out) = is_next c s r
takes c (down.Gone s r z why) = is_next c s r
takes c (down.Fault session code) = false
takes c (down.Armed s r z q) = is_next c s r
takes c (down.Denied s r z q why) = is_next c s r
takes c (down.Snap s r z q p v) = is_next c s r
takes c (down.Push s r z values) = is_next c s r
takes c (down.OffDone s r z q) = is_next c s r

-- the oldest message without an answer listens to the path
abbrev pub listens_to : Path → Option (ℕ × Path) → Bool
listens_to p None = false
listens_to p (Some f) = same_path f.1 p

-- a Snap with this number and path answers the oldest message without an answer
abbrev pub is_asked : ClientState → ℕ → Path → Bool
is_asked c q x = fits c q && listens_to x (first_listen c.queue)

-- The Snap that answers the last listen to the path is the first message. Of a Snap that answers nothing the server's
-- number alone counts, as in an OffDone.
abbrev pub with_snap : Path → ClientState → Trail → SessionId → ℕ → ℕ → ℕ → Path → Rows Scalar → Trail
with_snap p c t s r z q x v =
    if is_asked c q x
    then (if same_path x p && is_last x (drop 1 c.queue) then record { messages = down.Snap s r z q x v ∷ []; counts = true } else more t (down.Snap s r z q x v))
    else more t (down.OffDone s r z q)

-- a message that is taken
abbrev pub with_taken : Path → ClientState → Trail → Down → Trail
with_taken p c t (down.Snap s r z q x v) = with_snap p c t s r z q x v
with_taken p c t m = more t m

-- a message that came
abbrev pub with_message : Path → ClientState → Trail → Down → Trail
with_message p c t m = if takes c m then with_taken p c t m else t

-- only messages have an effect
abbrev pub trail_step : Path → ClientState → Trail → ClientStep → Trail
trail_step p c t (receives m) = with_message p c t m
trail_step p c t (calls k) = t
trail_step p c t hands_out_sends = t
trail_step p c t hands_out_notices = t

-- nothing of a path that isn't listened to, and no more messages count once the session is left
abbrev pub kept_for : Path → ClientState → Trail → Trail
kept_for p d t = if is_some (watch_of p d.watches) then (if is_online d.phase then t else record t { counts = false }) else nothing

-- the trail of the path after the steps, from t on
abbrev pub trail : Path → ClientState → Trail → List ClientStep → Trail
trail p c t [] = t
trail p c t (s ∷ steps) = trail p (after c s) (kept_for p (after c s) (trail_step p c t s)) steps

-- After any steps the view of a path is what its trail says: the number of the last message, and the last value
-- received.
abbrev pub ViewsHold : Type 0
ViewsHold =
    (client : ClientId) (incarnation : ℕ) (p : Path) (steps : List ClientStep) → AreMessages steps →
    view p (run (start client incarnation) steps) ≡ seen_in p (trail p (start client incarnation) nothing steps).messages
