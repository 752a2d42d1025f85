-- What contracts see of the two ends of a ring.
use Rattle.std.specs.Prelude.{◌≡◌, ◌⊎◌, ◌<◌, ℕ, List, [], ◌∷◌, ◌++◌, length, Option, Some, None}
use Rattle.pres_ids.specs.declared.id.SessionId.{SessionId}
use Rattle.pres_wire.specs.declared.down.Down.{Down}
use Rattle.rtrb.specs.Ring.{sent, received, known_items, known_free, IsPair}
use Rattle.rtrb.specs.declared.producer.Producer.{Producer}
use Rattle.rtrb.specs.declared.consumer.Consumer.{Consumer}

-- the session, and all that was put; none once a message was given up
pub record FeedState : Type 0 where
  pub session : SessionId
  pub sent : Option (List Down)

-- the session, all that was taken, and what is known to come next
pub record OutboxState : Type 0 where
  pub session : SessionId
  pub taken : List Down
  pub ahead : List Down

-- the message is appended to those that were put, or it is given up with all later ones
abbrev pub Puts : Option (List Down) → Down → Option (List Down) → Type 0
Puts None m after = after ≡ None
Puts (Some sent) m after = (after ≡ Some (sent ++ m ∷ [])) ⊎ (after ≡ None)

-- this many fit whether or not any is taken
abbrev pub Fits : ℕ → Option (List Down) → Down → Option (List Down) → Type 0
Fits most None m after = Unit {0}
Fits most (Some sent) m after = length sent < most → after ≡ Some (sent ++ m ∷ [])

-- the two ends of one ring that never held a message, with room for 256
pub record IsBlank {A P : Type 0} (p : Producer Down A P) (c : Consumer Down A P) : Type 0 where
  pub pair : IsPair p c
  pub sent_none : sent p ≡ []
  pub room : known_free p ≡ 256
  pub received_none : received c ≡ []
  pub none_known : known_items c ≡ []
