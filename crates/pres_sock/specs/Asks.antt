-- What a connection is asked.
use Rattle.std.specs.Prelude.{◌≡◌, ◌+◌, ℕ, true, List, [], ◌∷◌, is_some, option_map, Ok}
use Rattle.pres_ids.specs.declared.id.SessionId.{SessionId}
use Rattle.pres_ids.specs.Ids.{same_session}
use Rattle.pres_wire.specs.declared.up.Up.{Up}
use Rattle.pres_wire.specs.Messages.{session_in, q_in}
use Rattle.pres_wire.specs.UpForms.{decoded}
use Rattle.pres_sock.specs.declared.together.Asked.{Asked}
use Rattle.pres_sock.specs.declared.together.Asked.TheVariants as asked
use Rattle.pres_sock.specs.Refusals.{AnswersBad}

-- a text is a message for the hub, or has an answer
abbrev pub IsAskedBy : List ℕ → Asked → Type 0
IsAskedBy words (asked.Messages messages) = (up : Up) × (decoded words ≡ Ok up) × (messages.items ≡ up ∷ [])
IsAskedBy words (asked.Answer answer) = is_some answer ≡ true
IsAskedBy words asked.Close = ⊥

-- it has the answer of what is no message
abbrev pub IsAnsweredBad : SessionId → Asked → Type 0
IsAnsweredBad session (asked.Messages messages) = ⊥
IsAnsweredBad session (asked.Answer answer) = AnswersBad session answer
IsAnsweredBad session asked.Close = ⊥

-- the message is the next one of the session of the last
pub record IsNextAfter (last up : Up) : Type 0 where
  pub session : same_session (session_in last) (session_in up) ≡ true
  pub number : option_map (λ q. q + 1) (q_in last) ≡ q_in up
  pub numbered : is_some (q_in up) ≡ true
