-- Sessions that ended.
use Rattle.pres_ids.specs.declared.id.Why.{Why}
use Rattle.pres_session.specs.LiveSessions.{LiveState}

-- a session whose plan is still to be carried out, as it was before its end, and why it ended
pub record EndedSession (P : Type 0) : Type 0 where
  pub session : LiveState P
  pub why : Why
