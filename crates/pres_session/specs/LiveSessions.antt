-- Open sessions.
use Rattle.std.specs.Prelude.{ℕ}
use Rattle.pres_ids.specs.declared.id.Stamp.{Stamp}

pub record LiveState (P : Type 0) : Type 0 where
  pub stamp : Stamp
  -- the number of the client's last message, 0 before the first
  pub count : ℕ
  -- the number of the last message to the client, 0 before the first
  pub sent : ℕ
  -- when the client was heard of last
  pub heard : ℕ
  -- what is owed at the end
  pub plan : P

-- a session that begins
abbrev pub opened : {P : Type 0} → Stamp → ℕ → P → LiveState P
opened stamp heard plan = record { stamp = stamp; count = 0; sent = 0; heard = heard; plan = plan }
