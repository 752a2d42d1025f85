-- What the base of a legal log says of the log.
use Rattle.std.specs.Prelude.{◌≡◌, ◌++◌}
use Rattle.pres_log.specs.Logs.{Log}
use Rattle.pres_base.specs.declared.parts.BaseParts.{BaseParts}
use Rattle.pres_history.specs.LegalLog.{IsLegal}
use Rattle.pres_server.specs.Sums.{sum_from, sum_of}
use Rattle.pres_server.specs.SumTurns.{FollowAll}
use Rattle.pres_server.specs.Replays.{resumed}
use Rattle.pres_server.specs.BaseSums.{sum_for}
use Rattle.pres_history.specs.SumLaws.{SameNext}

-- the log has the base
abbrev pub IsBaseOf : BaseParts → Log → Type 0
IsBaseOf base log = sum_for base ≡ sum_of log

-- the server that is made from the base and the later batches is the one that is made from the whole log, which is legal
pub record GoesOnAs (base : BaseParts) (before later : Log) : Type 0 where
  pub legal : IsLegal (before ++ later)
  pub server : resumed (sum_from (sum_for base) later) ≡ resumed (sum_of (before ++ later))

-- A server that is made from a legal log's base, and from batches that may follow it, is the one that is made from the whole log.
abbrev pub BaseGoesOn : BaseParts → Log → Log → Type 0
BaseGoesOn base before later = IsLegal before → IsBaseOf base before → FollowAll (sum_for base) later → GoesOnAs base before later

-- After two legal logs with one base the same comes next.
abbrev pub BaseDecides : BaseParts → Log → Log → Type 0
BaseDecides base a b = IsLegal a → IsLegal b → IsBaseOf base a → IsBaseOf base b → SameNext a b
