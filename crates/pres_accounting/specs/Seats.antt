-- What contracts see of seats and of the counts.
use Rattle.std.specs.Prelude.{◌≡◌, ◌+◌, ◌≤◌, ◌^◌, ℕ, Option}
use Rattle.pres_ids.specs.declared.id.SessionId.{SessionId}
use Rattle.pres_faults.specs.declared.hub_fault.HubFault.{HubFault}
use Rattle.pres_accounting.specs.declared.tally.Counts.{Counts}

-- whose seat it is, its session's last q, the greatest number that was sent to it, and how many of its messages were
-- accepted
pub record SeatState : Type 0 where
  pub session : SessionId
  pub q : ℕ
  pub seen : ℕ
  pub made : ℕ

-- what a seat leaves: how many of its messages were accepted, and the refusal of its end, where there was one
pub record PartingState : Type 0 where
  pub made : ℕ
  pub fault : Option HubFault

-- a ledger of 2^53 parts, of which each seat has one; only seats add to it
pub record IsTally (all : ℕ) (parts : ℕ) (amount : ℕ) (t : Counts) : Type 0 where
  pub whole : all ≡ 2 ^ 53
  pub rest : parts + t.seats ≡ all
  pub unused : amount ≡ 0
  pub out : t.out ≤ t.seats
  pub made : t.seats ≤ t.accepted

-- the server's last number, what was accepted, the seats that are out, the keeper, how many seats there were, and
-- how many were gathered, with the sum of what they made
pub record ReportState (A : Type 0) : Type 0 where
  pub number : ℕ
  pub accepted : ℕ
  pub seats_out : ℕ
  pub keeper : A
  pub seats : ℕ
  pub gathered : ℕ
  pub sum : ℕ

-- a closed ledger of 2^53 parts: what wasn't gathered has a part for each seat, and what was gathered the sum
pub record IsReport {A : Type 0} (all : ℕ) (total : ℕ) (parts : ℕ) (amount : ℕ) (r : ReportState A) : Type 0 where
  pub whole : all ≡ 2 ^ 53
  pub totalled : total ≡ r.accepted
  pub rest : parts + r.seats ≡ all + r.gathered
  pub summed : amount ≡ r.sum
  pub within : r.gathered ≤ r.seats
  pub settled : r.gathered ≡ r.seats → r.sum ≡ r.accepted
