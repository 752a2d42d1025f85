-- as many are refused as were looked at
use Rattle.std.proofs.Common.{◌≡◌, ◌+◌, ◌-◌, ◌≤◌, replicate, Err, vec_len, vec_capacity}
use Rattle.pres_faults.specs.declared.hub_fault.HubFault.TheVariants.{Memory}
use Rattle.pres_hub.proofs.center.together.refuse.Given as goal

abbrev pub invariant-loop-i : goal.invariant-loop-i
invariant-loop-i g l = record {
  said : l.said.items ≡ replicate l.i (Err Memory);
  told : vec_len l.said ≡ l.i;
  room : l.count ≤ vec_capacity l.said;
}
