-- as many refusals so far
use Rattle.std.proofs.Common.{◌≡◌, ◌+◌, ◌≤◌, ◌++◌, vec_len, vec_capacity}
use Rattle.pres_faults.specs.declared.engine_fault.EngineFault.TheVariants as why
use Rattle.pres_keeper.specs.EngineGroups.{refusals}
use Rattle.pres_keeper.proofs.engine.refuse_all.Given as goal

abbrev pub invariant-loop-i : goal.invariant-loop-i
invariant-loop-i l = record {
  items : l.results.items ≡ l.initial.results.items ++ refusals l.i (why.Keeper l.fault);
  told : vec_len l.results ≡ vec_len l.initial.results + l.i;
  room : vec_capacity l.initial.results ≤ vec_capacity l.results;
}
