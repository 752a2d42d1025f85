use Rattle.std.proofs.Common.{◌≡◌, ◌++◌, drop, map, Some}
use Rattle.pres_sim.specs.Scripts.{script_bytes, scripted}
use Rattle.pres_sim.proofs.sim.steps_of.Given as goal

-- what the lines so far say, and then what those that are left say
abbrev pub invariant-loop-bytes : goal.invariant-loop-bytes
invariant-loop-bytes l = map (λ text. script_bytes text.now) l.fn.texts ≡ map (λ step. Some (scripted step)) l.steps.items ++ map (λ text. script_bytes text.now) (drop l.bytes-index l.fn.texts)
