use Rattle.std.proofs.Common.{ap, sym, ◌∙◌, map}
use Rattle.pres_sim.specs.Scripts.{AreSteps}
use Rattle.pres_sim.proofs.Played.{ended, is_script}
use Rattle.pres_sim.proofs.sim.sim_run.Goals as goal

pub returns-in-Some : goal.returns-in-Some
returns-in-Some g c = record {
  lines = ended c.play_script.result (AreSteps (map (λ t. t.now) c.in-Some.rest.now)) _ _ c.play_script.ensures.good
      (is_script (g.I.Read.remaining c.args.input.now) c.in_ok-bytes.bytes.items c.as_slice.result.now c.in-Some.first.now c.in-Some.rest.now
      c.in_ok-bytes.ensures.read c.as_slice.ensures.value
      (ap (map (λ t. t.now)) (sym c.in-Some.ensures.cases.0 ∙ c.deref.ensures.value) ∙ c.in_ok-texts.ensures))
      c.play_script.ensures.err;
}
