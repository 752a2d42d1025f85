use Rattle.std.proofs.Common.{◌++◌, Some, map, ap, ◌∙◌, append-nil}
use Rattle.std.proofs.lemmas.List.{drop_all}
use Rattle.pres_script.specs.Lines.{first_bad}
use Rattle.pres_sim.specs.Scripts.{script_bytes, scripted}
use Rattle.pres_sim.proofs.Played.{all_say, one_by_one}
use Rattle.pres_sim.proofs.sim.steps_of.Goals as goal

pub returns : goal.returns
returns c = λ _.
    let good = c.loop-bytes.steps.items in
    ap (first_bad 2)
    (one_by_one c.args.texts.now
    ∙ c.loop-bytes.invariant
    ∙ ap (λ texts. map (λ step. Some (scripted step)) good ++ map (λ text. script_bytes text.now) texts) (drop_all c.loop-bytes.bytes-index c.args.texts.now c.loop-bytes-test.false)
    ∙ append-nil (map (λ step. Some (scripted step)) good))
    ∙ all_say scripted 2 good
