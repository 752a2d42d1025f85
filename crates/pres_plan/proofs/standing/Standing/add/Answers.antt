use Rattle.std.proofs.Common.{◌≡◌, Some, refl, sym, ◌∙◌, ap}
use Rattle.pres_plan.specs.declared.places.Spot.{Spot}
use Rattle.pres_plan.specs.Places.{Spots, spot_at}
use Rattle.pres_plan.specs.Standing.{numbers_at, numbers_of}
use Rattle.pres_plan.proofs.Spots.{added_tells, tops_set, popped}
use Rattle.pres_plan.proofs.standing.Standing.add.Goals.{After-drop-in-Err}
use Rattle.pres_plan.proofs.standing.Standing.add.Goals as goal

pub returns-in-Ok-clause-tells : goal.returns-in-Ok-clause-tells
returns-in-Ok-clause-tells c =
    let spot : Spot = record { row = c.in-Some.row; before = c.row_at-before.result; top = c.args.new.top } in
    added_tells c.args.new.place c.in-Some.row c.args.new.row spot c.args.self.now.rows c.push.new.self c.args.self.now.places c.insert.new.self
    c.requires.place c.in_ok-push.ensures.pushed refl c.row_at-before.ensures c.requires.tells c.in-Ok.ensures.ok

pub returns-in-Ok-clause-tops : goal.returns-in-Ok-clause-tops
returns-in-Ok-clause-tops c = λ rows tops top.
    let spot : Spot = record { row = c.in-Some.row; before = c.row_at-before.result; top = c.args.new.top } in
    tops_set c.args.new.place (Some spot) c.args.self.now.places c.insert.new.self c.in-Ok.ensures.ok rows top tops

as_before : (c : After-drop-in-Err) → c.pop.new.self ≡ c.args.self.now.rows
as_before c = popped c.pop.result c.args.self.now.rows c.push.new.self c.pop.new.self (c.in-Some.row, c.args.new.row) c.in_ok-push.ensures.pushed c.pop.ensures.last

pub returns-in-Err-clause-tells : goal.returns-in-Err-clause-tells
returns-in-Err-clause-tells c = λ q. ap (λ (es : Spots). numbers_of (spot_at q es)) c.in-Err.ensures.err ∙ c.requires.tells q ∙ ap (numbers_at q) (sym (as_before c))

pub returns-in-Err-clause-unchanged : goal.returns-in-Err-clause-unchanged
returns-in-Err-clause-unchanged c = as_before c
