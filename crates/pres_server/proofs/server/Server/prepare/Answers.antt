use Rattle.std.proofs.Common.{◌∙◌, ap, sym, subst, ◌≡◌, ◌≤◌, ℕ, max, arith, Option, Some, None}
use Rattle.pres_write.specs.Moments as moments
use Rattle.pres_ids.specs.declared.id.SessionId.{SessionId}
use Rattle.pres_server.specs.declared.index.Index.{Index}
use Rattle.pres_server.specs.declared.input.Input.{Input}
use Rattle.pres_server.specs.declared.turn.TurnEffect.{TurnEffect}
use Rattle.pres_server.specs.declared.turn.TurnEffect.TheVariants as step
use Rattle.pres_server.specs.ServerStates.{heard_of}
use Rattle.pres_server.specs.Turns.{Decision, makes, IsRefusal, IsEffect}
use Rattle.pres_server.specs.SumStates.{SumState, PendingTurn}
use Rattle.pres_server.specs.SumTurns.{FollowsSum, moment_by, turn_by, batch_by}
use Rattle.pres_server.specs.Histories.{IsSum}
use Rattle.pres_server.specs.InternalIndex.{heard_in, decision_on}
use Rattle.pres_server.specs.InternalSums.{sum_in}
use Rattle.pres_server.proofs.SumServers.{number_small, open_small, counted, moment_is, turned}
use Rattle.pres_server.proofs.Turning.{turn_follows}
use Rattle.pres_server.proofs.server.Server.prepare.Goals as goal

-- the server's model, and what is inside
abbrev Inside : SumState → ℕ → ℕ → ℕ → Index → Type 0
Inside s batches moment number index = IsSum (sum_in batches moment number index) × (record { sum = sum_in batches moment number index; heard = heard_in index } ≡ s)

turn_is : (s : SumState) (batches moment number : ℕ) (index : Index) → Inside s batches moment number index → (i : Input) (now m : ℕ) → now ≤ moments.last_moment → m ≡ max moment now
    → turn_by s i now ≡ decision_on index (record { number = number; moment = m }) i
turn_is s batches moment number index k i now m low e = ap (λ x. turn_by x i now) (sym k.1) ∙ turned batches moment number index i now number m low e (λ x. number)

moment_as : (s : SumState) (batches moment number : ℕ) (index : Index) → Inside s batches moment number index → (now m : ℕ) → now ≤ moments.last_moment → m ≡ max moment now → m ≡ moment_by s.sum now
moment_as s batches moment number index k now m low e = e ∙ moment_is batches moment number index now low ∙ ap (λ (x : SumState). moment_by x.sum now) k.1

as_step : (from : Option SessionId) (d : Decision) (x y : TurnEffect) → x ≡ y → IsEffect from d x → IsEffect from d y
as_step from d x y e h = subst (IsEffect from d) e h

pub decide-requires : goal.decide-requires
decide-requires c =
    let i = c.self.inside in
    let small = number_small i.batches i.moment i.number i.index c.self.invariant in
    record { number = omega arith; sessions = open_small i.batches i.moment i.number i.index c.self.invariant; counted = counted i.batches i.moment i.number i.index }

pub wait-requires : goal.wait-requires
wait-requires c =
    let i = c.self.inside in
    let k : Inside c.args.self i.batches i.moment i.number i.index = (c.self.invariant, c.self.view_is) in
    let t = turn_is c.args.self i.batches i.moment i.number i.index k c.args.input c.args.now c.max-moment.result c.millis.ensures.bound c.max-moment.ensures in
    let m = moment_as c.args.self i.batches i.moment i.number i.index k c.args.now c.max-moment.result c.millis.ensures.bound c.max-moment.ensures in
    subst (λ x. FollowsSum c.args.self.sum (batch_by c.args.self.sum x c.in-Ok-Makes.entries)) (sym m)
    (turn_follows c.args.self c.args.input c.args.now (subst (λ (s : SumState). IsSum s.sum) c.self.view_is c.self.invariant) c.in-Ok-Makes.entries (t ∙ as_step _ _ _ _ c.in-Ok-Makes.field-0-is c.in-Ok-Makes.ensures))

pub returns-in-Ok-Makes-clause-turn : goal.returns-in-Ok-Makes-clause-turn
returns-in-Ok-Makes-clause-turn c =
    let i = c.self.inside in
    let k : Inside c.args.self i.batches i.moment i.number i.index = (c.self.invariant, c.self.view_is) in
    let t = turn_is c.args.self i.batches i.moment i.number i.index k c.args.input c.args.now c.max-moment.result c.millis.ensures.bound c.max-moment.ensures in
    let m = moment_as c.args.self i.batches i.moment i.number i.index k c.args.now c.max-moment.result c.millis.ensures.bound c.max-moment.ensures in
    (t ∙ as_step _ _ _ _ c.in-Ok-Makes.field-0-is c.in-Ok-Makes.ensures ∙ ap (λ (p : PendingTurn). makes p.made) (sym c.wait.ensures), ap (λ (p : PendingTurn). p.state) c.wait.ensures, ap (λ (p : PendingTurn). p.moment) c.wait.ensures ∙ m)

pub returns-in-Ok-Quiet-Some-clause-turn : goal.returns-in-Ok-Quiet-Some-clause-turn
returns-in-Ok-Quiet-Some-clause-turn c =
    let i = c.self.inside in
    let k : Inside c.args.self i.batches i.moment i.number i.index = (c.self.invariant, c.self.view_is) in
    let t = turn_is c.args.self i.batches i.moment i.number i.index k c.args.input c.args.now c.max-moment.result c.millis.ensures.bound c.max-moment.ensures in
    let m = moment_as c.args.self i.batches i.moment i.number i.index k c.args.now c.max-moment.result c.millis.ensures.bound c.max-moment.ensures in
    let q = as_step _ _ _ (step.Quiet (Some c.in-Ok-Quiet-Some.session)) (c.in-Ok-Quiet-Some.field-0-is ∙ ap step.Quiet c.in-Ok-Quiet-Some.field-0-0-is) c.in-Ok-Quiet-Some.ensures in
    (t ∙ q.0, c.hear.ensures ∙ (λ x. record { sum = c.args.self.sum; heard = heard_of (m x) (q.1 x) c.args.self.heard }), c.of-none.ensures ∙ c.new.ensures.items)

pub returns-in-Ok-Quiet-None-clause-turn : goal.returns-in-Ok-Quiet-None-clause-turn
returns-in-Ok-Quiet-None-clause-turn c =
    let i = c.self.inside in
    let k : Inside c.args.self i.batches i.moment i.number i.index = (c.self.invariant, c.self.view_is) in
    let t = turn_is c.args.self i.batches i.moment i.number i.index k c.args.input c.args.now c.max-moment.result c.millis.ensures.bound c.max-moment.ensures in
    let m = moment_as c.args.self i.batches i.moment i.number i.index k c.args.now c.max-moment.result c.millis.ensures.bound c.max-moment.ensures in
    let q = as_step _ _ _ (step.Quiet None) (c.in-Ok-Quiet-None.field-0-is ∙ ap step.Quiet c.in-Ok-Quiet-None.field-0-0-is) c.in-Ok-Quiet-None.ensures in
    (t ∙ q.0, (λ x. record { sum = c.args.self.sum; heard = heard_of (m x) (q.1 x) c.args.self.heard }), c.of-none.ensures ∙ c.new.ensures.items)

pub returns-in-Err-clause-refused : goal.returns-in-Err-clause-refused
returns-in-Err-clause-refused c =
    let i = c.self.inside in
    let k : Inside c.args.self i.batches i.moment i.number i.index = (c.self.invariant, c.self.view_is) in
    let t = turn_is c.args.self i.batches i.moment i.number i.index k c.args.input c.args.now c.max-moment.result c.millis.ensures.bound c.max-moment.ensures in
    subst (λ d. IsRefusal d c.in-Err.fault) (sym t) c.in-Err.ensures
