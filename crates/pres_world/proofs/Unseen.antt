-- Checkpoints among the events of a world are never seen.
use Rattle.std.proofs.Common.{refl, ◌∙◌, ap, subst, ◌≡◌, ℕ, List, [], ◌∷◌, Option, Some, None}
use Rattle.pres_ids.specs.declared.id.SessionId.{SessionId}
use Rattle.pres_ids.specs.Ids.{ClientId}
use Rattle.pres_wire.specs.declared.down.Down.{Down}
use Rattle.pres_server.specs.declared.input.Input.{Input}
use Rattle.pres_server.specs.declared.input.Input.TheVariants as input
use Rattle.pres_server.specs.Sums.{Sum, nothing}
use Rattle.pres_server.specs.Turns.{Decision, refused, quiet, makes}
use Rattle.pres_history.specs.ServerStates.{ServerState}
use Rattle.pres_history.specs.LegalLog.{IsLegal}
use Rattle.pres_history.specs.Turns.{turn, moment_of}
use Rattle.pres_world.specs.declared.event.Ending.{Ending}
use Rattle.pres_world.specs.declared.event.Ending.TheVariants as ending
use Rattle.pres_world.specs.declared.event.Event.{Event}
use Rattle.pres_world.specs.declared.event.Event.TheVariants as event
use Rattle.pres_world.specs.ServerSides.{ServerSideState, turned, served, served_by, lost, open_on, resumed_in, IsRestarted}
use Rattle.pres_world.specs.Worlds.{World, IsStep, RunsTo, new_world}
use Rattle.pres_world.specs.Unseen.{without_checkpoints, without_base, CheckpointsAreUnseen}
use Rattle.pres_world.proofs.Bases.{resumed_is}
use Rattle.pres_world.proofs.Safety.{Honest, step_honest, new_honest}

-- ---- the server's part

abbrev bare : ServerSideState → ServerSideState
bare w = record w { base = nothing }

bare_turned : (e : Ending) (base : Sum) (downs : List Down) (d : Decision) (s : ServerState) (m : ℕ) (i : Input) → bare (turned e base downs d s m i) ≡ turned e nothing downs d s m i
bare_turned ending.Answered base downs d s m i = refl
bare_turned ending.Stopped base downs d s m i = refl
bare_turned ending.Refused base downs (makes es) s m i = refl
bare_turned ending.Refused base downs quiet s m i = refl
bare_turned ending.Refused base downs (refused f) s m i = refl

bare_served : (w : ServerSideState) (i : Input) (now : ℕ) (e : Ending) → bare (served w i now e) ≡ served (bare w) i now e
bare_served w i now e = by w.server where
  by : (o : Option ServerState) → bare (served_by o w i now e) ≡ served_by o (bare w) i now e
  by None = refl
  by (Some s) = bare_turned e w.base w.downs (turn s i now) s (moment_of s.log now) i

bare_lost : (found : List SessionId) (w : ServerSideState) (now : ℕ) (e : Ending) → bare (lost found w now e) ≡ lost found (bare w) now e
bare_lost [] w now e = refl
bare_lost (s ∷ more) w now e = bare_served w (input.Lost s) now e

bare_restarted : (w v : ServerSideState) (now : ℕ) → IsLegal w.history → IsRestarted w now v → IsRestarted (bare w) now (bare v)
bare_restarted w v now legal h = (resumed_is w.history (resumed_in (bare w)) legal refl, h.1, h.2, h.3, ap bare h.4)

-- ---- worlds

-- the event happens where no base is kept too, or there is none to happen
abbrev StepsBare : World → Event → World → Type 0
StepsBare w event.Checkpoint v = without_base v ≡ without_base w
StepsBare w e v = IsStep (without_base w) e (without_base v)

bare_step : (w : World) (e : Event) (v : World) → Honest w → IsStep w e v → StepsBare w e v
bare_step w (event.Call id k) v h is = record { client = is.client; there = is.there; accepted = is.accepted; after = ap without_base is.after }
bare_step w (event.Up packet now e) v h is = (is.0, is.1, ap without_base is.2 ∙ ap (λ s. record w { serving = s }) (bare_served w.serving (input.Up is.0) now e))
bare_step w (event.Down packet) v h is = record {
  message = is.message;
  session = is.session;
  client = is.client;
  sent = is.sent;
  goes_to = is.goes_to;
  there = is.there;
  after = ap without_base is.after;
}
bare_step w (event.Loss id now) v h is =
    (is.0, ap without_base is.1 ∙ ap (λ s. record w { serving = s }) (bare_lost (open_on w.serving.server id) w.serving now ending.Answered))
bare_step w (event.Tick now) v h is = ap without_base is ∙ ap (λ s. record w { serving = s }) (bare_served w.serving input.Tick now ending.Answered)
bare_step w (event.RestartClient id) v h is = record { client = is.client; there = is.there; after = ap without_base is.after }
bare_step w (event.RestartServer now) v h is = (bare is.0, bare_restarted w.serving is.0 now h.sound.legal is.1, ap without_base is.2)
bare_step w event.Checkpoint v h is = ap without_base is

-- and then others
bare_then : (e : Event) (later : List Event) (w u v : World) → StepsBare w e u → RunsTo (without_base u) (without_checkpoints later) (without_base v) → RunsTo (without_base w) (without_checkpoints (e ∷ later)) (without_base v)
bare_then (event.Call id k) later w u v step rest = (without_base u, step, rest)
bare_then (event.Up packet now e) later w u v step rest = (without_base u, step, rest)
bare_then (event.Down packet) later w u v step rest = (without_base u, step, rest)
bare_then (event.Loss id now) later w u v step rest = (without_base u, step, rest)
bare_then (event.Tick now) later w u v step rest = (without_base u, step, rest)
bare_then (event.RestartClient id) later w u v step rest = (without_base u, step, rest)
bare_then (event.RestartServer now) later w u v step rest = (without_base u, step, rest)
bare_then event.Checkpoint later w u v step rest = subst (λ x. RunsTo x (without_checkpoints later) (without_base v)) step rest

bare_runs : (events : List Event) (w v : World) → Honest w → RunsTo w events v → RunsTo (without_base w) (without_checkpoints events) (without_base v)
bare_runs [] w v h is = ap without_base is
bare_runs (e ∷ later) w v h is = bare_then e later w is.0 v (bare_step w e is.0 h is.1) (bare_runs later is.0 v (step_honest w e is.0 h is.1) is.2)

pub checkpoints_are_unseen : (ids : List ClientId) (events : List Event) (v : World) → CheckpointsAreUnseen ids events v
checkpoints_are_unseen ids events v runs = bare_runs events (new_world ids) v (new_honest ids) runs
