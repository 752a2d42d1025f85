use Rattle.std.proofs.Common.{◌≡◌, ◌∙◌, ◌++◌, List, sym, ap, subst, refl, arith}
use Rattle.std.proofs.lemmas.Grind.{common_steps}
use Rattle.pres_ids.specs.Ids.{ClientId}
use Rattle.pres_log.specs.Logs.{Log}
use Rattle.pres_history.specs.Replays.{made_from}
use Rattle.pres_history.specs.ServerStates.{ServerState}
use Rattle.pres_world.specs.ServerSides.{ServerSideState, ServerSideInvariant, HasLog, HoldsSum, EndsAll, base_sum, resumed_in}
use Rattle.pres_world.proofs.Bases.{resumes_its_history}
use Rattle.pres_world.proofs.Held.{viewed, holds_seen, runs_view, restarted_is, restarted_holds}
use Rattle.pres_world.proofs.server_side.ServerSide.restart.Goals as goal

-- the history is that of the fields
history_is : (c : goal.After-drop-ended) → c.self.inside.history.items ≡ c.args.self.now.history
history_is c = ap (λ (w : ServerSideState). w.history) c.self.view_is

-- the base and the batches after it make the server of the history
resumes : (c : goal.After-drop-ended) → HasLog (resumed_in c.args.self.now) (made_from c.args.self.now.history)
resumes c =
    let holds : ServerSideInvariant c.args.self.now = holds_seen c.args.self.now c.self.inside.history.items (base_sum c.self.inside.base) c.self.inside.server c.self.inside.downs.items c.self.view_is c.self.invariant in
    resumes_its_history c.args.self.now holds

-- all sessions ended
ends : (c : goal.After-drop-ended) → (cs : List ClientId) × (t : ServerState) × HasLog c.in_ok-server-2.server t × EndsAll c.args.now cs (made_from c.args.self.now.history) t × (t.log ≡ c.args.self.now.history ++ c.in_ok-server-2.ended.items)
ends c =
    let history = c.args.self.now.history in
    c.in_ok-server-2.ensures.ended (made_from history) (subst (λ server. HasLog server (made_from history)) (sym c.in_ok-server.ensures.made) (resumes c))

grown : (c : goal.After-drop-ended) → (ends c).1.log ≡ c.append.new.self.items
grown c =
    let ended = c.in_ok-server-2.ended.items in
    let appended : c.append.new.self.items ≡ c.self.inside.history.items ++ ended = grind (arith, common_steps) in
    (ends c).4 ∙ sym (appended ∙ ap (λ (l : Log). l ++ ended) (history_is c))

pub returns-clause-ok : goal.returns-clause-ok
returns-clause-ok c =
    let server = c.in_ok-server-2.server in
    let new = c.append.new.self.items in
    let downs = c.args.self.now.downs in
    let end = ends c in (
      resumes c,
      end.0,
      end.1,
      end.3,
      runs_view new new (base_sum c.self.inside.base) c.args.self.now.base c.replace.new.self server server c.self.inside.downs.items downs refl (ap (λ (w : ServerSideState). w.base) c.self.view_is) c.replace.ensures.after refl (ap (λ (w : ServerSideState). w.downs) c.self.view_is)
          ∙ restarted_is c.args.self.now end.1 server new end.2 (grown c),
    )

pub returns-then-is_err-clause-err : goal.returns-then-is_err-clause-err
returns-then-is_err-clause-err c =
    let same : c.append.new.self.items ≡ c.self.inside.history.items = grind (arith, common_steps) in
    (refl, ap (λ (l : Log). viewed l (base_sum c.self.inside.base) c.self.inside.server c.self.inside.downs.items) same ∙ c.self.view_is)

pub invariant_of-self : goal.invariant_of-self
invariant_of-self c =
    let same : c.append.new.self.items ≡ c.self.inside.history.items = grind (arith, common_steps) in
    subst (λ (l : Log). HoldsSum l (base_sum c.self.inside.base) c.self.inside.server) (sym same) c.self.invariant

pub invariant_of-self-2 : goal.invariant_of-self-2
invariant_of-self-2 c =
    let end = ends c in
    let base = base_sum c.self.inside.base in
    let ended = c.in_ok-server-2.ended.items in
    let appended : c.append.new.self.items ≡ c.self.inside.history.items ++ ended = grind (arith, common_steps) in
    subst (HoldsSum c.append.new.self.items base) (sym c.replace.ensures.after)
    (restarted_holds end.1 c.in_ok-server-2.server c.self.inside.history.items ended c.append.new.self.items base end.2 (grown c) c.self.invariant.based appended)
