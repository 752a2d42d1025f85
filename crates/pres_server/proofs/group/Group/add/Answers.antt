use Rattle.std.proofs.Common.{◌≡◌, ◌∙◌, ◌+◌, ◌≤◌, ◌++◌, ◌∷◌, [], ℕ, length, ap, sym, subst, arith}
use Rattle.pres_log.specs.Logs.{Log}
use Rattle.pres_server.specs.Groups.{state_from, MakesBatch}
use Rattle.pres_server.specs.InternalGroups.{IsGroup}
use Rattle.pres_server.proofs.Grouped.{group_more}
use Rattle.pres_server.proofs.group.Group.add.Goals as goal

pub invariant_of-self-2 : goal.invariant_of-self-2
invariant_of-self-2 c =
    let i = c.self.inside in
    let state = i.server in
    let log = i.batches.items in
    let b = c.in_ok-batch.batch in
    let same : c.deref.result.now ≡ log = c.deref.ensures.value ∙ c.reserve.ensures.items in
    let items : c.push.new.self.items ≡ log ++ b ∷ [] = c.in-Ok-push.ensures.items ∙ ap (λ (l : Log). l ++ b ∷ []) c.reserve.ensures.items in
    let few : length log + 1 ≤ 256 = omega (arith, i.batches.ok.0, c.len.ensures) in
    let made : MakesBatch (state_from state log) c.args.input c.args.now b =
    subst (λ (l : Log). MakesBatch (state_from state l) c.args.input c.args.now b) same c.in_ok-batch.ensures.batch in
    subst (λ (x : Log × ℕ). IsGroup state.sum x.0 x.1) (λ j. (sym items j, sym c.moment-self-inside.ensures j))
    (group_more state log i.moment c.args.input c.args.now b c.number.ensures.sum c.self.invariant few made c.in_ok-batch.ensures.op)
