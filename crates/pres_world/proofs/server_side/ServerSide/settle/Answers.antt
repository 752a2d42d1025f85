use Rattle.std.proofs.Common.{◌≡◌, ◌∙◌, ◌++◌, ◌∷◌, [], sym, ap, subst, inr, arith, rules}
use Rattle.std.proofs.lemmas.Grind.{common_steps}
use Rattle.std.proofs.lemmas.Result.{on_ok_weaker, IfErr-weaker}
use Rattle.pres_server.specs.Sums.{sum_of}
use Rattle.pres_server.specs.Turns.{makes}
use Rattle.pres_world.specs.declared.event.Ending.TheVariants as ending
use Rattle.pres_world.specs.ServerSides.{ServerSideState, IsBaseIn, base_sum, of_log, log_with, turned}
use Rattle.pres_world.proofs.Held.{kept_by, none_inside, none_holds, stops_is, goes_on_is, viewed}
use Rattle.pres_world.proofs.server_side.ServerSide.settle.Goals as goal

pub invariant_of-self-else-not-keep : goal.invariant_of-self-else-not-keep
invariant_of-self-else-not-keep c =
    let log = c.self.inside.history.items in
    let here = c.args.self.now in
    let kept : c.keep.new.batches.items ≡ log ++ c.batch.result.now ∷ [] = search rules in
    let k = kept_by log here.history c.keep.new.batches.items c.args.busy c.batch.result.now c.self.invariant.legal (ap (λ (w : ServerSideState). w.history) c.self.view_is) c.requires.sum c.batch.ensures.made c.batch.ensures.follows kept in
    let based = subst (λ (w : ServerSideState). IsBaseIn w.history (base_sum c.self.inside.base)) c.self.view_is c.self.invariant.based in
    none_holds here.history c.keep.new.batches.items (base_sum c.self.inside.base) c.args.busy c.self.inside.server k based (none_inside log c.self.inside.server (ap (λ (w : ServerSideState). w.server) c.self.view_is ∙ c.requires.waits))

pub returns-then-eq-2-clause-ok : goal.returns-then-eq-2-clause-ok
returns-then-eq-2-clause-ok c = λ i from.
    let log = c.self.inside.history.items in
    let here = c.args.self.now in
    let kept : c.keep.new.batches.items ≡ log ++ c.batch.result.now ∷ [] = search rules in
    let k = kept_by log here.history c.keep.new.batches.items c.args.busy c.batch.result.now c.self.invariant.legal (ap (λ (w : ServerSideState). w.history) c.self.view_is) c.requires.sum c.batch.ensures.made c.batch.ensures.follows kept in
    let stopped : c.args.ending ≡ ending.Stopped = grind (arith, common_steps) in
    stops_is here.history c.keep.new.batches.items (base_sum c.self.inside.base) here.base c.args.busy c.self.inside.server c.self.inside.downs.items here.downs i k (ap (λ (w : ServerSideState). w.base) c.self.view_is)
    (none_inside log c.self.inside.server (ap (λ (w : ServerSideState). w.server) c.self.view_is ∙ c.requires.waits)) (ap (λ (w : ServerSideState). w.downs) c.self.view_is)
    ∙ ap (λ e. turned e here.base here.downs (makes c.args.busy.made) (of_log here.history c.args.busy.state) c.args.busy.moment i) (sym stopped)

pub finish-requires : goal.finish-requires
finish-requires c =
    let log = c.self.inside.history.items in
    let here = c.args.self.now in
    let kept : c.keep.new.batches.items ≡ log ++ c.batch.result.now ∷ [] = search rules in
    let k = kept_by log here.history c.keep.new.batches.items c.args.busy c.batch.result.now c.self.invariant.legal (ap (λ (w : ServerSideState). w.history) c.self.view_is) c.requires.sum c.batch.ensures.made c.batch.ensures.follows kept in
    record { sum = k.commit.summed ∙ ap sum_of (sym k.grown) }

pub returns-clause-ok : goal.returns-clause-ok
returns-clause-ok c =
    let log = c.self.inside.history.items in
    let here = c.args.self.now in
    let kept : c.keep.new.batches.items ≡ log ++ c.batch.result.now ∷ [] = search rules in
    let k = kept_by log here.history c.keep.new.batches.items c.args.busy c.batch.result.now c.self.invariant.legal (ap (λ (w : ServerSideState). w.history) c.self.view_is) c.requires.sum c.batch.ensures.made c.batch.ensures.follows kept in
    let answered : c.args.ending ≡ ending.Answered = grind (arith, common_steps) in
    on_ok_weaker c.finish.result
    (λ e i from.
    e
    ∙ goes_on_is here.history c.keep.new.batches.items (base_sum c.self.inside.base) here.base c.args.busy c.self.inside.downs.items here.downs i k (ap (λ (w : ServerSideState). w.base) c.self.view_is) (ap (λ (w : ServerSideState). w.downs) c.self.view_is)
    ∙ ap (λ x. turned x here.base here.downs (makes c.args.busy.made) (of_log here.history c.args.busy.state) c.args.busy.moment i) (sym answered))
    c.finish.ensures.ok

pub returns-clause-err : goal.returns-clause-err
returns-clause-err c =
    let log = c.self.inside.history.items in
    let here = c.args.self.now in
    let kept : c.keep.new.batches.items ≡ log ++ c.batch.result.now ∷ [] = search rules in
    let k = kept_by log here.history c.keep.new.batches.items c.args.busy c.batch.result.now c.self.invariant.legal (ap (λ (w : ServerSideState). w.history) c.self.view_is) c.requires.sum c.batch.ensures.made c.batch.ensures.follows kept in
    let none = none_inside log c.self.inside.server (ap (λ (w : ServerSideState). w.server) c.self.view_is ∙ c.requires.waits) in
    let told = ap (λ (w : ServerSideState). w.downs) c.self.view_is in
    let based = ap (λ (w : ServerSideState). w.base) c.self.view_is in
    IfErr-weaker c.finish.result _ _
    (λ e h. (
      h.0,
      inr (
          h.1
          ∙ (λ x. viewed (k.grown x) (based x) (none x) (told x))
          ∙ ap (λ o. record here { server = o; history = log_with here.history c.args.busy }) (sym c.requires.waits)
          ),
    ))
    c.finish.ensures.err
