use Rattle.std.proofs.Common.{◌≡◌, ◌∙◌, ◌-◌, length, take, drop, ap}
use Rattle.std.proofs.lemmas.List.{take_rest}
use Rattle.pres_world.specs.ServerSides.{ServerSideState, base_sum}
use Rattle.pres_world.proofs.Held.{holds_seen}
use Rattle.pres_world.proofs.Bases.{later_follow}
use Rattle.pres_world.proofs.server_side.ServerSide.resumed.Goals as goal

pub finished-requires : goal.finished-requires
finished-requires c =
    let inside = c.self.inside in
    let batches = c.deref.result.now in
    let n = c.base_count.result in
    let whole : batches ≡ c.args.self.now.history = c.deref.ensures.value ∙ ap (λ (w : ServerSideState). w.history) c.self.view_is in
    let after : take (length batches - n) (drop n batches) ≡ drop c.args.self.now.base.batches c.args.self.now.history = take_rest batches n ∙ (λ i. drop (c.base_count.ensures.count i) (whole i)) in
    later_follow c.args.self.now c.in_ok-replay.replay (take (length batches - n) (drop n batches)) (holds_seen c.args.self.now inside.history.items (base_sum inside.base) inside.server inside.downs.items c.self.view_is c.self.invariant)
    c.in_ok-replay.ensures.sum after
