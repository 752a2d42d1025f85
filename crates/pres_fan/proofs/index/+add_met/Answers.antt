use Rattle.std.proofs.Common.{◌++◌, ◌+◌, take, length, sym, ap, ◌∙◌, arith}
use Rattle.pres_tree.proofs.Nodes.{no_keys}
use Rattle.pres_fan.specs.Levels.{sessions_of}
use Rattle.pres_fan.proofs.Levels.{on_ok3}
use Rattle.pres_fan.proofs.Walks.{Here, next_level, shorter, met_here, met_next, met_below}
use Rattle.pres_fan.proofs.index.+add_met.Goals as goal

pub returns-in_default-clause-only : goal.returns-in_default-clause-only
returns-in_default-clause-only t c =
    on_ok3 c.add_below.result
    (λ kept all only. (met_below c.args.level.now c.args.path.now (take c.args.depth c.args.path.now) c.args.keys.now c.args.found.now.items c.add_below.new.found.items
    (no_keys c.args.keys.now c.in_default.ensures.cases) c.requires.place kept all only).only)
    c.add_below.ensures.kept c.add_below.ensures.below c.add_below.ensures.only

pub overflow_add-depth : goal.overflow_add-depth
overflow_add-depth t c =
    let place = c.requires.place ∙ ap (λ ks. take c.args.depth c.args.path.now ++ ks) c.in-Some.ensures.cases.0 in
    let low = shorter c.args.path.now c.args.depth c.in-Some.key.now c.in-Some.rest.now place in
    omega (arith, low, c.requires.path.0)

pub add_met-requires : goal.add_met-requires
add_met-requires t c =
    let place = c.requires.place ∙ ap (λ ks. take c.args.depth c.args.path.now ++ ks) c.in-Some.ensures.cases.0 in (
      omega (arith, c.decreases, ap length c.in-Some.ensures.cases.0),
      ((next_level c.args.path.now c.args.depth c.in-Some.key.now c.in-Some.rest.now place).1, c.requires.path),
    )

pub returns-in-Some-child-clause-met : goal.returns-in-Some-child-clause-met
returns-in-Some-child-clause-met t c =
    let p = c.args.path.now in
    let d = c.args.depth in
    let k = c.in-Some.key.now in
    let ks = c.in-Some.rest.now in
    let place = c.requires.place ∙ ap (λ q. take d p ++ q) c.in-Some.ensures.cases.0 in
    let here : Here (sessions_of c.args.level.now) (take d p) c.args.found.now.items c.add_above.new.found.items = record {
      kept = c.in_ok-add_above.ensures.kept;
      here = c.in_ok-add_above.ensures.here;
      only = c.in_ok-add_above.ensures.only;
    } in
    on_ok3 c.add_met.result
    (λ kept met only. (met_next c.args.level.now c.in-Some-child.child.now (take d p) (take (d + 1) p) c.args.keys.now k ks c.args.found.now.items c.add_above.new.found.items c.add_met.new.found.items
    c.in-Some.ensures.cases.0 (next_level p d k ks place).0 (sym c.in-Some-child.ensures) here (record { kept = kept; met = met; only = only })).met)
    c.add_met.ensures.kept c.add_met.ensures.met c.add_met.ensures.only

pub returns-in-Some-child-clause-only : goal.returns-in-Some-child-clause-only
returns-in-Some-child-clause-only t c =
    let p = c.args.path.now in
    let d = c.args.depth in
    let k = c.in-Some.key.now in
    let ks = c.in-Some.rest.now in
    let place = c.requires.place ∙ ap (λ q. take d p ++ q) c.in-Some.ensures.cases.0 in
    let here : Here (sessions_of c.args.level.now) (take d p) c.args.found.now.items c.add_above.new.found.items = record {
      kept = c.in_ok-add_above.ensures.kept;
      here = c.in_ok-add_above.ensures.here;
      only = c.in_ok-add_above.ensures.only;
    } in
    on_ok3 c.add_met.result
    (λ kept met only. (met_next c.args.level.now c.in-Some-child.child.now (take d p) (take (d + 1) p) c.args.keys.now k ks c.args.found.now.items c.add_above.new.found.items c.add_met.new.found.items
    c.in-Some.ensures.cases.0 (next_level p d k ks place).0 (sym c.in-Some-child.ensures) here (record { kept = kept; met = met; only = only })).only)
    c.add_met.ensures.kept c.add_met.ensures.met c.add_met.ensures.only

pub returns-in-None-clause-met : goal.returns-in-None-clause-met
returns-in-None-clause-met t c =
    let base = take c.args.depth c.args.path.now in
    let here : Here (sessions_of c.args.level.now) base c.args.found.now.items c.add_above.new.found.items = record {
      kept = c.in_ok-add_above.ensures.kept;
      here = c.in_ok-add_above.ensures.here;
      only = c.in_ok-add_above.ensures.only;
    } in
    (met_here c.args.level.now base c.args.keys.now c.in-Some.key.now c.in-Some.rest.now c.args.found.now.items c.add_above.new.found.items c.in-Some.ensures.cases.0 (sym c.in-None.ensures) here).met

pub returns-in-None-clause-only : goal.returns-in-None-clause-only
returns-in-None-clause-only t c =
    let base = take c.args.depth c.args.path.now in
    let here : Here (sessions_of c.args.level.now) base c.args.found.now.items c.add_above.new.found.items = record {
      kept = c.in_ok-add_above.ensures.kept;
      here = c.in_ok-add_above.ensures.here;
      only = c.in_ok-add_above.ensures.only;
    } in
    (met_here c.args.level.now base c.args.keys.now c.in-Some.key.now c.in-Some.rest.now c.args.found.now.items c.add_above.new.found.items c.in-Some.ensures.cases.0 (sym c.in-None.ensures) here).only
