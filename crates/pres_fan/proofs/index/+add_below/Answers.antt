use Rattle.std.proofs.Common.{sym, ap, subst, ◌∙◌}
use Rattle.std.specs.List.Sorted.{IsStrictlySortedBy}
use Rattle.std.specs.Map.{keys_of}
use Rattle.pres_tree.specs.Keys.{key_cmp}
use Rattle.pres_fan.specs.Levels.{sessions_of, entries_in}
use Rattle.pres_fan.proofs.Levels.{no_entries}
use Rattle.pres_fan.proofs.Walks.{Here, Below, below_begun, below_none, below_more, below_all}
use Rattle.pres_fan.proofs.index.+add_below.Goals as goal

pub returns-in_default-clause-below : goal.returns-in_default-clause-below
returns-in_default-clause-below t c =
    let here : Here (sessions_of c.args.level.now) c.args.path.now c.args.found.now.items c.add_here.new.found.items = record {
      kept = c.in_ok-add_here.ensures.kept;
      here = c.in_ok-add_here.ensures.here;
      only = c.in_ok-add_here.ensures.only;
    } in
    below_all c.args.level.now c.args.path.now c.args.found.now.items c.add_here.new.found.items
    (below_none c.args.level.now c.args.path.now c.args.found.now.items c.add_here.new.found.items (no_entries _ c.in_default.not-Some) here)

pub returns-in_default-clause-only : goal.returns-in_default-clause-only
returns-in_default-clause-only t c =
    let here : Here (sessions_of c.args.level.now) c.args.path.now c.args.found.now.items c.add_here.new.found.items = record {
      kept = c.in_ok-add_here.ensures.kept;
      here = c.in_ok-add_here.ensures.here;
      only = c.in_ok-add_here.ensures.only;
    } in
    (below_none c.args.level.now c.args.path.now c.args.found.now.items c.add_here.new.found.items (no_entries _ c.in_default.not-Some) here).only

pub loop-key-init : goal.loop-key-init
loop-key-init t c =
    let here : Here (sessions_of c.args.level.now) c.args.path.now c.args.found.now.items c.add_here.new.found.items = record {
      kept = c.in_ok-add_here.ensures.kept;
      here = c.in_ok-add_here.ensures.here;
      only = c.in_ok-add_here.ensures.only;
    } in
    let all = ap entries_in c.in-Some.is in
    below_begun c.args.level.now c.args.path.now c.into_iter-key-iterator.result c.args.found.now.items c.add_here.new.found.items
    (c.into_iter-key-iterator.ensures.into_iter_gives ∙ c.iter-key-items.ensures.rest ∙ sym all)
    (subst (λ es. IsStrictlySortedBy key_cmp (keys_of es)) (sym all) c.iter-key-items.ensures.ordered)
    here

pub loop-key-preserved : goal.loop-key-preserved
loop-key-preserved t c =
    let level = c.args.level.now in
    let path = c.args.path.now in
    let before = c.args.found.now.items in
    let found = c.loop-key.found.items in
    let added = c.in_ok-add_below.ensures in
    below_more level path c.in_ok-path.path c.in-Some-2.key.now c.in-Some-2.child.now c.next.new.self before found c.add_below.new.found.items c.in_ok-path.ensures.path added.kept added.below added.only
    (subst (λ es. Below level path es before found) c.in-Some-2.ensures.steps c.loop-key.invariant)

pub returns-clause-below : goal.returns-clause-below
returns-clause-below t c =
    below_all c.args.level.now c.args.path.now c.args.found.now.items c.loop-key.found.items
    (subst (λ es. Below c.args.level.now c.args.path.now es c.args.found.now.items c.loop-key.found.items) c.in-None.ensures.steps.0 c.loop-key.invariant)
