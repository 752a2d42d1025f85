use Rattle.std.proofs.Common.{arith, ap, sym, refl, ◌∙◌}
use Rattle.pres_tree.specs.Children.{place_of}
use Rattle.pres_tree.specs.Keys.{key_cmp}
use Rattle.pres_tree.proofs.Places.{within, found_value, found_write, missing_value, missing_write}
use Rattle.pres_tree.proofs.children.few_mut.Goals as goal

pub index_mut-entry-requires : goal.index_mut-entry-requires
index_mut-entry-requires g c =
    let place = ap (place_of (key_cmp c.args.key.now)) (sym c.deref.ensures.value) ∙ sym c.in-Ok.ensures in
    omega (arith, within c.args.key.now c.args.few.now.items c.in-Ok.at place, c.args.few.now.ok.0)

pub returns-in-Ok : goal.returns-in-Ok
returns-in-Ok g c =
    let k = c.args.key.now in
    let es = c.args.few.now.items in
    let place = ap (place_of (key_cmp k)) (sym c.deref.ensures.value) ∙ sym c.in-Ok.ensures in
    let entry = c.index_mut-entry.result.now in
    let there = c.index_mut-entry.ensures.value in (
      (refl, found_write k es c.in-Ok.at place entry there, refl),
      record { writes_back = tt; value = found_value k es c.in-Ok.at place entry there },
    )

pub returns-in-Err : goal.returns-in-Err
returns-in-Err g c =
    let k = c.args.key.now in
    let es = c.args.few.now.items in
    let place = ap (place_of (key_cmp k)) (sym c.deref.ensures.value) ∙ sym c.in-Err.ensures in (
      (refl, missing_write k es c.in-Err.field-0 c.requires place, refl),
      record { writes_back = tt; value = missing_value k es c.in-Err.field-0 c.requires place },
    )
