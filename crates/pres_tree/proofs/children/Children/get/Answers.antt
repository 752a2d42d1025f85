use Rattle.std.proofs.Common.{arith, ap, sym, subst, ◌∙◌}
use Rattle.std.specs.BTreeMap.{get_by}
use Rattle.pres_tree.specs.Children.{place_of}
use Rattle.pres_tree.specs.Keys.{key_cmp}
use Rattle.pres_tree.specs.Stores.{seen, IsSound}
use Rattle.pres_tree.proofs.Places.{within, found_value, missing_value, among_found, among_result}
use Rattle.pres_tree.proofs.children.Children.get.Goals as goal

pub index-requires : goal.index-requires
index-requires g c =
    let place = ap (place_of (key_cmp c.args.key.now)) (sym c.deref.ensures.value) ∙ sym c.in-Ok.ensures in
    omega (arith, within c.args.key.now c.in-Few.few.items c.in-Ok.at place, c.in-Few.few.ok.0)

pub returns-in-Ok-clause-value : goal.returns-in-Ok-clause-value
returns-in-Ok-clause-value g c =
    let k = c.args.key.now in
    let place = ap (place_of (key_cmp k)) (sym c.deref.ensures.value) ∙ sym c.in-Ok.ensures in
    found_value k c.in-Few.few.items c.in-Ok.at place c.index.result.now c.index.ensures
    ∙ ap (get_by (key_cmp k)) (sym (ap seen c.in-Few.is) ∙ c.self.view_is)

pub returns-in-Err-clause-value : goal.returns-in-Err-clause-value
returns-in-Err-clause-value g c =
    let k = c.args.key.now in
    let place = ap (place_of (key_cmp k)) (sym c.deref.ensures.value) ∙ sym c.in-Err.ensures in
    missing_value k c.in-Few.few.items c.in-Err.field-0 (subst IsSound c.in-Few.is c.self.invariant) place
    ∙ ap (get_by (key_cmp k)) (sym (ap seen c.in-Few.is) ∙ c.self.view_is)

pub returns-in-Ok-clause-member : goal.returns-in-Ok-clause-member
returns-in-Ok-clause-member g c =
    let k = c.args.key.now in
    let place = ap (place_of (key_cmp k)) (sym c.deref.ensures.value) ∙ sym c.in-Ok.ensures in
    among_found k c.args.self.now.entries c.index.result.now.1 (found_value k c.in-Few.few.items c.in-Ok.at place c.index.result.now c.index.ensures
    ∙ ap (get_by (key_cmp k)) (sym (ap seen c.in-Few.is) ∙ c.self.view_is))

pub returns-in-Many-clause-member : goal.returns-in-Many-clause-member
returns-in-Many-clause-member g c =
    let k = c.args.key.now in
    among_result (λ v. v.now) k c.args.self.now.entries c.get.result (c.get.ensures.value ∙ ap (get_by (key_cmp k)) (sym (ap seen c.in-Many.is) ∙ c.self.view_is))
