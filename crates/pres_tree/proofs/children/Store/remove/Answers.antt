use Rattle.std.proofs.Common.{None, arith, ap, sym, subst, ◌∙◌}
use Rattle.std.specs.List.Sorted.{IsStrictlySortedBy}
use Rattle.std.specs.Map.{keys_of, remove_entry}
use Rattle.std.specs.BTreeMap.{get_by, is_at, UpdatesBy}
use Rattle.pres_tree.specs.Children.{place_of}
use Rattle.pres_tree.specs.Keys.{key_cmp}
use Rattle.pres_tree.specs.Stores.{seen, IsSound}
use Rattle.pres_tree.specs.declared.children.Store.TheVariants.{Few}
use Rattle.pres_tree.proofs.Places.{within, found_value, found_remove, rise_remove, missing_value, missing_remove, removes}
use Rattle.pres_tree.proofs.children.Store.remove.Goals as goal

pub remove-value-requires : goal.remove-value-requires
remove-value-requires g c =
    let place = ap (place_of (key_cmp c.args.key.now)) (sym c.deref.ensures.value) ∙ sym c.in-Ok.ensures in
    omega (arith, within c.args.key.now c.in-Few.few.items c.in-Ok.at place, c.in-Few.few.ok.0)

pub returns-in-Ok-clause-value : goal.returns-in-Ok-clause-value
returns-in-Ok-clause-value g c =
    let k = c.args.key.now in
    let place = ap (place_of (key_cmp k)) (sym c.deref.ensures.value) ∙ sym c.in-Ok.ensures in
    found_value k c.in-Few.few.items c.in-Ok.at place c.remove-value.result c.remove-value.ensures.value ∙ ap (λ s. get_by (key_cmp k) (seen s)) (sym c.in-Few.is)

pub returns-in-Ok-clause-updates : goal.returns-in-Ok-clause-updates
returns-in-Ok-clause-updates g c =
    let k = c.args.key.now in
    let place = ap (place_of (key_cmp k)) (sym c.deref.ensures.value) ∙ sym c.in-Ok.ensures in
    let new = seen (Few c.remove-value.new.self) in
    subst (λ s. UpdatesBy key_cmp (key_cmp k) (seen s) new None) (sym c.in-Few.is)
    (removes k (seen (Few c.in-Few.few)) new (subst IsSound c.in-Few.is c.requires) (c.remove-value.ensures.items ∙ found_remove k c.in-Few.few.items c.in-Ok.at place))

pub returns-in-Ok-clause-entries : goal.returns-in-Ok-clause-entries
returns-in-Ok-clause-entries g c =
    let k = c.args.key.now in
    let place = ap (place_of (key_cmp k)) (sym c.deref.ensures.value) ∙ sym c.in-Ok.ensures in
    c.remove-value.ensures.items ∙ found_remove k c.in-Few.few.items c.in-Ok.at place ∙ ap (λ s. remove_entry (is_at (key_cmp k)) (seen s).entries) (sym c.in-Few.is)

pub returns-in-Ok-clause-ordered : goal.returns-in-Ok-clause-ordered
returns-in-Ok-clause-ordered g c =
    subst (λ es. IsStrictlySortedBy key_cmp (keys_of es)) (sym c.remove-value.ensures.items) (rise_remove c.in-Few.few.items c.in-Ok.at (subst IsSound c.in-Few.is c.requires))

pub returns-in-Err-clause-value : goal.returns-in-Err-clause-value
returns-in-Err-clause-value g c =
    let k = c.args.key.now in
    let place = ap (place_of (key_cmp k)) (sym c.deref.ensures.value) ∙ sym c.in-Err.ensures in
    missing_value k c.in-Few.few.items c.in-Err.field-0 (subst IsSound c.in-Few.is c.requires) place ∙ ap (λ s. get_by (key_cmp k) (seen s)) (sym c.in-Few.is)

pub returns-in-Err-clause-updates : goal.returns-in-Err-clause-updates
returns-in-Err-clause-updates g c =
    let k = c.args.key.now in
    let place = ap (place_of (key_cmp k)) (sym c.deref.ensures.value) ∙ sym c.in-Err.ensures in
    let same = seen (Few c.in-Few.few) in
    let rise = subst IsSound c.in-Few.is c.requires in
    subst (λ s. UpdatesBy key_cmp (key_cmp k) (seen s) same None) (sym c.in-Few.is) (removes k same same rise (missing_remove k c.in-Few.few.items c.in-Err.field-0 rise place))

pub returns-in-Err-clause-entries : goal.returns-in-Err-clause-entries
returns-in-Err-clause-entries g c =
    let k = c.args.key.now in
    let place = ap (place_of (key_cmp k)) (sym c.deref.ensures.value) ∙ sym c.in-Err.ensures in
    missing_remove k c.in-Few.few.items c.in-Err.field-0 (subst IsSound c.in-Few.is c.requires) place ∙ ap (λ s. remove_entry (is_at (key_cmp k)) (seen s).entries) (sym c.in-Few.is)

pub returns-in-Many-clause-updates : goal.returns-in-Many-clause-updates
returns-in-Many-clause-updates g c =
    let k = c.args.key.now in
    subst (λ s. UpdatesBy key_cmp (key_cmp k) (seen s) c.remove.new.self None) (sym c.in-Many.is) c.remove.ensures.updates
