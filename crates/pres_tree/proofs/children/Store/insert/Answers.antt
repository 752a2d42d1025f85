use Rattle.std.proofs.Common.{Some, ap, sym, subst, ◌∙◌}
use Rattle.std.specs.BTreeMap.{get, insert_entry, Updates}
use Rattle.pres_tree.specs.Children.{place_of}
use Rattle.pres_tree.specs.Keys.{key_cmp}
use Rattle.pres_tree.specs.Stores.{seen, IsSound}
use Rattle.pres_tree.specs.declared.children.Store.TheVariants.{Few}
use Rattle.pres_tree.proofs.Places.{within, up_to, found_insert, found_old, missing_value, sets, puts, joins, new_insert}
use Rattle.pres_tree.proofs.children.Store.insert.Goals as goal
use Rattle.std.proofs.Common.{arith}
use Rattle.std.proofs.lemmas.Grind.{common_steps}

pub set_at-requires : goal.set_at-requires
set_at-requires g c =
    let place = ap (place_of (key_cmp c.args.key)) (sym c.deref.ensures.value) ∙ sym c.in-Ok.ensures in
    within c.args.key c.in-Few.few.items c.in-Ok.at place

pub put_at-requires : goal.put_at-requires
put_at-requires g c =
    let place = ap (place_of (key_cmp c.args.key)) (sym c.deref.ensures.value) ∙ sym c.in-Err.ensures in
    up_to c.args.key c.args.value c.in-Few.few.items c.in-Err.at place

pub returns-in-Ok-clause-old : goal.returns-in-Ok-clause-old
returns-in-Ok-clause-old g c =
    let k = c.args.key in
    let place = ap (place_of (key_cmp k)) (sym c.deref.ensures.value) ∙ sym c.in-Ok.ensures in
    c.set_at.ensures.old ∙ found_old k c.args.value c.in-Few.few.items c.in-Ok.at place ∙ ap (λ s. get key_cmp (seen s) k) (sym c.in-Few.is)

pub returns-in-Ok-clause-updates : goal.returns-in-Ok-clause-updates
returns-in-Ok-clause-updates g c =
    let k = c.args.key in
    let v = c.args.value in
    let place = ap (place_of (key_cmp k)) (sym c.deref.ensures.value) ∙ sym c.in-Ok.ensures in
    let new = seen (Few c.set_at.new.few) in
    subst (λ s. Updates key_cmp (seen s) new k (Some v)) (sym c.in-Few.is) (sets k v (seen (Few c.in-Few.few)) new (subst IsSound c.in-Few.is c.requires) c.in-Ok.at place c.set_at.ensures.items).0

pub returns-in-Ok-clause-entries : goal.returns-in-Ok-clause-entries
returns-in-Ok-clause-entries g c =
    let k = c.args.key in
    let v = c.args.value in
    let place = ap (place_of (key_cmp k)) (sym c.deref.ensures.value) ∙ sym c.in-Ok.ensures in
    c.set_at.ensures.items ∙ found_insert k v c.in-Few.few.items c.in-Ok.at place ∙ ap (λ s. insert_entry key_cmp (seen s).entries k v) (sym c.in-Few.is)

pub returns-in-Ok-clause-ordered : goal.returns-in-Ok-clause-ordered
returns-in-Ok-clause-ordered g c =
    let k = c.args.key in
    let place = ap (place_of (key_cmp k)) (sym c.deref.ensures.value) ∙ sym c.in-Ok.ensures in
    (sets k c.args.value (seen (Few c.in-Few.few)) (seen (Few c.set_at.new.few)) (subst IsSound c.in-Few.is c.requires) c.in-Ok.at place c.set_at.ensures.items).1

pub returns-then-len-lt-FEW-clause-old : goal.returns-then-len-lt-FEW-clause-old
returns-then-len-lt-FEW-clause-old g c =
    let k = c.args.key in
    let place = ap (place_of (key_cmp k)) (sym c.deref.ensures.value) ∙ sym c.in-Err.ensures in
    missing_value k c.in-Few.few.items c.in-Err.at (subst IsSound c.in-Few.is c.requires) place ∙ ap (λ s. get key_cmp (seen s) k) (sym c.in-Few.is)

pub returns-then-len-lt-FEW-clause-updates : goal.returns-then-len-lt-FEW-clause-updates
returns-then-len-lt-FEW-clause-updates g c =
    let k = c.args.key in
    let v = c.args.value in
    let place = ap (place_of (key_cmp k)) (sym c.deref.ensures.value) ∙ sym c.in-Err.ensures in
    let new = seen (Few c.put_at.new.few) in
    subst (λ s. Updates key_cmp (seen s) new k (Some v)) (sym c.in-Few.is) (puts k v (seen (Few c.in-Few.few)) new (subst IsSound c.in-Few.is c.requires) c.in-Err.at place c.in_ok-put_at-in-Err.ensures.ok).0

pub returns-then-len-lt-FEW-clause-entries : goal.returns-then-len-lt-FEW-clause-entries
returns-then-len-lt-FEW-clause-entries g c =
    let k = c.args.key in
    let v = c.args.value in
    let place = ap (place_of (key_cmp k)) (sym c.deref.ensures.value) ∙ sym c.in-Err.ensures in
    c.in_ok-put_at-in-Err.ensures.ok ∙ new_insert k v c.in-Few.few.items c.in-Err.at place ∙ ap (λ s. insert_entry key_cmp (seen s).entries k v) (sym c.in-Few.is)

pub returns-then-len-lt-FEW-clause-ordered : goal.returns-then-len-lt-FEW-clause-ordered
returns-then-len-lt-FEW-clause-ordered g c =
    let k = c.args.key in
    let place = ap (place_of (key_cmp k)) (sym c.deref.ensures.value) ∙ sym c.in-Err.ensures in
    (puts k c.args.value (seen (Few c.in-Few.few)) (seen (Few c.put_at.new.few)) (subst IsSound c.in-Few.is c.requires) c.in-Err.at place c.in_ok-put_at-in-Err.ensures.ok).1

pub returns-in_ok-many-in-Err-clause-old : goal.returns-in_ok-many-in-Err-clause-old
returns-in_ok-many-in-Err-clause-old g c =
    let k = c.args.key in
    let place = ap (place_of (key_cmp k)) (sym c.deref.ensures.value) ∙ sym c.in-Err.ensures in
    missing_value k c.in-Few.few.items c.in-Err.at (subst IsSound c.in-Few.is c.requires) place ∙ ap (λ s. get key_cmp (seen s) k) (sym c.in-Few.is)

pub returns-in_ok-many-in-Err-clause-updates : goal.returns-in_ok-many-in-Err-clause-updates
returns-in_ok-many-in-Err-clause-updates g c =
    let k = c.args.key in
    let v = c.args.value in
    let place = ap (place_of (key_cmp k)) (sym c.deref.ensures.value) ∙ sym c.in-Err.ensures in
    let many = c.in_ok-many-in-Err.many in
    let one = joins k v (seen (Few c.in-Few.few)) many (subst IsSound c.in-Few.is c.requires) c.in-Err.at place c.in_ok-many-in-Err.ensures.entries in
    subst (λ s. Updates key_cmp (seen c.args.self.now) (seen s) k (Some v)) (sym c.replace.ensures.after)
    (subst (λ s. Updates key_cmp (seen s) many k (Some v)) (sym c.in-Few.is) one.0)

pub returns-in_ok-insert-in-Many-clause-updates : goal.returns-in_ok-insert-in-Many-clause-updates
returns-in_ok-insert-in-Many-clause-updates g c =
    let k = c.args.key in
    subst (λ s. Updates key_cmp (seen s) c.insert.new.self k (Some c.args.value)) (sym c.in-Many.is) c.in_ok-insert-in-Many.ensures.updates

pub returns-in_ok-many-in-Err-clause-entries : goal.returns-in_ok-many-in-Err-clause-entries
returns-in_ok-many-in-Err-clause-entries g c = grind (arith, common_steps)

pub returns-in_ok-many-in-Err-clause-ordered : goal.returns-in_ok-many-in-Err-clause-ordered
returns-in_ok-many-in-Err-clause-ordered g c = grind (arith, common_steps)

pub returns-in_ok-insert-in-Many-clause-entries : goal.returns-in_ok-insert-in-Many-clause-entries
returns-in_ok-insert-in-Many-clause-entries g c = grind (arith, common_steps)

pub returns-in_ok-insert-in-Many-clause-old : goal.returns-in_ok-insert-in-Many-clause-old
returns-in_ok-insert-in-Many-clause-old g c = grind arith
