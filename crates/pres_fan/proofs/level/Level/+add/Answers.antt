use Rattle.std.proofs.Common.{refl, sym, ap, subst, ◌∙◌, ◌||◌, ◌∷◌, Some, IsSome}
use Rattle.std.specs.Map.{lookup}
use Rattle.std.specs.BTreeMap.{is_at}
use Rattle.pres_tree.specs.Keys.{key_cmp}
use Rattle.pres_fan.specs.declared.level.Level.TheViews.{out-Level}
use Rattle.pres_fan.proofs.Levels.{entries_or, with_below, sessions_with, entries_with, through, heard_through, tidy_through, used_through, heard_same, Put, heard_put, tidy_put, bare_tidy, sets_child, on_ok, on_err, on_any, on_any_err}
use Rattle.pres_fan.proofs.level.Level.+add.Goals as goal

pub returns-in-Some-get_mut-clause-added : goal.returns-in-Some-get_mut-clause-added
returns-in-Some-get_mut-clause-added t c =
    let k = c.in-Some.key.now in
    let old = c.args.self.now in
    let child = c.in-Some-get_mut.child.now in
    let new = c.add-in-Some-get_mut.new.self in
    let written = c.get_mut.follows.holds new in
    let was = ap (λ m. m.entries) c.get_or_insert-below.ensures.value ∙ entries_or (out-Level old).below c.new.result c.new.ensures.empty in
    let change = through k child new old (with_below old (Some (c.get_mut.follows.lender new))) c.get_or_insert-below.result.now.entries (c.get_mut.follows.lender new).entries (sessions_with old (Some (c.get_mut.follows.lender new))) was (entries_with old (Some (c.get_mut.follows.lender new))) c.in-Some-get_mut.ensures.value written.2
    (written.3 (subst IsSome c.in-Some-get_mut.ensures.value refl)).0 in
    on_ok c.add-in-Some-get_mut.result
    (heard_through (λ a b. a || b) (λ b. refl) c.args.session.now c.args.keys.now k c.in-Some.rest.now child new old (with_below old (Some (c.get_mut.follows.lender new))) c.in-Some.ensures.cases.0 change)
    c.add-in-Some-get_mut.ensures.added

pub returns-in-Some-get_mut-clause-unchanged : goal.returns-in-Some-get_mut-clause-unchanged
returns-in-Some-get_mut-clause-unchanged t c =
    let k = c.in-Some.key.now in
    let old = c.args.self.now in
    let child = c.in-Some-get_mut.child.now in
    let new = c.add-in-Some-get_mut.new.self in
    let written = c.get_mut.follows.holds new in
    let was = ap (λ m. m.entries) c.get_or_insert-below.ensures.value ∙ entries_or (out-Level old).below c.new.result c.new.ensures.empty in
    let change = through k child new old (with_below old (Some (c.get_mut.follows.lender new))) c.get_or_insert-below.result.now.entries (c.get_mut.follows.lender new).entries (sessions_with old (Some (c.get_mut.follows.lender new))) was (entries_with old (Some (c.get_mut.follows.lender new))) c.in-Some-get_mut.ensures.value written.2
    (written.3 (subst IsSome c.in-Some-get_mut.ensures.value refl)).0 in
    on_err c.add-in-Some-get_mut.result
    (heard_through (λ a b. b) (λ b. refl) c.args.session.now c.args.keys.now k c.in-Some.rest.now child new old (with_below old (Some (c.get_mut.follows.lender new))) c.in-Some.ensures.cases.0 change)
    c.add-in-Some-get_mut.ensures.unchanged

pub returns-in-Some-get_mut-clause-used : goal.returns-in-Some-get_mut-clause-used
returns-in-Some-get_mut-clause-used t c =
    let k = c.in-Some.key.now in
    let old = c.args.self.now in
    let child = c.in-Some-get_mut.child.now in
    let new = c.add-in-Some-get_mut.new.self in
    let written = c.get_mut.follows.holds new in
    let was = ap (λ m. m.entries) c.get_or_insert-below.ensures.value ∙ entries_or (out-Level old).below c.new.result c.new.ensures.empty in
    let change = through k child new old (with_below old (Some (c.get_mut.follows.lender new))) c.get_or_insert-below.result.now.entries (c.get_mut.follows.lender new).entries (sessions_with old (Some (c.get_mut.follows.lender new))) was (entries_with old (Some (c.get_mut.follows.lender new))) c.in-Some-get_mut.ensures.value written.2
    (written.3 (subst IsSome c.in-Some-get_mut.ensures.value refl)).0 in
    on_any c.add-in-Some-get_mut.result (used_through k child new old (with_below old (Some (c.get_mut.follows.lender new))) change)

pub returns-in-Some-get_mut-clause-tidy : goal.returns-in-Some-get_mut-clause-tidy
returns-in-Some-get_mut-clause-tidy t c =
    let k = c.in-Some.key.now in
    let old = c.args.self.now in
    let child = c.in-Some-get_mut.child.now in
    let new = c.add-in-Some-get_mut.new.self in
    let written = c.get_mut.follows.holds new in
    let was = ap (λ m. m.entries) c.get_or_insert-below.ensures.value ∙ entries_or (out-Level old).below c.new.result c.new.ensures.empty in
    let change = through k child new old (with_below old (Some (c.get_mut.follows.lender new))) c.get_or_insert-below.result.now.entries (c.get_mut.follows.lender new).entries (sessions_with old (Some (c.get_mut.follows.lender new))) was (entries_with old (Some (c.get_mut.follows.lender new))) c.in-Some-get_mut.ensures.value written.2
    (written.3 (subst IsSome c.in-Some-get_mut.ensures.value refl)).0 in
    tidy_through k child new old (with_below old (Some (c.get_mut.follows.lender new))) change c.add-in-Some-get_mut.ensures.stays_used c.add-in-Some-get_mut.ensures.tidy

pub returns-in_err-add-clause-unchanged : goal.returns-in_err-add-clause-unchanged
returns-in_err-add-clause-unchanged t c =
    let old = c.args.self.now in
    let was = ap (λ m. m.entries) c.get_or_insert-below.ensures.value ∙ entries_or (out-Level old).below c.new.result c.new.ensures.empty in
    on_any_err c.from_residual.result
    (heard_same old (with_below old (Some c.get_mut.follows.lender-at-none)) (sessions_with old (Some c.get_mut.follows.lender-at-none)) (entries_with old (Some c.get_mut.follows.lender-at-none) ∙ ap (λ m. m.entries) c.get_mut.follows.holds-at-none ∙ was))

pub returns-in_err-copy-clause-unchanged : goal.returns-in_err-copy-clause-unchanged
returns-in_err-copy-clause-unchanged t c =
    let old = c.args.self.now in
    let was = ap (λ m. m.entries) c.get_or_insert-below.ensures.value ∙ entries_or (out-Level old).below c.new.result c.new.ensures.empty in
    on_any_err c.from_residual-in_err-copy.result
    (heard_same old (with_below old (Some c.get_mut.follows.lender-at-none)) (sessions_with old (Some c.get_mut.follows.lender-at-none)) (entries_with old (Some c.get_mut.follows.lender-at-none) ∙ ap (λ m. m.entries) c.get_mut.follows.holds-at-none ∙ was))

pub returns-in_err-insert-clause-unchanged : goal.returns-in_err-insert-clause-unchanged
returns-in_err-insert-clause-unchanged t c =
    let old = c.args.self.now in
    let was = ap (λ m. m.entries) c.get_or_insert-below.ensures.value ∙ entries_or (out-Level old).below c.new.result c.new.ensures.empty in
    on_any_err c.from_residual-in_err-insert.result
    (heard_same old (with_below old (Some c.insert.new.self)) (sessions_with old (Some c.insert.new.self)) (entries_with old (Some c.insert.new.self) ∙ c.in_err-insert.ensures.err ∙ ap (λ m. m.entries) c.get_mut.follows.holds-at-none ∙ was))

pub returns-clause-added : goal.returns-clause-added
returns-clause-added t c =
    let k = c.in_ok-copy.field-0 in
    let old = c.args.self.now in
    let child = c.add-2.new.self in
    let was = ap (λ m. m.entries) c.get_or_insert-below.ensures.value ∙ entries_or (out-Level old).below c.new.result c.new.ensures.empty in
    let put : Put k child old (with_below old (Some c.insert.new.self)) = record {
      same = sessions_with old (Some c.insert.new.self);
      was = ap (lookup (is_at (key_cmp k))) (sym was) ∙ ap (λ q. lookup (is_at (key_cmp q)) c.get_or_insert-below.result.now.entries) c.in_ok-copy.ensures ∙ sym c.in_default-get_mut.ensures.value;
      sets = sets_child k (Some child) old (with_below old (Some c.insert.new.self)) c.get_mut.follows.lender-at-none.entries c.insert.new.self.entries (ap (λ m. m.entries) c.get_mut.follows.holds-at-none ∙ was) (entries_with old (Some c.insert.new.self)) c.in_ok-insert.ensures.updates.0;
    } in
    heard_put c.args.session.now c.args.keys.now k c.in-Some.rest.now c.new-child.result child old (with_below old (Some c.insert.new.self))
    (c.in-Some.ensures.cases.0 ∙ ap (λ q. q ∷ c.in-Some.rest.now) (sym c.in_ok-copy.ensures)) c.new-child.ensures put c.in_ok-add.ensures.added

pub returns-clause-tidy : goal.returns-clause-tidy
returns-clause-tidy t c =
    let k = c.in_ok-copy.field-0 in
    let old = c.args.self.now in
    let child = c.add-2.new.self in
    let was = ap (λ m. m.entries) c.get_or_insert-below.ensures.value ∙ entries_or (out-Level old).below c.new.result c.new.ensures.empty in
    let put : Put k child old (with_below old (Some c.insert.new.self)) = record {
      same = sessions_with old (Some c.insert.new.self);
      was = ap (lookup (is_at (key_cmp k))) (sym was) ∙ ap (λ q. lookup (is_at (key_cmp q)) c.get_or_insert-below.result.now.entries) c.in_ok-copy.ensures ∙ sym c.in_default-get_mut.ensures.value;
      sets = sets_child k (Some child) old (with_below old (Some c.insert.new.self)) c.get_mut.follows.lender-at-none.entries c.insert.new.self.entries (ap (λ m. m.entries) c.get_mut.follows.holds-at-none ∙ was) (entries_with old (Some c.insert.new.self)) c.in_ok-insert.ensures.updates.0;
    } in
    tidy_put k child old (with_below old (Some c.insert.new.self)) put c.in_ok-add.ensures.used (c.in_ok-add.ensures.tidy (bare_tidy c.new-child.result c.new-child.ensures))
