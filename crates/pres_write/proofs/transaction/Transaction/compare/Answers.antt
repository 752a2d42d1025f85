use Rattle.std.proofs.Common.{◌≡◌, [], ◌∷◌, true, false, cond, sym, ap, subst, ◌∙◌, rules}
use Rattle.std.specs.Prelude.{IfOk, IsTrue, ◌↔◌, option_copied}
use Rattle.pres_tree.specs.Rows.{option_of, rows_in, value_at}
use Rattle.pres_write.specs.declared.outcome.Outcome.TheVariants.{Wrote, Stale}
use Rattle.pres_write.specs.Settling.{settled_write}
use Rattle.pres_write.proofs.Held.{held_is, rows_of_option, compared_as}
use Rattle.pres_write.proofs.transaction.Transaction.compare.Goals as goal

pub returns-then-not-is_expected-clause-outcome : goal.returns-then-not-is_expected-clause-outcome
returns-then-not-is_expected-clause-outcome c =
    let t = c.args.self.now in
    let v = value_at t.path c.args.tree.now in
    let held : option_copied c.at-held.result ≡ option_of v =
    held_is (λ r. r.now) c.at-held.result (value_at c.self.inside.path c.args.tree.now) c.at-held.ensures ∙ ap (λ s. option_of (value_at s.path c.args.tree.now)) c.self.view_is in
    let rows : rows_in (option_copied c.at-held.result) ≡ v = ap rows_in held ∙ rows_of_option v in
    let test : IsTrue c.is_expected.result ↔ (v ≡ t.expect) = (λ h. sym rows ∙ c.is_expected.ensures.0 h, λ e. c.is_expected.ensures.1 (rows ∙ e)) in
    let no : c.is_expected.result ≡ false = search rules in
    ap Stale (c.in_ok-copy_value.ensures ∙ held)
    ∙ sym (compared_as c.args.tree.now c.args.moment t c.is_expected.result test ∙ ap (λ b. cond b (Wrote (settled_write c.args.tree.now c.args.moment (t.path, t.new) ∷ [])) (Stale (option_of v))) no)

pub returns-clause-outcome : goal.returns-clause-outcome
returns-clause-outcome c =
    let t = c.args.self.now in
    let v = value_at t.path c.args.tree.now in
    let held : option_copied c.at-held.result ≡ option_of v =
    held_is (λ r. r.now) c.at-held.result (value_at c.self.inside.path c.args.tree.now) c.at-held.ensures ∙ ap (λ s. option_of (value_at s.path c.args.tree.now)) c.self.view_is in
    let rows : rows_in (option_copied c.at-held.result) ≡ v = ap rows_in held ∙ rows_of_option v in
    let test : IsTrue c.is_expected.result ↔ (v ≡ t.expect) = (λ h. sym rows ∙ c.is_expected.ensures.0 h, λ e. c.is_expected.ensures.1 (rows ∙ e)) in
    let yes : c.is_expected.result ≡ true = search rules in
    let write : settled_write c.args.tree.now c.args.moment (c.in_ok-path.path, c.self.inside.new) ≡ settled_write c.args.tree.now c.args.moment (t.path, t.new) = (λ i. settled_write c.args.tree.now c.args.moment (c.in_ok-path.ensures i, c.self.inside.new)) ∙ ap (λ s. settled_write c.args.tree.now c.args.moment (s.path, s.new)) c.self.view_is in
    subst (λ w. IfOk c.one_write.result (λ outcome. outcome ≡ w))
    (ap (λ w. Wrote (w ∷ [])) write
    ∙ sym (compared_as c.args.tree.now c.args.moment t c.is_expected.result test ∙ ap (λ b. cond b (Wrote (settled_write c.args.tree.now c.args.moment (t.path, t.new) ∷ [])) (Stale (option_of v))) yes))
    c.one_write.ensures.outcome
