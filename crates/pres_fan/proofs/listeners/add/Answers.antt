use Rattle.std.proofs.Common.{rules, ◌∙◌, ◌≡◌, [], ◌∷◌, ◌++◌}
use Rattle.pres_fan.proofs.Rows.{to_last, behind_last, behind_none, one_more_row}
use Rattle.pres_fan.proofs.listeners.add.Goals.{in-Some+else-eq, in_default}
use Rattle.pres_fan.proofs.listeners.add.Goals as goal

pub returns-then-eq : goal.returns-then-eq
returns-then-eq c =
    one_more_row c.args.listener c.args.rows.now.items _
    (to_last c.args.listener c.args.rows.now.items c.args.rows.now.len c.in-Some.last.now c.push.new.self (search rules) (search rules) (search rules) (search rules) (search rules))

pub returns : goal.returns
returns c =
    let made : c.push-2.new.self.items ≡ c.match-last_mut.rows.items ++ (c.args.listener.session, c.args.listener.path ∷ []) ∷ [] = search rules in
    one_more_row c.args.listener c.args.rows.now.items _ (made ∙ elim c.match-last_mut.branch [
      | in-Some+else-eq w ↦ behind_last c.args.listener c.args.rows.now.items c.match-last_mut.rows.items c.args.rows.now.len w.in-Some.last.now (search rules) (search rules) (search rules) (search rules) (search rules)
      | in_default w ↦ behind_none c.args.listener c.args.rows.now.items c.match-last_mut.rows.items c.args.rows.now.len (search rules) w.in_default.ensures.variant.1 (search rules)
    ])
