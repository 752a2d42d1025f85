use Rattle.std.proofs.Common.{inr, refl, ap, ◌∙◌, Some, None, rules}
use Rattle.std.specs.Map.{set_value}
use Rattle.std.specs.BTreeMap.{is_at}
use Rattle.pres_ids.specs.Ids.{client_cmp}
use Rattle.pres_world.proofs.Found.{looked_up, changed, unchanged}
use Rattle.pres_world.proofs.members.Members.start_again.Goals as goal

pub returns-in_default-clause-refused : goal.returns-in_default-clause-refused
returns-in_default-clause-refused c = inr (refl, looked_up c.args.id.now c.self.inside.by_id.entries c.args.self.now None c.in_default.ensures.value c.self.view_is)

pub returns-in_err-start_again-clause-stays : goal.returns-in_err-start_again-clause-stays
returns-in_err-start_again-clause-stays c =
    let same = unchanged c.args.id.now c.self.inside.by_id.entries c.args.self.now _ c.in-Some.member.now c.start_again.new.self c.in-Some.ensures.value c.self.view_is (c.get_mut.follows.holds c.start_again.new.self).0 c.in_err-start_again.ensures.err in
    search rules

pub returns-clause-ok : goal.returns-clause-ok
returns-clause-ok c =
    let id = c.args.id.now in
    let es = c.self.inside.by_id.entries in
    let old = c.in-Some.member.now in
    (old, looked_up id es c.args.self.now (Some old) c.in-Some.ensures.value c.self.view_is, changed id es c.args.self.now _ old _ c.get_mut.ensures.ordered c.in-Some.ensures.value c.self.view_is ((c.get_mut.follows.holds c.start_again.new.self).0 ∙ ap (set_value (is_at (client_cmp id)) es) c.in_ok-start_again.ensures.ok))
