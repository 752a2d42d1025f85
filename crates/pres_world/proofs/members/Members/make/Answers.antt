use Rattle.std.proofs.Common.{inl, inr, refl, ap, ◌∙◌, Some, None}
use Rattle.std.specs.Map.{set_value}
use Rattle.std.specs.BTreeMap.{is_at}
use Rattle.pres_ids.specs.Ids.{client_cmp}
use Rattle.std.proofs.lemmas.Result.{on_ok_weaker, on_err_weaker, IfErr-weaker}
use Rattle.pres_world.proofs.Found.{looked_up, changed, unchanged}
use Rattle.pres_world.proofs.members.Members.make.Goals as goal

pub returns-in_default-clause-refused : goal.returns-in_default-clause-refused
returns-in_default-clause-refused c = inr (inl (refl, looked_up c.args.id.now c.self.inside.by_id.entries c.args.self.now None c.in_default.ensures.value c.self.view_is))

pub returns-clause-ok : goal.returns-clause-ok
returns-clause-ok c =
    let id = c.args.id.now in
    let es = c.self.inside.by_id.entries in
    let old = c.in-Some.member.now in
    on_ok_weaker c.make.result
    (λ h. (old, looked_up id es c.args.self.now (Some old) c.in-Some.ensures.value c.self.view_is, h.0, changed id es c.args.self.now _ old _ c.get_mut.ensures.ordered c.in-Some.ensures.value c.self.view_is ((c.get_mut.follows.holds c.make.new.self).0 ∙ ap (set_value (is_at (client_cmp id)) es) h.1), h.2))
    c.make.ensures.ok

pub returns-clause-refused : goal.returns-clause-refused
returns-clause-refused c =
    let old = c.in-Some.member.now in
    IfErr-weaker c.make.result _ _
    (λ e h. elim h [
      | inl is ↦ inl is
      | inr is ↦ inr (inr (old, is.0, looked_up c.args.id.now c.self.inside.by_id.entries c.args.self.now (Some old) c.in-Some.ensures.value c.self.view_is, is.1, is.2))
    ])
    c.make.ensures.refused

pub returns-clause-stays : goal.returns-clause-stays
returns-clause-stays c =
    on_err_weaker c.make.result
    (λ h. (unchanged c.args.id.now c.self.inside.by_id.entries c.args.self.now _ c.in-Some.member.now c.make.new.self c.in-Some.ensures.value c.self.view_is (c.get_mut.follows.holds c.make.new.self).0 h.0, h.1))
    c.make.ensures.stays
