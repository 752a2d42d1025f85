use Rattle.std.proofs.Common.{◌≡◌, ap, sym, ◌∙◌, [], Option, Some, None, is_some, unwrap_or, true≢false, rules}
use Rattle.std.specs.Map.{set_value}
use Rattle.std.specs.BTreeMap.{is_at}
use Rattle.std.specs.FinMap.Entries.{put}
use Rattle.pres_ids.specs.Ids.{client_cmp}
use Rattle.pres_client.specs.Clients.{ClientState}
use Rattle.pres_world.proofs.Found.{looked_up, changed}
use Rattle.pres_world.proofs.members.Members.take_notices.Goals as goal

-- a look-up finds a client or none
not_both : (o : Option ClientState) (c : ClientState) → o ≡ None → o ≡ Some c → ⊥
not_both o c none some = true≢false (ap is_some (sym some ∙ none))

one : (o : Option ClientState) (c d : ClientState) → o ≡ Some c → o ≡ Some d → c ≡ d
one o c d is also = ap (λ x. unwrap_or x c) (sym is ∙ also)

pub returns-in_default-clause-given : goal.returns-in_default-clause-given
returns-in_default-clause-given c = λ d is. absurd (not_both _ d (looked_up c.args.id.now c.self.inside.by_id.entries c.args.self.now None c.in_default.ensures.value c.self.view_is) is)

pub returns-in_default-clause-left : goal.returns-in_default-clause-left
returns-in_default-clause-left c = λ d is. absurd (not_both _ d (looked_up c.args.id.now c.self.inside.by_id.entries c.args.self.now None c.in_default.ensures.value c.self.view_is) is)

pub returns-in_default-clause-stranger : goal.returns-in_default-clause-stranger
returns-in_default-clause-stranger c = λ _. (search rules, (λ i. (c.get_mut.follows.holds-at-none i).entries) ∙ c.self.view_is)

pub returns-clause-given : goal.returns-clause-given
returns-clause-given c = λ d is.
    let old = c.in-Some.member.now in
    let found = looked_up c.args.id.now c.self.inside.by_id.entries c.args.self.now (Some old) c.in-Some.ensures.value c.self.view_is in
    c.take_notices.ensures.given ∙ ap (λ (s : ClientState). s.notices) (one _ old d found is)

pub returns-clause-left : goal.returns-clause-left
returns-clause-left c = λ d is.
    let id = c.args.id.now in
    let es = c.self.inside.by_id.entries in
    let old = c.in-Some.member.now in
    let found = looked_up id es c.args.self.now (Some old) c.in-Some.ensures.value c.self.view_is in
    changed id es c.args.self.now _ old _ c.get_mut.ensures.ordered c.in-Some.ensures.value c.self.view_is ((c.get_mut.follows.holds c.take_notices.new.self).0 ∙ ap (set_value (is_at (client_cmp id)) es) c.take_notices.ensures.left)
    ∙ ap (λ (s : ClientState). put client_cmp id (record s { notices = [] }) c.args.self.now) (one _ old d found is)

pub returns-clause-stranger : goal.returns-clause-stranger
returns-clause-stranger c = λ none. absurd (not_both _ c.in-Some.member.now none (looked_up c.args.id.now c.self.inside.by_id.entries c.args.self.now (Some c.in-Some.member.now) c.in-Some.ensures.value c.self.view_is))
