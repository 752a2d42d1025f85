use Rattle.std.proofs.Common.{◌≡◌, ap, subst, ◌∙◌}
use Rattle.std.specs.Prelude.{IfOk, codes, string_bytes}
use Rattle.serde_json.specs.Data.{Members, object, string, put, member, no_members}
use Rattle.serde_json.specs.View.{view, members_view}
use Rattle.pres_write.proofs.op.tx_form.Goals as goal

pub returns : goal.returns
returns c =
    let expect : members_view c.put.new.map.entries ≡ member (codes "expect") (view c.args.expect) no_members = c.in-Ok.ensures.ok ∙ ap (λ es. put (codes "expect") (view c.args.expect) (members_view es)) c.new-members.ensures.empty in
    let members : members_view c.put-2.new.map.entries ≡ member (codes "expect") (view c.args.expect) (member (codes "value") (view c.args.value) no_members) = c.in_ok-put.ensures.ok ∙ ap (put (codes "value") (view c.args.value)) expect in
    subst (λ (ms : Members). IfOk c.form_value.result (λ made. view made ≡ object (put (codes "path") (string (string_bytes c.args.path)) (put (codes "op") (string (codes "tx")) ms)))) members c.form_value.ensures
