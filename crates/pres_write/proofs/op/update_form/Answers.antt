use Rattle.std.proofs.Common.{◌≡◌, ap, subst, ◌∙◌}
use Rattle.std.specs.Prelude.{IfOk, codes, string_bytes}
use Rattle.serde_json.specs.Data.{Members, object, string, put, member, no_members}
use Rattle.serde_json.specs.View.{view, members_view}
use Rattle.pres_write.proofs.op.update_form.Goals as goal

pub returns : goal.returns
returns c =
    let members : members_view c.put.new.map.entries ≡ member (codes "values") (view c.args.values) no_members = c.in_ok-put.ensures.ok ∙ ap (λ es. put (codes "values") (view c.args.values) (members_view es)) c.new-members.ensures.empty in
    subst (λ (ms : Members). IfOk c.form_value.result (λ made. view made ≡ object (put (codes "path") (string (string_bytes c.args.path)) (put (codes "op") (string (codes "update")) ms)))) members c.form_value.ensures
