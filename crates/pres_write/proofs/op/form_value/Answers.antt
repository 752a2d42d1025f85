use Rattle.std.proofs.Common.{◌≡◌, ap, ◌∙◌, rules}
use Rattle.std.specs.Prelude.{String, codes, string_bytes}
use Rattle.std.specs.declared.alloc.Global.{Global}
use Rattle.serde_json.proofs.Views.{view-Object}
use Rattle.serde_json.specs.Data.{object, string, put}
use Rattle.serde_json.specs.View.{view, members_view}
use Rattle.serde_json.specs.declared.value.Value.{String as Text, the_lemmas}
use Rattle.pres_write.proofs.op.form_value.Goals as goal

view-text : (s : String Global) → view (Text s) ≡ string (string_bytes s)
view-text s = search (rules, the_lemmas)

pub returns : goal.returns
returns c =
    let ms = members_view c.args.members.entries in
    view-Object c.put-2.new.map
    ∙ ap object (c.in_ok-put-2.ensures.ok
    ∙ (λ i. put (codes "path") (view-text c.args.path i) ((c.in_ok-put.ensures.ok ∙ ap (λ d. put (codes "op") d ms) c.in_ok-try_from_str.ensures) i)))
