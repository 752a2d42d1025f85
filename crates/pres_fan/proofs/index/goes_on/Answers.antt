use Rattle.std.proofs.Common.{◌≡◌, ◌∷◌, ◌++◌, [], ap, ◌∙◌, length, is_ok, true≢false}
use Rattle.pres_tree.specs.Paths.{segments}
use Rattle.pres_fan.proofs.Walks.{key_path, has_room}
use Rattle.pres_fan.proofs.index.goes_on.Goals as goal

pub returns-in-Ok-join_owned-clause-path : goal.returns-in-Ok-join_owned-clause-path
returns-in-Ok-join_owned-clause-path c =
    let last : c.in-Ok.last ≡ c.args.key.now ∷ [] = c.in-Ok.ensures.path.0 ∙ ap segments c.text.ensures.text ∙ key_path c.args.key.now c.text.ensures.key in
    c.in-Ok-join_owned.ensures.path ∙ ap (λ q. c.args.path.now ++ q) last

pub returns-in-Ok-join_owned-clause-room : goal.returns-in-Ok-join_owned-clause-room
returns-in-Ok-join_owned-clause-room c =
    let last : c.in-Ok.last ≡ c.args.key.now ∷ [] = c.in-Ok.ensures.path.0 ∙ ap segments c.text.ensures.text ∙ key_path c.args.key.now c.text.ensures.key in
    has_room (length c.args.path.now) (length c.in-Ok.last) (ap length last) (λ h. true≢false (ap is_ok (c.in-Ok-join_owned.ensures.deep.1 h)))
