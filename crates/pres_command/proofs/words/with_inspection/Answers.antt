use Rattle.std.proofs.Common.{ap, ◌∙◌, ◌≡◌}
use Rattle.std.proofs.lemmas.Result.{IfOk-weaker}
use Rattle.clap.specs.Words.{app_of, with_subcommand}
use Rattle.pres_command.specs.Words.{check_shape, history_shape, tree_shape}
use Rattle.pres_command.proofs.words.with_inspection.Goals as goal

pub returns : goal.returns
returns c =
    let one : app_of c.in_ok-command.command ≡ with_subcommand (app_of c.args.command) check_shape.top =
    c.in_ok-command.ensures check_shape c.check_command.ensures.app c.check_command.ensures.local in
    let two : app_of c.in_ok-command-2.command ≡ with_subcommand (with_subcommand (app_of c.args.command) check_shape.top) tree_shape.top =
    c.in_ok-command-2.ensures tree_shape c.tree_command.ensures.app c.tree_command.ensures.local ∙ ap (λ a. with_subcommand a tree_shape.top) one in
    IfOk-weaker c.with_made-3.result _ _ (λ made adds. adds ∙ ap (λ a. with_subcommand a history_shape.top) two) (c.with_made-3.ensures history_shape c.history_command.ensures.app c.history_command.ensures.local)
