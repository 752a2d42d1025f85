use Rattle.std.proofs.Common.{rules, ap, ap₂, ◌∙◌, ◌≡◌, codes}
use Rattle.std.proofs.lemmas.Result.{IfOk-weaker}
use Rattle.clap.specs.Words.{App, app_of, new_app, with_subcommand}
use Rattle.pres_command.specs.Words.{apply_shape, client_shape, on_top, serve_shape, sim_shape, with_inspection}
use Rattle.pres_command.proofs.words.command.Goals as goal

abbrev base : App
base = record (new_app (codes "presence")) { top = on_top (new_app (codes "presence")).top }

pub returns : goal.returns
returns c =
    let base_is : app_of c.disable_help_subcommand.result ≡ base = search rules in
    let one : app_of c.in_ok-subcommand.field-0 ≡ with_subcommand base apply_shape.top =
    c.in_ok-subcommand.ensures.shape c.apply_command.ensures.local ∙ ap₂ with_subcommand base_is (ap (λ (a : App). a.top) c.apply_command.ensures.app) in
    let two : app_of c.in_ok-command.command ≡ with_subcommand (with_subcommand base apply_shape.top) sim_shape.top =
    c.in_ok-command.ensures.shape c.sim_command.ensures.local ∙ ap₂ with_subcommand one (ap (λ (a : App). a.top) c.sim_command.ensures.app) in
    let three : app_of c.in_ok-command-2.command ≡ with_subcommand (with_subcommand (with_subcommand base apply_shape.top) sim_shape.top) serve_shape.top =
    c.in_ok-command-2.ensures serve_shape c.serve_command.ensures.app c.serve_command.ensures.local ∙ ap (λ a. with_subcommand a serve_shape.top) two in
    let four : app_of c.in_ok-command-3.command ≡ with_subcommand (with_subcommand (with_subcommand (with_subcommand base apply_shape.top) sim_shape.top) serve_shape.top) client_shape.top =
    c.in_ok-command-3.ensures client_shape c.client_command.ensures.app c.client_command.ensures.local ∙ ap (λ a. with_subcommand a client_shape.top) three in
    IfOk-weaker c.with_inspection.result _ _ (λ made adds. adds ∙ ap with_inspection four) c.with_inspection.ensures
