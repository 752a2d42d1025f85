use Rattle.std.proofs.Common.{rules, ap₂, ◌∙◌, ◌≡◌, codes}
use Rattle.std.specs.Prelude.{◌||◌}
use Rattle.std.proofs.lemmas.Result.{IfOk-weaker}
use Rattle.clap.specs.Words.{app_of, new_app, with_rule}
use Rattle.pres_command.specs.Words.{HasNoGlobals}
use Rattle.pres_command.proofs.words.check_command.Goals as goal

pub returns : goal.returns
returns c =
    let base : app_of c.after_help.result ≡ new_app (codes "check") = search rules in
    let base_local : HasNoGlobals c.after_help.result = search rules in
    record {
      app = IfOk-weaker c.arg.result _ _ (λ made adds. adds.shape c.file_argument.ensures.local ∙ ap₂ with_rule base c.file_argument.ensures.rule) c.arg.ensures;
      local = IfOk-weaker c.arg.result _ _ (λ made adds. adds.globals ∙ ap₂ ◌||◌ base_local c.file_argument.ensures.local) c.arg.ensures;
    }
