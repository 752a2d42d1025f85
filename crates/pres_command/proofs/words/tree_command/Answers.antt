use Rattle.std.proofs.Common.{rules, ap₂, ◌∙◌, ◌≡◌, codes}
use Rattle.std.specs.Prelude.{◌||◌}
use Rattle.std.proofs.lemmas.Result.{IfOk-weaker}
use Rattle.clap.specs.Words.{app_of, new_app, with_rule}
use Rattle.pres_command.specs.Words.{HasNoGlobals, needed}
use Rattle.pres_command.proofs.words.tree_command.Goals as goal

pub returns : goal.returns
returns c =
    let base : app_of c.after_help.result ≡ new_app (codes "tree") = search rules in
    let base_local : HasNoGlobals c.after_help.result = search rules in
    let one : app_of c.in_ok-arg.field-0 ≡ with_rule (new_app (codes "tree")) (needed (codes "FILE")) =
    c.in_ok-arg.ensures.shape c.file_argument.ensures.local ∙ ap₂ with_rule base c.file_argument.ensures.rule in
    let one_local : HasNoGlobals c.in_ok-arg.field-0 = c.in_ok-arg.ensures.globals ∙ ap₂ ◌||◌ base_local c.file_argument.ensures.local in
    record {
      app = IfOk-weaker c.arg-2.result _ _ (λ made adds. adds.shape c.path_argument.ensures.local ∙ ap₂ with_rule one c.path_argument.ensures.rule) c.arg-2.ensures;
      local = IfOk-weaker c.arg-2.result _ _ (λ made adds. adds.globals ∙ ap₂ ◌||◌ one_local c.path_argument.ensures.local) c.arg-2.ensures;
    }
