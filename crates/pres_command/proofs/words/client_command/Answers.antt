use Rattle.std.proofs.Common.{rules, ap₂, ◌∙◌, ◌≡◌, codes}
use Rattle.std.specs.Prelude.{◌||◌}
use Rattle.std.proofs.lemmas.Result.{IfOk-weaker}
use Rattle.clap.specs.Words.{app_of, new_app, with_rule}
use Rattle.pres_command.specs.Words.{HasNoGlobals, needed}
use Rattle.pres_command.proofs.words.client_command.Goals as goal

pub returns : goal.returns
returns c =
    let base : app_of c.after_help.result ≡ new_app (codes "client") = search rules in
    let base_local : HasNoGlobals c.after_help.result = search rules in
    let one : app_of c.in_ok-arg.field-0 ≡ with_rule (new_app (codes "client")) (needed (codes "ADDRESS")) =
    c.in_ok-arg.ensures.shape c.needed_argument.ensures.local ∙ ap₂ with_rule base c.needed_argument.ensures.rule in
    let one_local : HasNoGlobals c.in_ok-arg.field-0 = c.in_ok-arg.ensures.globals ∙ ap₂ ◌||◌ base_local c.needed_argument.ensures.local in
    let two : app_of c.in_ok-arg-2.field-0 ≡ with_rule (with_rule (new_app (codes "client")) (needed (codes "ADDRESS"))) (needed (codes "ID")) =
    c.in_ok-arg-2.ensures.shape c.needed_argument-2.ensures.local ∙ ap₂ with_rule one c.needed_argument-2.ensures.rule in
    let two_local : HasNoGlobals c.in_ok-arg-2.field-0 = c.in_ok-arg-2.ensures.globals ∙ ap₂ ◌||◌ one_local c.needed_argument-2.ensures.local in
    record {
      app = IfOk-weaker c.arg-3.result _ _ (λ made adds. adds.shape c.incarnation_argument.ensures.local ∙ ap₂ with_rule two c.incarnation_argument.ensures.rule) c.arg-3.ensures;
      local = IfOk-weaker c.arg-3.result _ _ (λ made adds. adds.globals ∙ ap₂ ◌||◌ two_local c.incarnation_argument.ensures.local) c.arg-3.ensures;
    }
