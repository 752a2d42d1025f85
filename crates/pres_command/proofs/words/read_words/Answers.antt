use Rattle.std.proofs.Common.{rules, ap, subst, sym, ◌∙◌, ◌≡◌, true, List, map, Result, Ok, Err, IfErr, MatchResult}
use Rattle.std.specs.Result.{IsErrAnd}
use Rattle.clap.specs.Words.{app_of, kind_of}
use Rattle.clap.specs.Walk.{Text}
use Rattle.clap.specs.Takes.{takes}
use Rattle.std.specs.Prelude.{unwrap_or}
use Rattle.std.proofs.lemmas.Option.{none-some}
use Rattle.pres_command.specs.Words.{AreTaken, IsAskedBy, IsMistake}
use Rattle.pres_command.proofs.Asked.{asked_is_apply, asked_is_taken, parsed_asks, parsed_is_taken, refused_is_mistake}
use Rattle.pres_command.proofs.words.read_words.Goals as goal

-- what `?` passes up
passed : {T E : Type 0} (r : Result T E) (e : E) (P : T → Type 0) (Q : E → Type 0) → IsErrAnd r (λ y. y ≡ e) → Q e → MatchResult r P Q
passed (Ok x) e P Q is q = absurd is
passed (Err y) e P Q is q = subst Q (sym is) q

passed_err : {T E : Type 0} (r : Result T E) (e : E) (Q : E → Type 0) → IsErrAnd r (λ y. y ≡ e) → Q e → IfErr r Q
passed_err (Ok x) e Q is q = absurd is
passed_err (Err y) e Q is q = subst Q (sym is) q

pub returns-in_err-matches : goal.returns-in_err-matches
returns-in_err-matches c = record {
  apply = λ asks.
      let words : List Text = map (λ w. w.now) c.args.words.now in
      let taken : takes (app_of c.in_ok-command.command) words ≡ true = ap (λ a. takes a words) c.in_ok-command.ensures ∙ asked_is_taken words asks in
      passed c.from_residual-in_err-matches.result c.in_err-matches.field-0.0 _ (λ e. kind_of e ≡ _) c.from_residual-in_err-matches.ensures.1 (c.in_err-matches.ensures.passes taken);
  taken = search rules;
  mistaken =
      let words : List Text = map (λ w. w.now) c.args.words.now in
      let error = c.in_err-matches.field-0.0 in
      passed_err c.from_residual-in_err-matches.result error (λ e. AreTaken words → IsMistake (kind_of e)) c.from_residual-in_err-matches.ensures.1
      (refused_is_mistake (app_of c.in_ok-command.command) words error c.in_ok-command.ensures c.in_err-matches.ensures.kinds);
  asked = search rules;
}

pub returns-in-Some-request_of-clause-apply : goal.returns-in-Some-request_of-clause-apply
returns-in-Some-request_of-clause-apply c = λ asks.
    ap (λ o. unwrap_or o c.in-Some-request_of.request)
    (c.in-Some-request_of.ensures.apply (asked_is_apply _ _ _ _ c.in_ok-command.ensures c.in_ok-matches.ensures.matches c.in-Some.ensures.name asks))

pub returns-in-Some-request_of-clause-taken : goal.returns-in-Some-request_of-clause-taken
returns-in-Some-request_of-clause-taken c = parsed_is_taken _ _ c.in_ok-command.ensures c.in_ok-matches.ensures.kinds

pub returns-in-Some-request_of-clause-asked : goal.returns-in-Some-request_of-clause-asked
returns-in-Some-request_of-clause-asked c =
    subst (IsAskedBy c.in-Some-request_of.request)
    (parsed_asks _ _ _ _ _ c.in_ok-command.ensures c.in_ok-matches.ensures.matches c.in-Some.ensures.name c.in-Some.ensures.rows)
    c.in-Some-request_of.ensures.asked

pub returns-clause-apply : goal.returns-clause-apply
returns-clause-apply c = λ asks.
    absurd (none-some _ (c.in-None.ensures.apply (asked_is_apply _ _ _ _ c.in_ok-command.ensures c.in_ok-matches.ensures.matches c.in-Some.ensures.name asks)))
