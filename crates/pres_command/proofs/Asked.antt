-- The words that ask for `apply` are taken.
use Rattle.std.proofs.Common.{◌≡◌, ap, ap₂, sym, subst, refl, ◌∙◌, true, inl, inr, List, [], ◌∷◌, codes, Option, Some, None, option_map}
use Rattle.std.specs.Prelude.{◌&&◌}
use Rattle.std.proofs.lemmas.Option.{none-some}
use Rattle.clap.specs.Simple.{built, is_simple, names_of, entered, subcommand_of}
use Rattle.clap.specs.Takes.{takes, built_takes}
use Rattle.clap.specs.Walk.{stop_after, nothing_held, Text, Row}
use Rattle.std.specs.Prelude.{Box, unwrap_or}
use Rattle.std.specs.Box.{box_value}
use Rattle.clap.specs.Words.{App, HasMatchesOf, subcommand_name_of, subcommand_rows, subcommand_rows_of}
use Rattle.clap.specs.declared.parser.matches.ArgMatches.{ArgMatches}
use Rattle.clap.specs.declared.parser.matches.ArgMatches.TheViews.{out-ArgMatches, out-SubCommand}
use Rattle.clap.specs.declared.parser.matches.SubCommand.{SubCommand}
use Rattle.clap.proofs.OnLiterals.{clap_on_literals}
use Rattle.clap.specs.Words.{fault_of, is_simple_and_free, kind_of, HasKind}
use Rattle.clap.specs.declared.error.Error.{Error}
use Rattle.clap.specs.declared.error.kind.ErrorKind.{ErrorKind}
use Rattle.clap.specs.declared.error.kind.ErrorKind.TheVariants as kind
use Rattle.pres_command.specs.Words.{AreTaken, AsksApply, IsMistake, program}

pub simple : is_simple program ≡ true
unfolding clap_on_literals
simple = refl

abbrev apply_alone : List Text
apply_alone = codes "apply" ∷ []

taken_alone : (is_simple program && built_takes (built program) nothing_held apply_alone) ≡ true
unfolding clap_on_literals
taken_alone = refl

pub asked_is_taken : (words : List Text) → AsksApply words → takes program words ≡ true
asked_is_taken words e = ap (λ ws. is_simple program && built_takes (built program) nothing_held ws) e ∙ taken_alone

abbrev name_after : List Text → Option Text
name_after words = option_map (λ p. p.0) (entered (built program) (stop_after (built program).top.rules (names_of (built program)) words))

named_alone : name_after apply_alone ≡ Some (codes "apply")
unfolding clap_on_literals
named_alone = refl

pub asked_name : (words : List Text) → AsksApply words → option_map (λ p. p.0) (subcommand_of program words) ≡ Some (codes "apply")
asked_name words e = ap name_after e ∙ named_alone

-- ---- the subcommand of a parse

joined : {A B : Type 0} (o : Option (A × B)) (a : A) (b : B) → option_map (λ p. p.0) o ≡ Some a → option_map (λ p. p.1) o ≡ Some b → o ≡ Some (a, b)
joined None a b e r = absurd (none-some a e)
joined (Some (x, y)) a b e r = ap₂ (λ u v. Some (u, v)) (ap (λ o. unwrap_or o x) e) (ap (λ o. unwrap_or o y) r)

name_in_rows : {Z : Type 0} (o : Option (Box SubCommand Z)) → option_map (λ p. p.0) (subcommand_rows o) ≡ option_map (λ b. (out-SubCommand (box_value b)).name.now) o
name_in_rows None = refl
name_in_rows (Some b) = refl

-- a parse whose subcommand has this name and these rows has both
pub parsed_subcommand : (m : ArgMatches) (name : Text) (rows : List Row) → Some name ≡ subcommand_name_of m
    → Some rows ≡ option_map (λ p. p.1) (subcommand_rows (out-ArgMatches m).subcommand) → subcommand_rows_of m ≡ Some (name, rows)
parsed_subcommand m name rows is_name are_rows =
    joined (subcommand_rows_of m) name rows (name_in_rows (out-ArgMatches m).subcommand ∙ sym is_name) (sym are_rows)

pub asked_is_apply : (app : App) (words : List Text) (m : ArgMatches) (name : Text) → app ≡ program → HasMatchesOf app words m
    → Some name ≡ subcommand_name_of m → AsksApply words → name ≡ codes "apply"
asked_is_apply app words m name same has named asks =
    let found = (has (ap is_simple same ∙ simple)).1 in
    let e : Some name ≡ Some (codes "apply") = named ∙ sym (name_in_rows (out-ArgMatches m).subcommand)
    ∙ ap (option_map (λ p. p.0)) (found ∙ ap (λ a. subcommand_of a words) same) ∙ asked_name words asks in
    ap (λ o. unwrap_or o name) e

-- what a parse of the words found is what they ask for
pub parsed_asks : (app : App) (words : List Text) (m : ArgMatches) (name : Text) (rows : List Row) → app ≡ program → HasMatchesOf app words m
    → Some name ≡ subcommand_name_of m → Some rows ≡ option_map (λ p. p.1) (subcommand_rows (out-ArgMatches m).subcommand) → Some (name, rows) ≡ subcommand_of program words
parsed_asks app words m name rows same has is_name are_rows =
    sym (parsed_subcommand m name rows is_name are_rows) ∙ (has (ap is_simple same ∙ simple)).1 ∙ ap (λ a. subcommand_of a words) same

-- ---- words that are taken

free : is_simple_and_free program ≡ true
unfolding clap_on_literals
free = refl

-- a parse that succeeds found no fault
pub parsed_is_taken : (app : App) (words : List Text) → app ≡ program → (is_simple_and_free app ≡ true → fault_of app words ≡ []) → AreTaken words
parsed_is_taken app words same none = ap (λ a. fault_of a words) (sym same) ∙ none (ap is_simple_and_free same ∙ free)

memory_is_mistake : (k : ErrorKind) → k ≡ kind.OutOfMemory → IsMistake k
memory_is_mistake k is = (λ help. absurd cc, λ version. absurd cc)

no_kind : (e : Error) → HasKind [] e → IsMistake (kind_of e)
no_kind e (inl memory) = memory_is_mistake (kind_of e) memory
no_kind e (inr none) = absurd none

-- what a parse of words that are taken fails for
pub refused_is_mistake : (app : App) (words : List Text) (e : Error) → app ≡ program → (is_simple_and_free app ≡ true → HasKind (fault_of app words) e) → AreTaken words → IsMistake (kind_of e)
refused_is_mistake app words e same has taken =
    no_kind e (subst (λ kinds. HasKind kinds e) (ap (λ a. fault_of a words) same ∙ taken) (has (ap is_simple_and_free same ∙ free)))

-- mistakes, and words that ask for help or the version
no_word : fault_of program (codes "presence" ∷ []) ≡ kind.MissingSubcommand ∷ []
unfolding clap_on_literals
no_word = refl

help_asked : fault_of program (codes "presence" ∷ codes "--help" ∷ []) ≡ kind.DisplayHelp ∷ []
unfolding clap_on_literals
help_asked = refl

version_asked : fault_of program (codes "presence" ∷ codes "--version" ∷ []) ≡ kind.DisplayVersion ∷ []
unfolding clap_on_literals
version_asked = refl

other_word : fault_of program (codes "presence" ∷ codes "sreve" ∷ []) ≡ kind.UnknownArgument ∷ kind.InvalidSubcommand ∷ []
unfolding clap_on_literals
other_word = refl

further_word : fault_of program (codes "presence" ∷ codes "apply" ∷ codes "x" ∷ []) ≡ kind.UnknownArgument ∷ []
unfolding clap_on_literals
further_word = refl

no_file : fault_of program (codes "presence" ∷ codes "serve" ∷ codes "127.0.0.1:9000" ∷ []) ≡ kind.MissingRequiredArgument ∷ []
unfolding clap_on_literals
no_file = refl

no_connections : fault_of program (codes "presence" ∷ codes "serve" ∷ codes "127.0.0.1:9000" ∷ codes "f" ∷ codes "--connections" ∷ codes "0" ∷ []) ≡ kind.ValueValidation ∷ []
unfolding clap_on_literals
no_connections = refl

no_incarnation : fault_of program (codes "presence" ∷ codes "client" ∷ codes "127.0.0.1:9000" ∷ codes "alice" ∷ codes "0" ∷ []) ≡ kind.ValueValidation ∷ []
unfolding clap_on_literals
no_incarnation = refl
