-- The words of the command line.
use Rattle.std.specs.Prelude.{◌≡◌, ◌≢◌, ◌⊎◌, ◌<◌, ◌^◌, ℕ, Bool, true, false, List, Option, Some, None, [], ◌∷◌, drop, codes, option_map}
use Rattle.std.specs.Option.{SomeIff}
use Rattle.std.specs.Str.Parse.{IsNumeral, digits_value, without_leading_plus}
use Rattle.clap.specs.Words.{App, Row, Rule, Shape, Text, first_of, one_of, new_app, new_rule, subcommand_of, with_rule, with_subcommand, fault_of}
use Rattle.clap.specs.declared.builder.command.Command.{Command}
use Rattle.clap.specs.declared.builder.action.ArgAction.TheVariants.{SetTrue}
use Rattle.clap.specs.declared.error.kind.ErrorKind.{ErrorKind}
use Rattle.clap.specs.declared.error.kind.ErrorKind.TheVariants as kind
use Rattle.clap.specs.declared.builder.command.Command.TheViews.{out-Command}
use Rattle.clap.specs.declared.builder.value_parser.ValueParser.TheVariants as parser
use Rattle.pres_command.specs.declared.words.ClientWords.{ClientWords}
use Rattle.pres_command.specs.declared.words.Listing.{Listing}
use Rattle.pres_command.specs.declared.words.Request.{Request}
use Rattle.pres_command.specs.declared.words.ServerWords.{ServerWords}
use Rattle.pres_command.specs.declared.words.Viewing.{Viewing}
use Rattle.pres_command.specs.declared.words.Request.TheVariants.{Apply, Sim, Serve, Client, Check, Tree, History}

-- ---- the program and its subcommands

abbrev pub needed : Text → Rule
needed id = record (new_rule id) { required = true }

-- a whole number from 1 on
abbrev pub up_to : ℕ → Rule → Rule
up_to most rule = record rule { parser = Some (parser.Unsigned 1 most) }

abbrev pub apply_shape : App
apply_shape = new_app (codes "apply")

abbrev pub sim_shape : App
sim_shape = new_app (codes "sim")

-- after how many connections a server ends
abbrev pub connections_rule : Rule
connections_rule = up_to 1024 (record (new_rule (codes "connections")) { long = Some (codes "connections"); value_names = 1 })

-- that a server ends where the standard input does
abbrev pub ending_rule : Rule
ending_rule = record (new_rule (codes "until-stdin-ends")) { long = Some (codes "until-stdin-ends"); action = Some SetTrue }

abbrev pub serve_shape : App
serve_shape = with_rule (with_rule (with_rule (with_rule (new_app (codes "serve")) (needed (codes "ADDRESS"))) (needed (codes "FILE"))) connections_rule) ending_rule

abbrev pub client_shape : App
client_shape = with_rule (with_rule (with_rule (new_app (codes "client")) (needed (codes "ADDRESS"))) (needed (codes "ID")))
    (up_to 9007199254740991 (needed (codes "INCARNATION")))

abbrev pub check_shape : App
check_shape = with_rule (new_app (codes "check")) (needed (codes "FILE"))

abbrev pub tree_shape : App
tree_shape = with_rule (with_rule (new_app (codes "tree")) (needed (codes "FILE"))) (new_rule (codes "PATH"))

abbrev pub history_shape : App
history_shape = with_rule (with_rule (new_app (codes "history")) (needed (codes "FILE")))
    (up_to 9007199254740991 (record (new_rule (codes "from")) { long = Some (codes "from"); value_names = 1 }))

-- the subcommands that look at a file
abbrev pub with_inspection : App → App
with_inspection app = with_subcommand (with_subcommand (with_subcommand app check_shape.top) tree_shape.top) history_shape.top

abbrev pub on_top : Shape → Shape
on_top s = record s { has_version = true; subcommand_required = true; disable_help_subcommand = true }

abbrev pub program : App
program = with_inspection (with_subcommand (with_subcommand (with_subcommand (with_subcommand
    (record (new_app (codes "presence")) { top = on_top (new_app (codes "presence")).top })
    apply_shape.top) sim_shape.top) serve_shape.top) client_shape.top)

-- no argument of the command is one of its subcommands too
abbrev pub HasNoGlobals : Command → Type 0
HasNoGlobals c = (out-Command c).has_globals ≡ false

-- ---- what words ask for

-- after the program's own name stands `apply` alone
abbrev pub AsksApply : List Text → Type 0
AsksApply words = drop 1 words ≡ codes "apply" ∷ []

-- the words name this subcommand
abbrev Names : Text → List Text → Type 0
Names name words = option_map (λ p. p.0) (subcommand_of program words) ≡ Some name

-- the words ask for a look at a file
abbrev pub AsksInspection : List Text → Type 0
AsksInspection words = Names (codes "check") words ⊎ (Names (codes "tree") words ⊎ Names (codes "history") words)

-- the words ask for another run than that of `apply`: a server, a client, a script, or a look at a file
abbrev pub AsksAnother : List Text → Type 0
AsksAnother words = Names (codes "serve") words ⊎ (Names (codes "client") words ⊎ (Names (codes "sim") words ⊎ AsksInspection words))

-- the words are no mistake, and ask for no help and no version
abbrev pub AreTaken : List Text → Type 0
AreTaken words = fault_of program words ≡ []

-- no help and no version is asked for
abbrev pub IsMistake : ErrorKind → Type 0
IsMistake k = (k ≢ kind.DisplayHelp) × (k ≢ kind.DisplayVersion)

-- the number with this many bits that the text's decimal digits write: none without a text, or where they write none
abbrev pub IsReadAs : ℕ → Option Text → Option ℕ → Type 0
IsReadAs bits None number = number ≡ None
IsReadAs bits (Some text) number =
    SomeIff number (IsNumeral 10 (without_leading_plus text) × (digits_value 10 (without_leading_plus text) < 2 ^ bits)) (digits_value 10 (without_leading_plus text))

-- a flag is given, or it isn't, where the rows say which
abbrev pub IsFlag : Option Text → Bool → Type 0
IsFlag text flag = (text ≡ Some (codes "true") → flag ≡ true) × (text ≡ Some (codes "false") → flag ≡ false)

-- a server is given this address, this file, and how many connections it serves, and whether it ends where the input does
abbrev pub IsServed : ServerWords → List Row → Type 0
IsServed words rows = (first_of (codes "ADDRESS") rows ≡ Some words.serving.address.now)
    × (first_of (codes "FILE") rows ≡ Some words.serving.file.now)
    × IsReadAs 32 (one_of (codes "connections") rows) words.serving.connections
    × IsFlag (one_of (codes "until-stdin-ends") rows) words.until_stdin_ends

-- a client is given this address, this id and this incarnation
abbrev pub IsCalled : ClientWords → List Row → Type 0
IsCalled calling rows = (first_of (codes "ADDRESS") rows ≡ Some calling.address.now)
    × (first_of (codes "ID") rows ≡ Some calling.id.now)
    × IsReadAs 64 (one_of (codes "INCARNATION") rows) (Some calling.incarnation)

-- this file is to be looked at
abbrev pub IsInspected : List ℕ → List Row → Type 0
IsInspected file rows = first_of (codes "FILE") rows ≡ Some file

-- this file's tree, and this path of it, none for the whole
abbrev pub IsViewed : Viewing → List Row → Type 0
IsViewed viewing rows = IsInspected viewing.file.now rows × (first_of (codes "PATH") rows ≡ option_map (λ path. path.now) viewing.path)

-- this file's history, and the number of the first entry, none for all
abbrev pub IsListed : Listing → List Row → Type 0
IsListed listing rows = IsInspected listing.file.now rows × IsReadAs 64 (one_of (codes "from") rows) listing.from

-- the request is that of the subcommand, with what that is given
abbrev pub IsAskedBy : Request → Option (Text × List Row) → Type 0
IsAskedBy Apply asked = (rows : List Row) × (asked ≡ Some (codes "apply", rows))
IsAskedBy Sim asked = (rows : List Row) × (asked ≡ Some (codes "sim", rows))
IsAskedBy (Serve words) asked = (rows : List Row) × (asked ≡ Some (codes "serve", rows)) × IsServed words rows
IsAskedBy (Client calling) asked = (rows : List Row) × (asked ≡ Some (codes "client", rows)) × IsCalled calling rows
IsAskedBy (Check file) asked = (rows : List Row) × (asked ≡ Some (codes "check", rows)) × IsInspected file.now rows
IsAskedBy (Tree viewing) asked = (rows : List Row) × (asked ≡ Some (codes "tree", rows)) × IsViewed viewing rows
IsAskedBy (History listing) asked = (rows : List Row) × (asked ≡ Some (codes "history", rows)) × IsListed listing rows
