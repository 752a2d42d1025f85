-- What the runs of the subcommands print, by the words that start them.
use Rattle.std.specs.Prelude.{◌≡◌, ℕ, List, [], ◌++◌, Option, Some, option_map, unwrap_or}
use Rattle.std.specs.Io.KnownBytes.{Appends}
use Rattle.clap.specs.Words.{Row, Text, subcommand_of}
use Rattle.pres_service.specs.Outputs.{listening_line, number_line}
use Rattle.pres_service.specs.ClientRuns.{HasRunClient}
use Rattle.pres_inspect.specs.Reports.{PrintsSomeHistory, history_text, tree_text}
use Rattle.pres_tree.specs.Paths.{Path, segments}
use Rattle.pres_command.specs.Words.{AreTaken, IsCalled, IsListed, IsServed, IsViewed, program}
use Rattle.pres_command.specs.declared.words.ClientWords.{ClientWords}
use Rattle.pres_command.specs.declared.words.Listing.{Listing}
use Rattle.pres_command.specs.declared.words.ServerWords.{ServerWords}
use Rattle.pres_command.specs.declared.words.Viewing.{Viewing}

-- the words are taken, and ask for this subcommand, which is given these rows
abbrev pub Asks : Text → List Row → List Text → Type 0
Asks name rows words = AreTaken words × (subcommand_of program words ≡ Some (name, rows))

-- where the server listened, as it was given, and the number of an entry
abbrev pub HasServed : List Row → Option Text → Option Text → Type 0
HasServed rows old new = (words : ServerWords) × IsServed words rows × ((number : ℕ) × Appends old new (listening_line words.serving.address.now ++ number_line number))

-- what a new client with the given id and incarnation prints when it does what the lines of the input say
abbrev pub HasCalled : List Row → Option Text → Option Text → Option Text → Type 0
HasCalled rows input old new = (calling : ClientWords) × IsCalled calling rows × HasRunClient calling.id.now calling.incarnation input old new

-- the path that was given, or the root
abbrev pub path_given : Viewing → Path
path_given viewing = segments (unwrap_or (option_map (λ path. path.now) viewing.path) [])

-- the number that was given, or 1
abbrev pub first_given : Listing → ℕ
first_given listing = unwrap_or listing.from 1

-- the value at the path that was given, of the tree of a server
abbrev pub HasViewed : List Row → Option Text → Option Text → Type 0
HasViewed rows old new = (viewing : Viewing) × IsViewed viewing rows × PrintsSomeHistory (tree_text (path_given viewing)) old new

-- the entries of some history, from the number that was given on, and its checkpoint
abbrev pub HasListed : List Row → Option Text → Option Text → Type 0
HasListed rows old new = (listing : Listing) × IsListed listing rows × PrintsSomeHistory (history_text (first_given listing)) old new
