-- what was asked for so far, and what the lines that are still to come ask for, are the first and what the lines ask for,
-- and the client is settled
use Rattle.std.proofs.Common.{◌≡◌, ◌∷◌, ◌++◌, List, Option, Some}
use Rattle.pres_client.specs.declared.call.Call.{Call}
use Rattle.pres_client.specs.declared.call.Call.TheVariants.{GoOnline}
use Rattle.pres_client_connection.specs.DrivenClients.{Drives, IsSettled, asked_in}
use Rattle.pres_client_connection.proofs.drive.drive.Given as goal

abbrev pub invariant-loop-line : goal.invariant-loop-line
invariant-loop-line g l = (asked : List (Option Call)) × Drives l.fn.client asked l.client (g.W.Write.contents l.fn.output) (g.W.Write.contents l.output) × (asked ++ asked_in l.line-iterator.rest.items ≡ Some GoOnline ∷ asked_in l.fn.lines.items) × IsSettled l.client
