-- the parts so far, and those of the clients that are left, are those of all clients
use Rattle.std.proofs.Common.{◌≡◌, ◌++◌, map}
use Rattle.pres_server.specs.InternalBases.{client_part_above}
use Rattle.pres_server.proofs.index.Index.client_parts.Given as goal

abbrev pub invariant-loop-id : goal.invariant-loop-id
invariant-loop-id l = l.made.items ++ map (client_part_above l.number l.self.retry) l.id-iterator ≡ map (client_part_above l.number l.self.retry) l.initial.id-iterator
