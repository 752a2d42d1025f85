-- what the values that are still to come make of the watches is what all make
use Rattle.std.proofs.Common.{◌≡◌, fold}
use Rattle.pres_client.specs.ReceivedMessages.{tell_live}
use Rattle.pres_client.proofs.receive.tell_all.Given as goal

abbrev pub invariant-loop-told : goal.invariant-loop-told
invariant-loop-told l = fold tell_live l.watches l.told-iterator.rest.items ≡ fold tell_live l.fn.watches l.fn.values.items
