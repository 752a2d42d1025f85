-- the places so far, and those that are left, are all of them
use Rattle.pres_server.proofs.Resumed.{Listens}
use Rattle.pres_server.proofs.resume.listen_all.Given as goal

abbrev pub invariant-loop-path : goal.invariant-loop-path
invariant-loop-path l = Listens l.session l.fn.listeners l.fn.places l.path-iterator.rest.items l.listeners
