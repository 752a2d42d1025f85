use Rattle.pres_server.proofs.server.Busy.done.Goals as goal

pub join-requires : goal.join-requires
join-requires c = c.self.invariant
