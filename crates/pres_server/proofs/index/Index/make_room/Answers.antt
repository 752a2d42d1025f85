use Rattle.std.proofs.Common.{subst}
use Rattle.pres_server.specs.InternalGrowth.{FindsOpen}
use Rattle.pres_server.proofs.Alike.{room_alike}
use Rattle.pres_server.proofs.index.Index.make_room.Goals as goal

pub returns-in_err-make_room-in-Ended-clause-alike : goal.returns-in_err-make_room-in-Ended-clause-alike
returns-in_err-make_room-in-Ended-clause-alike c =
    let old = c.args.self.now in
    room_alike old c.make_room.new.self c.in-Ended.session.client (subst (FindsOpen old) c.in-Ended.is c.requires) c.make_room.ensures.live c.make_room.ensures.others

pub returns-in_ok-make_room-in-Ended-clause-alike : goal.returns-in_ok-make_room-in-Ended-clause-alike
returns-in_ok-make_room-in-Ended-clause-alike c =
    let old = c.args.self.now in
    room_alike old c.make_room.new.self c.in-Ended.session.client (subst (FindsOpen old) c.in-Ended.is c.requires) c.make_room.ensures.live c.make_room.ensures.others
