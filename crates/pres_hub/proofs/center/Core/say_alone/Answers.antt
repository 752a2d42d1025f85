use Rattle.std.proofs.Common.{◌∙◌, arith}
use Rattle.pres_hub.proofs.Booked.{said_on, said_session, more_so_far}
use Rattle.pres_hub.proofs.CoreHistories.{goes_twice}
use Rattle.pres_hub.proofs.center.Core.say_alone.Goals as goal

pub messages-preserved : goal.messages-preserved
messages-preserved g c =
    let K = g.K.Keeper in
    let i = c.messages.invariant in
    let e = c.say.ensures in
    record {
      so_far =
          more_so_far K.works K.keeps c.args.request.seat c.messages.seat c.say.new.seat c.args.request.messages c.messages.messages.items c.pop_front.new.self.items c.in-Some.message c.messages.said.items c.push_reserved.new.self.items c.say.result c.args.now c.args.self.now c.messages.self c.say.new.self
          i.so_far c.in-Some.ensures.items c.push_reserved.ensures.items
          (said_on K.works K.keeps c.messages.seat c.say.new.seat c.in-Some.message c.say.result c.args.now c.messages.self c.say.new.self e.number e.heard e.refused e.kept e.stays e.lines e.start e.carries e.still);
      session = said_session K.works K.keeps c.messages.seat c.say.new.seat c.in-Some.message c.say.result c.args.now c.messages.self c.say.new.self e.heard e.kept ∙ i.session;
      room = omega (arith, i.room, c.in-Some.ensures.cases, c.push_reserved.ensures.len, c.push_reserved.ensures.capacity);
      rises = omega (arith, i.rises, e.rises);
      base = e.base ∙ i.base;
      start = e.start ∙ i.start;
      goes_on = goes_twice K.works K.keeps c.args.self.now c.messages.self c.say.new.self i.goes_on e.goes_on;
    }
