use Rattle.std.proofs.Common.{◌≡◌, ◌∙◌, sym, refl, length, arith}
use Rattle.std.proofs.lemmas.Bool.{eqb-true}
use Rattle.std.specs.VecDeque.{deque_len}
use Rattle.pres_hub.proofs.CoreHistories.{goes_none, goes_twice}
use Rattle.pres_hub.proofs.Gathered.{first_none, first_then, first_all, none_left}
use Rattle.pres_hub.proofs.center.Core.say_all.Goals as goal

pub requests-init : goal.requests-init
requests-init g c =
    let K = g.K.Keeper in
    record {
      said = first_none K.works K.keeps c.args.requests.now.items c.args.answers.now.items c.args.now c.args.self.now;
      room = c.requires.room;
      rises = omega arith;
      base = refl;
      start = refl;
      goes_on = goes_none K.works K.keeps c.args.self.now;
    }

pub requests-preserved : goal.requests-preserved
requests-preserved g c =
    let K = g.K.Keeper in
    let i = c.requests.invariant in
    let e = c.say_some.ensures in
    record {
      said =
          first_then K.works K.keeps c.args.requests.now.items c.requests.requests.items c.say_some.new.requests.items c.args.answers.now.items c.requests.answers.items c.say_some.new.answers.items c.args.now c.args.self.now c.requests.self
          c.say_some.new.self i.said e.said;
      room = e.room;
      rises = omega (arith, i.rises, e.rises);
      base = e.base ∙ i.base;
      start = e.start ∙ i.start;
      goes_on = goes_twice K.works K.keeps c.args.self.now c.requests.self c.say_some.new.self i.goes_on e.goes_on;
    }

pub returns-clause-said : goal.returns-clause-said
returns-clause-said g c =
    let K = g.K.Keeper in
    let none : length c.requests.requests.items ≡ 0 = omega (arith, eqb-true (deque_len c.requests.requests) 0 (sym c.is_empty.ensures ∙ c.requests-test.false), c.requests.requests.ok) in
    first_all K.works K.keeps c.args.requests.now.items c.requests.requests.items c.args.answers.now.items c.requests.answers.items c.args.now c.args.self.now c.requests.self c.requests.invariant.said (none_left c.requests.requests.items none)
