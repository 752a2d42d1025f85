use Rattle.std.proofs.Common.{◌≡◌, ◌∙◌, sym, length, vec_len, arith}
use Rattle.std.proofs.lemmas.Bool.{eqb-true}
use Rattle.pres_hub.proofs.Gathered.{first_alone}
use Rattle.pres_hub.proofs.center.Core.say_some.Goals as goal

pub returns-then-is_empty-clause-said : goal.returns-then-is_empty-clause-said
returns-then-is_empty-clause-said g c =
    let K = g.K.Keeper in
    let none : length c.gather.new.waiting.items ≡ 0 = omega (arith, eqb-true (vec_len c.gather.new.waiting) 0 (sym c.is_empty.ensures ∙ c.if-is_empty.true), c.gather.new.waiting.ok) in
    first_alone K.works K.keeps _ c.args.requests.now.items c.gather.new.requests.items c.pop_front.new.self.items c.gather.new.waiting.items c.gather.new.inputs.items c.in-Some.request c.say_alone.result c.args.answers.now.items c.push_reserved.new.self.items
    c.args.now c.args.self.now c.say_alone.new.self c.gather.ensures.gathers none c.in-Some.ensures.items c.push_reserved.ensures.items c.say_alone.ensures.said
