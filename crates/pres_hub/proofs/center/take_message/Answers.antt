use Rattle.std.proofs.Common.{◌≡◌, ◌+◌, ◌∙◌, ap, unwrap_or, arith}
use Rattle.pres_hub.specs.CoreCalls.{accepted_of}
use Rattle.pres_hub.proofs.SayAnswered.{was_accepted, was_none}
use Rattle.pres_hub.proofs.center.take_message.Goals as goal
use Rattle.pres_hub.proofs.center.take_message.Goals.{then-after-before+in-Some, else-after-before}

pub returns-clause-seat : goal.returns-clause-seat
returns-clause-seat g c =
    let old = c.args.dispatcher.now.run.server in
    let new = c.turn.new.self.run.server in
    let answered = c.in_ok-turn.ensures.answered in
    let summed = c.number-before.ensures.summed in
    let before = c.number-before.ensures.number in
    let after = c.number-after.ensures.number in
    let n = accepted_of old c.args.up c.args.now in
    elim c.if-after-before.branch [
      | then-after-before+in-Some w ↦
          let was = was_accepted old new c.args.up c.args.now c.args.seat.now.q c.args.dispatcher.now.run.number c.turn.new.self.run.number answered.0 c.requires.hello c.requires.abreast answered.1 c.number-before.ensures.counted c.number-after.ensures.counted (omega (arith, w.if-after-before.true, before, after)) in
          let one : n ≡ 1 = was.0 in
          let next : w.up_to.result ≡ c.args.seat.now.q + 1 = w.up_to.ensures ∙ ap (λ o. unwrap_or o 0) (w.in-Some.ensures ∙ was.1) in
          let q : w.up_to.result ≡ c.args.seat.now.q + n = omega (arith, next, one) in
          let made : c.args.seat.now.made + 1 ≡ c.args.seat.now.made + n = omega (arith, one) in
          w.seat-is ∙ w.add.ensures.seat ∙ (λ i. record { session = c.args.seat.now.session; q = q i; seen = c.args.seat.now.seen; made = made i })
      | else-after-before w ↦
          let none : n ≡ 0 = was_none old new c.args.up c.args.now c.args.dispatcher.now.run.number c.turn.new.self.run.number answered.0 answered.1 summed c.number-before.ensures.counted c.number-after.ensures.counted (omega (arith, w.if-after-before.false, before, after)) in
          let q : c.args.seat.now.q ≡ c.args.seat.now.q + n = omega (arith, none) in
          let made : c.args.seat.now.made ≡ c.args.seat.now.made + n = omega (arith, none) in
          w.seat-is ∙ (λ i. record { session = c.args.seat.now.session; q = q i; seen = c.args.seat.now.seen; made = made i })
    ]

pub returns-clause-tally : goal.returns-clause-tally
returns-clause-tally g c =
    let old = c.args.dispatcher.now.run.server in
    let new = c.turn.new.self.run.server in
    let answered = c.in_ok-turn.ensures.answered in
    let summed = c.number-before.ensures.summed in
    let before = c.number-before.ensures.number in
    let after = c.number-after.ensures.number in
    let n = accepted_of old c.args.up c.args.now in
    elim c.if-after-before.branch [
      | then-after-before+in-Some w ↦
          let one : n ≡ 1 = (was_accepted old new c.args.up c.args.now c.args.seat.now.q c.args.dispatcher.now.run.number c.turn.new.self.run.number answered.0 c.requires.hello c.requires.abreast answered.1 c.number-before.ensures.counted c.number-after.ensures.counted (omega (arith, w.if-after-before.true, before, after))).0 in
          let all : c.args.tally.now.accepted + 1 ≡ c.args.tally.now.accepted + n = omega (arith, one) in
          w.tally-is ∙ w.add.ensures.tally ∙ (λ i. record { accepted = all i; seats = c.args.tally.now.seats; out = c.args.tally.now.out })
      | else-after-before w ↦
          let none : n ≡ 0 = was_none old new c.args.up c.args.now c.args.dispatcher.now.run.number c.turn.new.self.run.number answered.0 answered.1 summed c.number-before.ensures.counted c.number-after.ensures.counted (omega (arith, w.if-after-before.false, before, after)) in
          let all : c.args.tally.now.accepted ≡ c.args.tally.now.accepted + n = omega (arith, none) in
          w.tally-is ∙ (λ i. record { accepted = all i; seats = c.args.tally.now.seats; out = c.args.tally.now.out })
    ]
