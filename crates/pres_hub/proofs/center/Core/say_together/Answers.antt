use Rattle.std.proofs.Common.{◌≡◌, ◌∙◌, ◌<◌, ◌++◌, sym, subst, refl, ap, map, length, arith}
use Rattle.pres_hub.specs.Cores.{GoesOn}
use Rattle.pres_hub.specs.CoreGroups.{AreSaid, unheard}
use Rattle.pres_hub.specs.InternalGroups.{FitTogether, answers_of, unheard_of}
use Rattle.pres_hub.proofs.Booked.{unheard_all}
use Rattle.pres_hub.proofs.CoreHistories.{some_goes_on}
use Rattle.pres_hub.proofs.Gathered.{one_part}
use Rattle.pres_hub.proofs.SaidTogether.{plain_inputs, all_fresh, few_told, told_fits, said_together, goes_together}
use Rattle.pres_hub.proofs.center.Core.say_together.Goals as goal

pub turn_all-requires : goal.turn_all-requires
turn_all-requires g c = plain_inputs c.args.self.now.run c.requires.fits.0 c.args.inputs.items c.requires.fits.2 c.requires.fits.3

pub book_all-requires-clause-few : goal.book_all-requires-clause-few
book_all-requires-clause-few g c =
    let K = g.K.Keeper in
    let many : 0 < length c.args.waiting.items = omega (arith, c.requires.some, c.args.waiting.ok) in
    few_told K.works K.keeps K.outlasts (record { run = c.self.inside.dispatcher.run; lines = c.self.inside.dispatcher.lines; counts = c.self.inside.tally; start = c.self.inside.start }) c.self.invariant.stands c.number.ensures.counted c.requires.fits.0 c.args.waiting.items c.args.inputs.items c.requires.fits.1 c.requires.fits.2
    (subst (λ x. FitTogether x.run c.requires.fits.0) (sym c.self.view_is) c.requires.fits.3) many c.args.now c.in-Ok.turned c.turn_all.new.self c.in-Ok.ensures.turned

pub book_all-requires-clause-fits : goal.book_all-requires-clause-fits
book_all-requires-clause-fits g c =
    let K = g.K.Keeper in
    let many : 0 < length c.args.waiting.items = omega (arith, c.requires.some, c.args.waiting.ok) in
    told_fits K.works K.keeps K.outlasts (record { run = c.self.inside.dispatcher.run; lines = c.self.inside.dispatcher.lines; counts = c.self.inside.tally; start = c.self.inside.start }) c.self.invariant.stands c.number.ensures.counted c.requires.fits.0 c.args.waiting.items c.args.inputs.items c.requires.fits.1 c.requires.fits.2
    (subst (λ x. FitTogether x.run c.requires.fits.0) (sym c.self.view_is) c.requires.fits.3) many c.args.now c.in-Ok.turned c.turn_all.new.self c.in-Ok.ensures.turned

pub book_all-requires-clause-fresh : goal.book_all-requires-clause-fresh
book_all-requires-clause-fresh g c =
    let view = ap (λ x. x.run.number) c.self.view_is in
    all_fresh c.args.self.now.run c.requires.fits.0 c.args.waiting.items c.number-number.result c.requires.fits.1 c.requires.fits.3
    (omega (arith, view, c.turn_all.ensures.rises, c.end_slow.ensures.rises, c.number-number.ensures.number))

pub invariant_of-self : goal.invariant_of-self
invariant_of-self g c =
    let K = g.K.Keeper in
    let many : 0 < length c.args.waiting.items = omega (arith, c.requires.some, c.args.waiting.ok) in
    record {
      stands =
          some_goes_on K.works K.keeps (record { run = c.self.inside.dispatcher.run; lines = c.self.inside.dispatcher.lines; counts = c.self.inside.tally; start = c.self.inside.start }) (record { run = c.end_slow.new.self.run; lines = c.end_slow.new.self.lines; counts = c.book_all.new.tally; start = c.self.inside.start })
          (goes_together K.works K.keeps K.outlasts (record { run = c.self.inside.dispatcher.run; lines = c.self.inside.dispatcher.lines; counts = c.self.inside.tally; start = c.self.inside.start }) c.self.invariant.stands c.number.ensures.counted c.requires.fits.0 c.args.waiting.items c.args.inputs.items c.requires.fits.1 c.requires.fits.2
          (subst (λ x. FitTogether x.run c.requires.fits.0) (sym c.self.view_is) c.requires.fits.3) many c.args.now c.in-Ok.turned c.turn_all.new.self c.in-Ok.ensures.turned
          (record { run = c.end_slow.new.self.run; lines = c.end_slow.new.self.lines; counts = c.book_all.new.tally; start = c.self.inside.start }) refl c.book_all.ensures.tally c.number-number.result c.number-number.ensures.number c.in-Ok.ensures.stands c.end_slow.ensures.ended c.end_slow.ensures.stands)
          c.self.invariant.stands;
      none_slow = c.end_slow.ensures.none_slow;
    }

pub returns-in-Ok-clause-goes_on : goal.returns-in-Ok-clause-goes_on
returns-in-Ok-clause-goes_on g c =
    let K = g.K.Keeper in
    let many : 0 < length c.args.waiting.items = omega (arith, c.requires.some, c.args.waiting.ok) in
    subst (λ x. GoesOn K.works K.keeps x (record { run = c.end_slow.new.self.run; lines = c.end_slow.new.self.lines; counts = c.book_all.new.tally; start = c.self.inside.start })) c.self.view_is
    (goes_together K.works K.keeps K.outlasts (record { run = c.self.inside.dispatcher.run; lines = c.self.inside.dispatcher.lines; counts = c.self.inside.tally; start = c.self.inside.start }) c.self.invariant.stands c.number.ensures.counted c.requires.fits.0 c.args.waiting.items c.args.inputs.items c.requires.fits.1 c.requires.fits.2
    (subst (λ x. FitTogether x.run c.requires.fits.0) (sym c.self.view_is) c.requires.fits.3) many c.args.now c.in-Ok.turned c.turn_all.new.self c.in-Ok.ensures.turned
    (record { run = c.end_slow.new.self.run; lines = c.end_slow.new.self.lines; counts = c.book_all.new.tally; start = c.self.inside.start }) refl c.book_all.ensures.tally c.number-number.result c.number-number.ensures.number c.in-Ok.ensures.stands c.end_slow.ensures.ended c.end_slow.ensures.stands)

pub returns-in-Ok-clause-said : goal.returns-in-Ok-clause-said
returns-in-Ok-clause-said g c = λ taken waiting_are inputs_are fit.
    let K = g.K.Keeper in
    let many : 0 < length c.args.waiting.items = omega (arith, c.requires.some, c.args.waiting.ok) in (
      answers_of c.number-number.result c.args.waiting.items c.in-Ok.turned,
      c.book_all.ensures.answers,
      subst (λ x. AreSaid K.works K.keeps taken (answers_of c.number-number.result c.args.waiting.items c.in-Ok.turned) c.args.now x (record { run = c.end_slow.new.self.run; lines = c.end_slow.new.self.lines; counts = c.book_all.new.tally; start = c.self.inside.start })) c.self.view_is
          (said_together K.works K.keeps K.outlasts (record { run = c.self.inside.dispatcher.run; lines = c.self.inside.dispatcher.lines; counts = c.self.inside.tally; start = c.self.inside.start }) c.self.invariant.stands c.number.ensures.counted taken c.args.waiting.items c.args.inputs.items waiting_are inputs_are
          (subst (λ x. FitTogether x.run taken) (sym c.self.view_is) fit) many c.args.now c.in-Ok.turned c.turn_all.new.self c.in-Ok.ensures.turned
          (record { run = c.end_slow.new.self.run; lines = c.end_slow.new.self.lines; counts = c.book_all.new.tally; start = c.self.inside.start }) refl c.book_all.ensures.tally c.number-number.result c.number-number.ensures.number c.in-Ok.ensures.stands c.end_slow.ensures.ended c.end_slow.ensures.stands),
    )

pub returns-in-Err-clause-said : goal.returns-in-Err-clause-said
returns-in-Err-clause-said g c = λ taken waiting_are inputs_are fit.
    let K = g.K.Keeper in (
      map unheard_of c.args.waiting.items,
      c.refuse_all.ensures.answers,
      subst (λ l. AreSaid K.works K.keeps taken l c.args.now c.args.self.now (record { run = c.turn_all.new.self.run; lines = c.turn_all.new.self.lines; counts = c.self.inside.tally; start = c.self.inside.start })) (sym (ap (map unheard_of) waiting_are ∙ unheard_all taken))
          (one_part K.works K.keeps (unheard taken) c.args.now c.args.self.now (record { run = c.turn_all.new.self.run; lines = c.turn_all.new.self.lines; counts = c.self.inside.tally; start = c.self.inside.start })
          (ap (λ d. record { run = d.run; lines = d.lines; counts = c.self.inside.tally; start = c.self.inside.start }) c.in-Err.ensures.unchanged ∙ c.self.view_is)),
    )
