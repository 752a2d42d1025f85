-- the number stands last, and the outcome is that of its write
use Rattle.std.proofs.Common.{◌≤◌, sym, ◌∙◌, ap, subst, arith}
use Rattle.pres_ids.specs.Numbers.{greatest_number}
use Rattle.pres_retry.specs.Shelves.{AreKept, rows_in}
use Rattle.pres_retry.proofs.Shelves.{IsNext, answers_counted, rows_after, kept_after}
use Rattle.pres_retry.proofs.answers.Answers.push.Goals as goal

pub keep_next-requires : goal.keep_next-requires
keep_next-requires c =
    let inside = c.self.inside in
    let counted = answers_counted inside.full.items inside.last inside.stale.entries c.args.self.now c.self.view_is in
    c.self.invariant.later c.get-number.result (omega (arith, counted, c.requires, c.get-number.ensures.value))

pub invariant_of-self-2 : goal.invariant_of-self-2
invariant_of-self-2 c =
    let inside = c.self.inside in
    let full = c.shelve.new.full.items in
    let last = c.shelve.new.last in
    let stale = c.keep_next.new.stale.entries in
    let number = c.get-number.result in
    let next : IsNext number c.args.kept inside.stale.entries stale = record { own = c.in_ok-keep_next.ensures.kept; others = c.in_ok-keep_next.ensures.others } in
    let small : number ≤ greatest_number = omega (arith, c.get-number.ensures.value, c.get-number.ensures.number.1) in
    subst (λ numbers. AreKept full numbers stale)
    (sym c.in_ok-keep_next.ensures.number)
    (kept_after inside.full.items full inside.last last inside.stale.entries stale c.args.self.now number c.args.done c.args.kept c.self.view_is (c.get-number.ensures.value ∙ c.requires) c.in_ok-shelve.ensures.numbers next c.self.invariant small c.in_ok-shelve.ensures.shelves c.in_ok-shelve.ensures.more)

pub returns-clause-pushed : goal.returns-clause-pushed
returns-clause-pushed c =
    let inside = c.self.inside in
    let full = c.shelve.new.full.items in
    let last = c.shelve.new.last in
    let stale = c.keep_next.new.stale.entries in
    let number = c.get-number.result in
    let next : IsNext number c.args.kept inside.stale.entries stale = record { own = c.in_ok-keep_next.ensures.kept; others = c.in_ok-keep_next.ensures.others } in
    ap (λ numbers. rows_in full numbers stale) c.in_ok-keep_next.ensures.number
    ∙ rows_after inside.full.items full inside.last last inside.stale.entries stale c.args.self.now number c.args.done c.args.kept c.self.view_is (c.get-number.ensures.value ∙ c.requires) c.in_ok-shelve.ensures.numbers next
