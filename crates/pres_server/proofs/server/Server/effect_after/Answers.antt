use Rattle.std.proofs.Common.{◌≡◌, ◌∙◌, ◌+◌, ◌∷◌, [], ℕ, length, refl, ap, sym, subst}
use Rattle.std.specs.Option.{IfSome}
use Rattle.std.proofs.lemmas.Option.{IfSome_then}
use Rattle.pres_wire.specs.declared.up.Up.TheVariants as up
use Rattle.pres_server.specs.declared.input.Input.TheVariants as input
use Rattle.pres_server.specs.Turns.{makes}
use Rattle.pres_server.specs.SumStates.{SumState}
use Rattle.pres_server.specs.SumTurns.{moment_by, turn_by}
use Rattle.pres_server.specs.Sums.{Sum, sum_from}
use Rattle.pres_server.specs.Groups.{state_from}
use Rattle.pres_server.specs.InternalIndex.{heard_in}
use Rattle.pres_server.specs.InternalSums.{sum_in}
use Rattle.pres_server.specs.InternalGroups.{IsGroup, entry_by}
use Rattle.pres_server.proofs.Grouped.{state_sum, effect_turn}
use Rattle.pres_server.proofs.server.Server.effect_after.Goals as goal

pub returns : goal.returns
returns c = λ now e.
    let i = c.self.inside in
    let log = c.args.batches.now in
    let s = c.args.session.now in
    let op = c.args.op.now in
    let start : SumState = record { sum = sum_in i.batches i.moment i.number i.index; heard = heard_in i.index } in
    let group : IsGroup start.sum log c.requires.0 = subst (λ (x : SumState). IsGroup x.sum log c.requires.0) (sym c.self.view_is) c.requires.1 in
    let moment : c.args.moment ≡ moment_by (sum_from start.sum log) now =
    e ∙ ap (λ (x : Sum). moment_by x now) (state_sum log c.args.self.now) ∙ ap (λ (x : SumState). moment_by (sum_from x.sum log) now) (sym c.self.view_is) in
    subst (λ (x : SumState). IfSome c.effect_after.result (λ made. turn_by (state_from x log) (input.Up (up.Op s c.args.q c.args.n op)) now ≡ makes (entry_by made s c.args.q c.args.n op ∷ []))) c.self.view_is
    (IfSome_then c.effect_after.result c.effect_after.ensures
    (λ made h. effect_turn i.batches i.moment i.number i.index log (heard_in i.index) c.self.invariant group.follow group.ops s c.args.q c.args.n op now
    (record { number = i.number + length log; moment = c.args.moment }) made refl moment h))
