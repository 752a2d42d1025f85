use Rattle.std.proofs.Common.{◌∷◌, sym, ap, subst}
use Rattle.std.specs.Option.{option_map}
use Rattle.std.specs.Map.{keys_of}
use Rattle.pres_tree.specs.Paths.{overlap}
use Rattle.pres_write.proofs.Overlaps.{Left, left_next, left_first}
use Rattle.pres_write.proofs.update.overlaps.Goals as goal
use Rattle.pres_write.proofs.update.overlaps.Goals.{in-Some-last+else-is_prefix_of, in_default}

pub loop-place-preserved : goal.loop-place-preserved
loop-place-preserved c =
    let b = overlap (keys_of c.args.places.now.entries) in
    let o = option_map (λ p. p.now) c.loop-place.last in
    let q = c.in-Some.place.now in
    let ps = keys_of c.next.new.self in
    let here : Left b o (q ∷ ps) = subst (λ es. Left b o (keys_of es)) c.in-Some.ensures.steps c.loop-place.invariant in
    elim c.match-last.branch [
      | in-Some-last+else-is_prefix_of w ↦ left_next b o w.in-Some-last.above.now q ps (ap (option_map (λ p. p.now)) w.in-Some-last.is) (sym w.if-is_prefix_of.ensures) here
      | in_default w ↦ left_first b o q ps (ap (option_map (λ p. p.now)) w.in_default.is) here
    ]
