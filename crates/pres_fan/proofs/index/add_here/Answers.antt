use Rattle.std.proofs.Common.{◌≡◌, ◌∷◌, ◌++◌, [], take, sym, ap, subst, ◌∙◌}
use Rattle.std.proofs.lemmas.List.{take_more, take_all}
use Rattle.pres_fan.specs.Listeners.{listener_of}
use Rattle.pres_fan.proofs.Walks.{Here, here_more}
use Rattle.pres_fan.proofs.index.add_here.Goals as goal

pub loop-session-preserved : goal.loop-session-preserved
loop-session-preserved c =
    let xs = c.as_slice-session-items.result.now in
    let i = c.loop-session.session-index in
    let x = c.session-item.result in
    let found = c.loop-session.found.items in
    let after = c.push.new.self.items in
    let more = take_more xs i x c.loop-session-test.true ∙ ap (λ y. take i xs ++ y ∷ []) (sym c.session-item.is) in
    let is : after ≡ found ++ listener_of x c.args.path.now ∷ [] = c.in_ok-push.ensures.items ∙ (λ j. found ++ listener_of (c.in_ok-session.ensures j) (c.in_ok-path.ensures j) ∷ []) in
    subst (λ ss. Here ss c.args.path.now c.args.found.now.items after) (sym more) (here_more (take i xs) x c.args.path.now c.args.found.now.items found after is c.loop-session.invariant)

pub returns-clause-only : goal.returns-clause-only
returns-clause-only c =
    let xs = c.as_slice-session-items.result.now in
    let all = subst (λ ss. Here ss c.args.path.now c.args.found.now.items c.loop-session.found.items) (take_all c.loop-session.session-index xs c.loop-session-test.false ∙ c.as_slice-session-items.ensures) c.loop-session.invariant in
    all.only
