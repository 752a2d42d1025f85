use Rattle.std.proofs.Common.{◌≡◌, ◌∙◌, ◌++◌, ◌∷◌, [], List, map, sym, subst, ap, length, arith, true, false}
use Rattle.std.specs.List.{AllByRecursion}
use Rattle.pres_ids.specs.Ids.{same_session}
use Rattle.pres_server.specs.declared.input.Input.{Input}
use Rattle.pres_server.specs.declared.input.Input.TheVariants as input
use Rattle.pres_hub.specs.InternalGroups.{WaitingState, Gathers}
use Rattle.pres_hub.proofs.Gathered.{gathers_none, gathers_added}
use Rattle.pres_hub.proofs.center.Core.gather.Goals as goal

pub requests-init : goal.requests-init
requests-init g c = record {
  gathers =
      subst (λ waiting. Gathers c.args.self.now.run c.args.requests.now.items c.args.requests.now.items waiting c.args.inputs.now.items) (sym c.requires.waiting)
      (subst (λ inputs. Gathers c.args.self.now.run c.args.requests.now.items c.args.requests.now.items [] inputs) (sym c.requires.inputs) (gathers_none c.args.self.now.run c.args.requests.now.items));
  counted = let none = ap (λ l. length l) c.requires.waiting in omega (arith, none, c.args.waiting.now.ok);
}

pub requests-preserved : goal.requests-preserved
requests-preserved g c =
    let i = c.requests.invariant in
    let t : c.fits.result ≡ true = c.if-not-fits.false in
    let many : c.len-count.result ≡ length c.request.inside.messages.items = omega (arith, c.len-count.ensures, c.request.inside.messages.ok) in
    record {
      gathers =
          gathers_added c.args.self.now.run c.args.requests.now.items c.requests.requests.items c.pop_front.new.self.items c.in-Some.request c.requests.waiting.items c.push_reserved.new.self.items c.requests.inputs.items c.add_all.new.inputs.items c.request.inside.seat c.request.inside.messages.items c.len-count.result
          i.gathers c.in-Some.ensures.items (record { taken = c.fits.ensures.taken t; some = c.fits.ensures.some t })
          (subst (AllByRecursion (λ (w : WaitingState). same_session c.in-Some.request.seat.session w.seat.session ≡ false)) c.deref.ensures.value (c.fits.ensures.apart t)) c.request.view_is many
          (c.push_reserved.ensures.items ∙ ap (λ (l : List WaitingState). l ++ record { seat = c.request.inside.seat; count = c.len-count.result } ∷ []) c.in-Ok.ensures.waiting.0)
          (c.add_all.ensures ∙ ap (λ (l : List Input). l ++ map input.Up c.request.inside.messages.items) c.in-Ok.ensures.inputs.0);
      counted = omega (arith, i.counted, c.in-Some.ensures.cases, c.push_reserved.ensures.len, c.in-Ok.ensures.waiting.1);
    }
