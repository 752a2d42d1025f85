use Rattle.std.proofs.Common.{◌≡◌, ◌++◌, ◌∷◌, [], ℕ, sym, ◌∙◌, ap, subst, map, All, rules, unwrap_or}
use Rattle.std.specs.Map.{values_of}
use Rattle.std.proofs.lemmas.List.{map_push}
use Rattle.std.proofs.lemmas.List.Elements.{All-push}
use Rattle.pres_plan.specs.declared.standing.Arrival.{Arrival}
use Rattle.pres_plan.specs.Plans.{path_of}
use Rattle.pres_plan.specs.Standing.{IsTop}
use Rattle.pres_plan.proofs.standing.Standing.arrivals.Goals as goal

pub loop-row-preserved : goal.loop-row-preserved
loop-row-preserved c =
    let a : Arrival = record { row = c.in-Some.row; place = c.in_ok-place.place; top = c.unwrap_or-top.result } in
    let before = c.loop-row.made.items in
    let values = values_of c.args.self.now.rows in
    let push = c.in_ok-push.ensures.items in
    record {
      can_next = search rules;
      is_finite = search rules;
      rows = ap (map (λ b. b.row)) push ∙ map_push (λ (b : Arrival). b.row) before a ∙ ap (λ l. l ++ c.in-Some.row ∷ []) c.loop-row.invariant.rows;
      places = subst (All (λ (b : Arrival). b.place ≡ path_of b.row.action)) (sym push)
          (All-push (λ (b : Arrival). b.place ≡ path_of b.row.action) before a c.loop-row.invariant.places (c.in_ok-place.ensures ∙ c.path.ensures));
      tops = subst (All (λ (b : Arrival). IsTop values b.place b.top)) (sym push)
          (All-push (λ (b : Arrival). IsTop values b.place b.top) before a c.loop-row.invariant.tops
          (subst (λ (t : ℕ). IsTop values c.in_ok-place.place t) (ap (unwrap_or c.top_above-above.result) (sym c.len-keys.ensures.len) ∙ sym c.unwrap_or-top.ensures) c.top_above-above.ensures.top));
    }
