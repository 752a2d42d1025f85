use Rattle.std.proofs.Common.{◌≡◌, ◌++◌, Some, inl, inr, option_map, sym, ap, subst, ◌∙◌, append-nil}
use Rattle.std.specs.Prelude.{string_bytes}
use Rattle.serde_json.specs.Data.{member}
use Rattle.serde_json.specs.View.{view, members_view}
use Rattle.pres_wire.specs.Fields.{path_in}
use Rattle.pres_script.specs.Lines.{places_of}
use Rattle.pres_script.proofs.ParsedLines.{part_refused, place_more, place_bad, draft_bad, none_yet}
use Rattle.pres_script.proofs.lines.places_of.Goals as goal
use Rattle.pres_script.proofs.lines.places_of.Goals.{In-Some}

-- the next member is that of this turn
turn : (c : In-Some) → places_of (members_view c.args.members.now.entries) ≡ option_map (λ rest. c.loop-name.places.items ++ rest) (places_of (member (string_bytes c.in-Some.name.now) (view c.in-Some.value.now) (members_view c.next.new.self)))
turn c = subst (λ ms. places_of (members_view c.args.members.now.entries) ≡ option_map (λ rest. c.loop-name.places.items ++ rest) (places_of (members_view ms))) c.in-Some.ensures.steps c.loop-name.invariant

pub loop-name-init : goal.loop-name-init
loop-name-init c =
    let all = places_of (members_view c.args.members.now.entries) in
    let same = c.into_iter-name-iterator.ensures.into_iter_gives ∙ c.iter-name-items.ensures.rest in
    subst (λ left. all ≡ option_map (λ rest. c.new-places.result.items ++ rest) (places_of (members_view left))) (sym same)
    (subst (λ items. all ≡ option_map (λ rest. items ++ rest) all) (sym c.new-places.ensures.items) (none_yet all))

pub returns-in_err-place : goal.returns-in_err-place
returns-in_err-place c =
    let all = members_view c.args.members.now.entries in
    let here = turn (goal.at.returns-in_err-place c).In-Some in
    part_refused _ (places_of all) c.from_residual.result c.in_err-place.field-0.0 c.from_residual.ensures
    (elim c.in_err-place.ensures [
      | inl memory ↦ inl memory
      | inr refused ↦ inr (refused.0, place_bad all (members_view c.next.new.self) (string_bytes c.in-Some.name.now) (view c.in-Some.value.now) c.loop-name.places.items here (ap path_in (sym c.as_str.ensures.value) ∙ refused.1))
    ])

pub returns-in_err-draft : goal.returns-in_err-draft
returns-in_err-draft c =
    let all = members_view c.args.members.now.entries in
    let here = turn (goal.at.returns-in_err-draft c).In-Some in
    part_refused _ (places_of all) c.from_residual-in_err-draft.result c.in_err-draft.field-0.0 c.from_residual-in_err-draft.ensures
    (elim c.in_err-draft.ensures [
      | inl memory ↦ inl memory
      | inr refused ↦ inr (refused.0, draft_bad all (members_view c.next.new.self) (string_bytes c.in-Some.name.now) (view c.in-Some.value.now) c.loop-name.places.items here c.in_ok-place.place (ap path_in (sym c.as_str.ensures.value) ∙ c.in_ok-place.ensures) refused.1)
    ])

pub loop-name-preserved : goal.loop-name-preserved
loop-name-preserved c =
    let all = members_view c.args.members.now.entries in
    let left = members_view c.next.new.self in
    subst (λ items. places_of all ≡ option_map (λ rest. items ++ rest) (places_of left)) (sym c.in_ok-push.ensures.items)
    (place_more all left (string_bytes c.in-Some.name.now) (view c.in-Some.value.now) c.loop-name.places.items (turn (goal.at.loop-name-preserved c).In-Some) c.in_ok-place.place c.in_ok-draft.draft (ap path_in (sym c.as_str.ensures.value) ∙ c.in_ok-place.ensures) c.in_ok-draft.ensures)

pub returns : goal.returns
returns c =
    let items = c.loop-name.places.items in
    subst (λ ms. places_of (members_view c.args.members.now.entries) ≡ option_map (λ rest. items ++ rest) (places_of (members_view ms))) c.in-None.ensures.steps.0 c.loop-name.invariant
    ∙ ap Some (append-nil items)
