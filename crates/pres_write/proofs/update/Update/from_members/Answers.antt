use Rattle.std.proofs.Common.{◌≡◌, ◌≤◌, ◌||◌, ◌⊎◌, length, true, false, Option, Some, None, Ok, Err, is_some, inl, inr, refl, sym, ap, subst, ◌∙◌, arith}
use Rattle.std.proofs.lemmas.Bool.{false≢true}
use Rattle.std.specs.Prelude.{string_bytes}
use Rattle.std.specs.BTreeMap.{is_at}
use Rattle.std.specs.Map.{keys_of, lookup}
use Rattle.serde_json.specs.Data.{member, no_members}
use Rattle.serde_json.specs.View.{view, members_view}
use Rattle.pres_tree.specs.declared.fault.TreeFault.TheVariants.{Memory}
use Rattle.pres_tree.specs.Paths.{IsPath, path_cmp, overlap, segments}
use Rattle.pres_tree.specs.JsonReading.{rows_of}
use Rattle.pres_write.specs.declared.fault.WriteFault.{WriteFault}
use Rattle.pres_write.specs.declared.fault.WriteFault.TheVariants.{Tree}
use Rattle.pres_write.specs.Drafts.{slot_reading}
use Rattle.pres_write.specs.OpForms.{below_read, place_fault, places_read}
use Rattle.pres_write.specs.Updates.{PlacesBelow, most_places}
use Rattle.pres_write.proofs.Members.{Read, read_start, read_more, read_again, length-members, read_many, read_bad, read_overlap, read_all, read_few, refused_as}
use Rattle.pres_write.proofs.update.Update.from_members.Goals as goal
use Rattle.pres_write.proofs.update.Update.from_members.Goals.{In-Some, In-None, then-is_twice-via-then-is_twice, then-is_twice-via-else-is_twice+then-overlaps}
use Rattle.std.proofs.lemmas.Grind.{common_steps}

-- the next member is that of this turn
turn : (c : In-Some) → Read c.args.path (members_view c.args.members.now.entries) (member (string_bytes c.in-Some.name.now) (view c.in-Some.value.now) (members_view c.next.new.self)) c.loop-name.is_twice c.loop-name.places.entries
turn c = subst (λ ms. Read c.args.path (members_view c.args.members.now.entries) (members_view ms) c.loop-name.is_twice c.loop-name.places.entries) c.in-Some.ensures.steps c.loop-name.invariant.0

-- no member is left
end : (c : In-None) → Read c.args.path (members_view c.args.members.now.entries) no_members c.loop-name.is_twice c.loop-name.places.entries
end c = subst (λ ms. Read c.args.path (members_view c.args.members.now.entries) (members_view ms) c.loop-name.is_twice c.loop-name.places.entries) c.in-None.ensures.steps.0 c.loop-name.invariant.0

few : (c : In-None) → length (places_read (members_view c.args.members.now.entries)) ≤ most_places
few c = omega (arith, c.if-len-gt-MOST.false, c.len.ensures.len, length-members c.args.members.now.entries)

none_of : {A : Type 0} (o : Option A) → false ≡ is_some o → None ≡ o
none_of None h = refl
none_of (Some a) h = absurd (false≢true h)

pub returns-then-len-gt-MOST : goal.returns-then-len-gt-MOST
returns-then-len-gt-MOST c = inr (read_many c.args.path (members_view c.args.members.now.entries) (omega (arith, c.if-len-gt-MOST.true, c.len.ensures.len, length-members c.args.members.now.entries)))

pub loop-name-init : goal.loop-name-init
loop-name-init c =
    let p = c.args.path in
    let all = members_view c.args.members.now.entries in
    let same = c.into_iter-name-iterator.ensures.into_iter_gives ∙ c.iter-name-items.ensures.rest in (
      subst (λ left. Read p all (members_view left) false c.new-places.result.entries) (sym same) (subst (Read p all all false) (sym c.new-places.ensures.empty) (read_start p all)),
      c.new-places.ensures.ordered,
    )

pub returns-in_err-place : goal.returns-in_err-place
returns-in_err-place c =
    let p = c.args.path in
    let all = members_view c.args.members.now.entries in
    let k = string_bytes c.in-Some.name.now in
    let d = view c.in-Some.value.now in
    let e = c.in_err-place.field-0.0 in
    let small : length (places_read all) ≤ most_places = omega (arith, c.if-len-gt-MOST.false, c.len.ensures.len, length-members c.args.members.now.entries) in
    let here = turn (goal.at.returns-in_err-place c).In-Some in
    refused_as (λ (u : PlacesBelow). below_read p all ≡ Ok u) (λ (f : WriteFault). ((f ≡ Tree Memory) × (length c.args.members.now.entries ≤ most_places)) ⊎ (below_read p all ≡ Err f)) c.from_residual.result e c.from_residual.ensures
    (elim c.in_err-place.ensures.read [
      | inl memory ↦ inl (ap Tree memory, omega (arith, c.if-len-gt-MOST.false, c.len.ensures.len))
      | inr bad ↦ inr (read_bad p all (members_view c.next.new.self) k d c.loop-name.is_twice c.loop-name.places.entries e here (ap (λ n. place_fault p n d) (sym c.as_str.ensures.value) ∙ bad) small)
    ])

pub loop-name-preserved-then-is_again : goal.loop-name-preserved-then-is_again
loop-name-preserved-then-is_again c =
    let p = c.args.path in
    let all = members_view c.args.members.now.entries in
    let k = string_bytes c.in-Some.name.now in
    let d = view c.in-Some.value.now in
    let q = c.in_ok-place.place in
    let es = c.loop-name.places.entries in
    let same = c.as_str.ensures.value in
    let read = c.in_ok-place.ensures.read in
    let here = turn (goal.at.loop-name-preserved-then-is_again c).In-Some in
    let found : is_some (lookup (is_at (path_cmp q)) es) ≡ true = ap is_some (sym c.in_ok-earlier.ensures.old) ∙ sym c.is_some-is_again.ensures ∙ c.if-is_again.true in (
      subst (Read p all (members_view c.next.new.self) true) (sym c.in_ok-earlier.ensures.entries)
          (read_again p all (members_view c.next.new.self) k d c.loop-name.is_twice es here q c.in_ok-place.draft
          (read.1 ∙ ap (λ n. (segments n, rows_of slot_reading d)) same)
          (ap (λ n. place_fault p n d) (sym same) ∙ read.0)
          c.in_ok-place.ensures.fits found),
      c.in_ok-earlier.ensures.ordered,
    )

pub loop-name-preserved : goal.loop-name-preserved
loop-name-preserved c =
    let p = c.args.path in
    let all = members_view c.args.members.now.entries in
    let k = string_bytes c.in-Some.name.now in
    let d = view c.in-Some.value.now in
    let q = c.in_ok-place.place in
    let es = c.loop-name.places.entries in
    let same = c.as_str.ensures.value in
    let read = c.in_ok-place.ensures.read in
    let here = turn (goal.at.loop-name-preserved c).In-Some in (
      subst (Read p all (members_view c.next.new.self) c.loop-name.is_twice) (sym c.in_ok-earlier.ensures.entries)
          (read_more p all (members_view c.next.new.self) k d c.loop-name.is_twice es here q c.in_ok-place.draft
          (read.1 ∙ ap (λ n. (segments n, rows_of slot_reading d)) same)
          (ap (λ n. place_fault p n d) (sym same) ∙ read.0)
          c.in_ok-place.ensures.fits
          (none_of c.in_ok-earlier.earlier (sym c.if-is_again.false ∙ c.is_some-is_again.ensures) ∙ c.in_ok-earlier.ensures.old)),
      c.in_ok-earlier.ensures.ordered,
    )

pub returns-then-is_twice : goal.returns-then-is_twice
returns-then-is_twice c =
    let l = c.loop-name in
    let p = c.args.path in
    let all = members_view c.args.members.now.entries in
    let t = (goal.at.returns-then-is_twice c).In-None in
    let meets : (l.is_twice || overlap (keys_of l.places.entries)) ≡ true = elim c.then-is_twice.branch [
      | then-is_twice-via-then-is_twice w ↦ ap (λ b. b || overlap (keys_of l.places.entries)) w.if-is_twice.true
      | then-is_twice-via-else-is_twice+then-overlaps w ↦ λ i. w.if-is_twice.false i || (sym w.overlaps.ensures ∙ w.if-overlaps.true) i
    ] in
    inr (read_overlap p all l.is_twice l.places.entries (end t) meets (few t))

pub invariant_of-result : goal.invariant_of-result
invariant_of-result c =
    let t = (goal.at.invariant_of-result c).In-None in
    let r = end t in
    record {
      path = subst IsPath c.path.view_is c.path.invariant;
      in_order = c.loop-name.invariant.1;
      apart = sym c.overlaps.ensures ∙ c.if-overlaps.false;
      few = read_few c.args.path (members_view c.args.members.now.entries) c.loop-name.is_twice c.loop-name.places.entries r (few t);
      fit = r.fit;
    }

pub returns : goal.returns
returns c =
    let t = (goal.at.returns c).In-None in
    read_all c.args.path (members_view c.args.members.now.entries) c.loop-name.is_twice c.loop-name.places.entries (end t) c.if-is_twice.false (sym c.overlaps.ensures ∙ c.if-overlaps.false) (few t)

pub returns-in_err-earlier : goal.returns-in_err-earlier
returns-in_err-earlier c = grind (arith, common_steps)
