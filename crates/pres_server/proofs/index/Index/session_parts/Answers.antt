use Rattle.std.proofs.Common.{sym, ◌∙◌, ap, subst, ◌++◌, ◌∷◌, [], map, append_assoc, append-nil}
use Rattle.std.specs.List.{All}
use Rattle.std.proofs.lemmas.List.Elements.{All-nil, All-cons}
use Rattle.pres_plan.specs.Plans.{IsPlan}
use Rattle.pres_ids.specs.Ids.{ClientId}
use Rattle.pres_server.specs.Sums.{OpenSession}
use Rattle.pres_server.specs.InternalSessions.{Session}
use Rattle.pres_server.specs.InternalSums.{open_of}
use Rattle.pres_server.specs.InternalBases.{session_part}
use Rattle.pres_server.proofs.index.Index.session_parts.Goals as goal

abbrev HasPlan : ClientId × OpenSession → Type 0
HasPlan e = IsPlan e.1.plan

abbrev as_open : ClientId × Session → ClientId × OpenSession
as_open e = (e.0, open_of e.1)

pub loop-client-init : goal.loop-client-init
loop-client-init c =
    let part = session_part c.args.self.now.listeners in
    let same = c.into_iter-client-iterator.ensures.into_iter_gives ∙ c.iter-client-items.ensures.rest in (
      ap (λ l. l ++ map part (map as_open c.into_iter-client-iterator.result)) c.in_ok-made.ensures.items ∙ ap (λ es. map part (map as_open es)) same,
      λ h. subst (λ es. All HasPlan (map as_open es)) same h,
    )

pub loop-client-preserved : goal.loop-client-preserved
loop-client-preserved c =
    let part = session_part c.args.self.now.listeners in
    let made = c.loop-client.made.items in
    let e = as_open (c.in-Some.client.now, c.in-Some.live.now) in
    let left = map as_open c.next.new.self in
    let rest = map part left in (
      ap (λ l. l ++ rest) c.in_ok-push.ensures.items
          ∙ append_assoc made (c.in_ok-session_part.field-0 ∷ []) rest
          ∙ ap (λ x. made ++ x ∷ rest) c.in_ok-session_part.ensures.part
          ∙ ap (λ es. made ++ map part (map as_open es)) (sym c.in-Some.ensures.steps)
          ∙ c.loop-client.invariant.0,
      λ h. c.loop-client.invariant.1 (subst (λ es. All HasPlan (map as_open es)) (sym c.in-Some.ensures.steps) (All-cons HasPlan e left c.in_ok-session_part.ensures.plan h)),
    )

pub returns-clause-parts : goal.returns-clause-parts
returns-clause-parts c =
    let part = session_part c.args.self.now.listeners in
    let made = c.loop-client.made.items in
    c.of.ensures ∙ sym (append-nil made) ∙ ap (λ es. made ++ map part (map as_open es)) (sym c.in-None.ensures.steps.0) ∙ c.loop-client.invariant.0

pub returns-clause-plans : goal.returns-clause-plans
returns-clause-plans c = c.loop-client.invariant.1 (subst (λ es. All HasPlan (map as_open es)) (sym c.in-None.ensures.steps.0) (All-nil HasPlan))
