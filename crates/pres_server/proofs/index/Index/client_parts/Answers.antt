use Rattle.std.proofs.Common.{sym, ◌∙◌, ap, ◌++◌, ◌∷◌, [], map, append_assoc, append-nil}
use Rattle.pres_server.specs.InternalBases.{client_part_above}
use Rattle.pres_server.proofs.Keyed.{found}
use Rattle.pres_server.proofs.index.Index.client_parts.Goals as goal

pub loop-id-init : goal.loop-id-init
loop-id-init c = ap (λ l. l ++ map (client_part_above c.args.number c.args.self.now.retry) c.into_iter-id-iterator.result) c.in_ok-made.ensures.items

pub loop-id-preserved : goal.loop-id-preserved
loop-id-preserved c =
    let part = client_part_above c.args.number c.args.self.now.retry in
    let made = c.loop-id.made.items in
    let rest = map part c.next.new.self in
    ap (λ l. l ++ rest) c.in_ok-push.ensures.items
    ∙ append_assoc made (record { id = c.in-Some.id; last = c.in-Some.last; rows = c.in_ok-rows.rows } ∷ []) rest
    ∙ ap (λ rows. made ++ record { id = c.in-Some.id; last = c.in-Some.last; rows = rows } ∷ rest) c.in_ok-rows.ensures
    ∙ ap (λ es. made ++ map part es) (sym c.in-Some.ensures.steps)
    ∙ c.loop-id.invariant

pub returns : goal.returns
returns c =
    let part = client_part_above c.args.number c.args.self.now.retry in
    let made = c.loop-id.made.items in (
      c.in_ok-lasts.lasts.entries,
      record { ordered = c.in_ok-lasts.ensures.ordered; found = λ q. found q c.in_ok-lasts.lasts.entries ∙ c.in_ok-lasts.ensures.found q },
      c.of.ensures ∙ sym (append-nil made) ∙ ap (λ es. made ++ map part es) (sym c.in-None.ensures.steps.0) ∙ c.loop-id.invariant ∙ ap (map part) c.into_iter-id-iterator.ensures.into_iter_gives.0,
    )
