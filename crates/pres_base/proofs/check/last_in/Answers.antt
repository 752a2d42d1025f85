use Rattle.std.proofs.Common.{rules, sym}
use Rattle.std.proofs.lemmas.Fn.{always_returns_same}
use Rattle.pres_ids.specs.Ids.{client_cmp}
use Rattle.pres_base.proofs.Searched.{searchable, found_at, goes_between}
use Rattle.pres_base.proofs.check.last_in.Goals as goal

pub returns-in_default : goal.returns-in_default
returns-in_default c =
    let q = c.args.client.now in
    let xs = c.args.clients.now in
    let parted = c.in_default.ensures.position (λ x. client_cmp x.id q) (always_returns_same _ _ _ (λ a r f k. search rules)) (searchable xs q c.requires) in
    sym (goes_between q xs c.in_default.field-0 parted.0 parted.1)

pub returns : goal.returns
returns c =
    let q = c.args.client.now in
    sym (found_at q c.args.clients.now c.in-Ok.at c.requires c.in-Ok.ensures.bound
    (c.in-Ok.ensures.position (λ x. client_cmp x.id q) (always_returns_same _ _ _ (λ a r f k. search rules)))
    c.index-clients-at.result)
