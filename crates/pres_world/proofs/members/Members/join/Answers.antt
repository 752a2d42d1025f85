use Rattle.std.proofs.Common.{◌∙◌, ap}
use Rattle.std.specs.FinMap.Entries.{put}
use Rattle.pres_ids.specs.Ids.{client_cmp}
use Rattle.pres_client.specs.Clients.{start}
use Rattle.pres_client_state.proofs.Maps.{put_entry}
use Rattle.pres_world.proofs.members.Members.join.Goals as goal

pub returns-clause-ok : goal.returns-clause-ok
returns-clause-ok c =
    let id = c.args.id in
    let es = c.self.inside.by_id.entries in
    c.in_ok-insert.ensures.entries
    ∙ put_entry client_cmp id c.new-client.result es
    ∙ ap (λ m. put client_cmp id m es) (c.new-client.ensures ∙ (λ i. start (c.in_ok-copy.ensures i) (c.first.ensures i)))
    ∙ ap (put client_cmp id (start id 1)) c.self.view_is
