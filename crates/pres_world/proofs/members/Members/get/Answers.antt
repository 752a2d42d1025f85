use Rattle.std.proofs.Common.{◌∙◌, ap, Some}
use Rattle.std.specs.FinMap.Entries.{find}
use Rattle.pres_ids.specs.Ids.{client_cmp}
use Rattle.pres_client_state.proofs.Maps.{find_at}
use Rattle.pres_world.proofs.members.Members.get.Goals as goal

pub returns-in-Some : goal.returns-in-Some
returns-in-Some c = ap Some c.client.ensures ∙ c.in-Some.ensures.value ∙ find_at client_cmp c.args.id.now c.self.inside.by_id.entries ∙ ap (find client_cmp c.args.id.now) c.self.view_is

pub returns-in-None : goal.returns-in-None
returns-in-None c = c.in-None.ensures.value ∙ find_at client_cmp c.args.id.now c.self.inside.by_id.entries ∙ ap (find client_cmp c.args.id.now) c.self.view_is
