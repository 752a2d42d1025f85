use Rattle.std.proofs.Common.{[], ◌∷◌, ◌++◌, Some, subst}
use Rattle.pres_client.specs.declared.call.Call.TheVariants.{GoOnline, GoOffline}
use Rattle.pres_client_connection.specs.DrivenClients.{Drives, asked_in}
use Rattle.pres_service.proofs.client.follow.Goals as goal

-- the client was new
pub returns-in-Ok-drive_client-clause-visited : goal.returns-in-Ok-drive_client-clause-visited
returns-in-Ok-drive_client-clause-visited g c =
    let text = g.W.Write.contents in
    record {
      now = c.in-Ok-drive_client.client;
      driven = subst (λ client. Drives client (Some GoOnline ∷ asked_in c.args.lines.items ++ Some GoOffline ∷ []) c.in-Ok-drive_client.client (text c.args.output.now) (text c.drive_client.new.output)) c.new-client.ensures c.in-Ok-drive_client.ensures.driven;
      sent = c.in-Ok-drive_client.ensures.sent;
      told = c.in-Ok-drive_client.ensures.told;
    }
