use Rattle.std.proofs.Common.{◌≡◌, sym, IfSome, Option, Some, None, Equal}
use Rattle.pres_ids.specs.Ids.{ClientId, client_cmp}
use Rattle.pres_server.proofs.Clients.{clients_apart}
use Rattle.pres_server.proofs.client_sessions.take.Goals as goal

-- a key that compares equal is the client
same_key : {V : Type 0} (client : ClientId) (o : Option (ClientId × V)) → IfSome o (λ e. client_cmp client e.0 ≡ Equal) → IfSome o (λ e. e.0 ≡ client)
same_key client None h = h
same_key client (Some e) h = sym (clients_apart client e.0 h)

pub returns-clause-client : goal.returns-clause-client
returns-clause-client g c = same_key c.args.client.now c.remove_entry.result c.remove_entry.ensures.same_key
