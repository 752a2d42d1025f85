use Rattle.std.proofs.Common.{rules}
use Rattle.std.proofs.lemmas.Map.Made.{map_same_pairs}
use Rattle.pres_server.specs.InternalSessions.{heard_only}
use Rattle.pres_server.proofs.client_sessions.ClientSessions.hear_anew.Goals as goal

pub returns-clause-live : goal.returns-clause-live
returns-clause-live c = map_same_pairs _ (heard_only c.args.moment) _ (λ k v b w f' t. search rules) _ _ c.retain.ensures.filtered
