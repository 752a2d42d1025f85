-- The open sessions in byte order of their clients are those of the index.
use Rattle.std.proofs.Common.{refl, sym, ◌∙◌, ap, ◌≡◌, List, length, Option, Some, None}
use Rattle.std.specs.Option.{option_map}
use Rattle.std.specs.BTreeMap.{IsOrdered}
use Rattle.std.specs.FinMap.Entries.{same_entries}
use Rattle.std.proofs.lemmas.List.{length-map}
use Rattle.pres_ids.specs.Ids.{ClientId, client_cmp}
use Rattle.pres_ids.specs.declared.id.SessionId.{SessionId}
use Rattle.pres_log.specs.declared.entry.Entry.{Entry}
use Rattle.pres_server.specs.declared.index.Index.{Index}
use Rattle.pres_server.specs.InternalParts.{Part, listed, session_with}
use Rattle.pres_server.specs.InternalSessions.{Session, live_part, open_count}
use Rattle.pres_server.specs.InternalIndex.{session_at}
use Rattle.pres_server.proofs.Clients.{clients_total, clients_apart}
use Rattle.pres_server.proofs.Heard.{behind, behind_sorted, find_behind}
use Rattle.pres_history.specs.Sessions.{open_entries, open_sessions}
use Rattle.pres_history.specs.InternalParts.{Sound}
use Rattle.pres_history.specs.InternalInvariants.{Indexed}
use Rattle.pres_history.proofs.AfterEntry.{first_of_list, find_open, open_is_sorted}

-- the id of a client's session
abbrev pub id_of : ClientId → Session → SessionId
id_of client session = session_with client session.stamp

first_listed : (c : ClientId) (live : Option Session) → option_map (id_of c) live ≡ first_of_list (listed c (option_map live_part live))
first_listed c None = refl
first_listed c (Some session) = refl

pub open_list : (es : List Entry) (index : Index) → Indexed es index → Sound es → IsOrdered client_cmp index.places.live → behind id_of index.places.live.entries ≡ open_entries es
open_list es index ix sound o =
    same_entries client_cmp clients_total clients_apart (behind id_of index.places.live.entries) (open_entries es) (behind_sorted id_of index.places.live.entries o) (open_is_sorted es)
    (λ c.
    find_behind id_of c index.places.live.entries
    ∙ first_listed c (session_at index c)
    ∙ ap (λ (p : Part). first_of_list (listed c p.live)) (ix.parts c)
    ∙ ap first_of_list (sym (sound.one_open c))
    ∙ sym (find_open c es))

pub open_count_is : (es : List Entry) (index : Index) → Indexed es index → Sound es → IsOrdered client_cmp index.places.live → open_count index.places ≡ length (open_sessions es)
open_count_is es index ix sound o =
    sym (length-map index.places.live.entries (λ (e : ClientId × Session). (e.0, id_of e.0 e.1)))
    ∙ ap length (open_list es index ix sound o)
    ∙ sym (length-map (open_entries es) (λ (e : ClientId × SessionId). e.1))
