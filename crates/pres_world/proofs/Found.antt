-- Clients in their map, as they stand in the list of its entries.
use Rattle.std.proofs.Common.{◌≡◌, ◌∙◌, sym, ap, Option, Some}
use Rattle.std.specs.Cmp.{IsTotalOrder}
use Rattle.std.specs.Cmp.Lexicographic.{nat_list_cmp_total}
use Rattle.std.specs.Map.{keys_of, lookup, set_value}
use Rattle.std.specs.BTreeMap.{is_at}
use Rattle.std.specs.FinMap.Entries.{find, put}
use Rattle.std.specs.List.Sorted.{IsStrictlySortedBy}
use Rattle.std.proofs.lemmas.Map.Steps.{set_value_same}
use Rattle.pres_ids.specs.Ids.{ClientId, client_cmp}
use Rattle.pres_client.specs.Clients.{ClientState}
use Rattle.pres_client_state.proofs.Maps.{find_at, put_value}
use Rattle.pres_world.specs.Worlds.{Clients}

clients_total : IsTotalOrder client_cmp
clients_total = nat_list_cmp_total

-- what a look-up says of the map it says of the list
pub looked_up : (id : ClientId) (es now : Clients) (c : Option ClientState) → c ≡ lookup (is_at (client_cmp id)) es → es ≡ now → find client_cmp id now ≡ c
looked_up id es now c known view = sym (known ∙ find_at client_cmp id es ∙ ap (find client_cmp id) view)

-- the client that was found became another
pub changed : (id : ClientId) (es now new : Clients) (old c : ClientState) → IsStrictlySortedBy client_cmp (keys_of es) → Some old ≡ lookup (is_at (client_cmp id)) es → es ≡ now → new ≡ set_value (is_at (client_cmp id)) es c → new ≡ put client_cmp id c now
changed id es now new old c sorted known view is = is ∙ put_value client_cmp clients_total id c old es sorted (sym known) ∙ ap (put client_cmp id c) view

-- it stayed as it was
pub unchanged : (id : ClientId) (es now new : Clients) (old c : ClientState) → Some old ≡ lookup (is_at (client_cmp id)) es → es ≡ now → new ≡ set_value (is_at (client_cmp id)) es c → c ≡ old → new ≡ now
unchanged id es now new old c known view is same = is ∙ ap (set_value (is_at (client_cmp id)) es) same ∙ set_value_same (is_at (client_cmp id)) es old (sym known) ∙ view
