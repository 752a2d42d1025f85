-- Clients, and the sessions of a client.
use Rattle.std.specs.Prelude.{ℕ, List, Bool, ◌&&◌, ◌||◌, ◌==◌, nat_lt, nat_le, length}
use Rattle.std.specs.List.{list_all}
use Rattle.std.specs.Ordering.{nat_cmp}
use Rattle.std.specs.declared.cmp.Ordering.{Ordering}
use Rattle.std.specs.Cmp.Lexicographic.{slice_cmp, pointwise}
use Rattle.pres_ids.specs.declared.id.Stamp.{Stamp}
use Rattle.pres_ids.specs.declared.id.SessionId.{SessionId}

-- a client id is the bytes of its text
abbrev pub ClientId : Type 0
ClientId = List ℕ

-- ids are ordered byte by byte, a prefix first
abbrev pub client_cmp : ClientId → ClientId → Ordering
client_cmp = slice_cmp nat_cmp

abbrev pub same_client : ClientId → ClientId → Bool
same_client = pointwise ◌==◌

-- A-Z, a-z, 0-9, _ and -
abbrev pub is_id_byte : ℕ → Bool
is_id_byte b = (nat_le 65 b && nat_le b 90) || (nat_le 97 b && nat_le b 122) || (nat_le 48 b && nat_le b 57) || b == 95 || b == 45

-- 1 to 128 of these bytes
abbrev pub is_client_id : List ℕ → Bool
is_client_id bs = nat_lt 0 (length bs) && nat_le (length bs) 128 && list_all is_id_byte bs

-- stamps are ordered by incarnation, then by attempt
abbrev pub is_earlier : Stamp → Stamp → Bool
is_earlier s t = nat_lt s.incarnation t.incarnation || (s.incarnation == t.incarnation && nat_lt s.attempt t.attempt)

-- which session of its client a session is
abbrev pub stamp_of : SessionId → Stamp
stamp_of session = record { incarnation = session.incarnation; attempt = session.attempt }

-- the same client and the same stamp
abbrev pub same_session : SessionId → SessionId → Bool
same_session s t = same_client s.client t.client && s.incarnation == t.incarnation && s.attempt == t.attempt
