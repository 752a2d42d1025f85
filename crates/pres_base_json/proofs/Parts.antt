-- What is written of a session is read again.
use Rattle.std.proofs.Common.{◌≡◌, List, map, Option, Some, ap, ◌∙◌}
use Rattle.pres_ids.specs.Forms.{whole, session_json, message_count, session_of}
use Rattle.pres_wire.specs.Fields.{path_json, path_of}
use Rattle.pres_wire.specs.DownReads.{given}
use Rattle.pres_batch_json.specs.Entries.{list_json}
use Rattle.pres_batch_json.specs.Reads.{list_of}
use Rattle.pres_batch_json.proofs.Listed.{map-same}
use Rattle.pres_base.specs.declared.parts.SessionPart.{SessionPart}
use Rattle.pres_base_json.specs.Forms.{plan_row_json, session_part_json}
use Rattle.pres_base_json.specs.Reads.{plan_row_in, session_part_in}

same : {A : Type 0} {o : Option (List A)} (xs : List A) → o ≡ Some (map (λ a. a) xs) → o ≡ Some xs
same xs h = h ∙ ap Some (map-same xs)

pub session_reads : (s : SessionPart) → list_of path_of (list_json path_json s.listens) ≡ Some (map (λ p. p) s.listens) → list_of plan_row_in (list_json plan_row_json s.plan) ≡ Some (map (λ row. row) s.plan)
    → message_count (whole s.q) ≡ Some s.q → message_count (whole s.r) ≡ Some s.r → session_of (session_json s.session) ≡ Some s.session → session_part_in (session_part_json s) ≡ Some s
session_reads s listens plan q r session =
    λ i.
    given (q i) (λ q. given (r i) (λ r. given (session i) (λ session. given (same s.listens listens i) (λ listens. given (same s.plan plan i) (λ plan.
    Some (record { session = session; q = q; r = r; listens = listens; plan = plan })
    )))))
