use Rattle.std.proofs.Common.{Bool, cond, ap₂, subst, List, ℕ}
use Rattle.sqlite_disk.specs.Events.{Event, replay}
use Rattle.sqlite_wal.specs.Recovery.{Image}
use Rattle.sqlite.specs.Files.{file_state}
use Rattle.pres_file.specs.FileOpening.{Finds}
use Rattle.pres_file.proofs.Successes.{from_one}
use Rattle.pres_file.proofs.open.connect.Goals as goal

-- what a file shows, by what it held and what happened to it since
abbrev seen : List ℕ → List ℕ → Bool → List Event → List ℕ
seen log db is_log history = (replay (cond is_log log db) history).seen

pub returns-in-Ok-open-clause-finds : goal.returns-in-Ok-open-clause-finds
returns-in-Ok-open-clause-finds g c =
    let (log, db) = c.in-Ok-open.ensures.fresh in
    let same = ap₂ (λ a b. let i : Image = record { log = a; db = b } in i) (ap₂ (seen g.S.Start.log g.S.Start.db) log.0 log.1) (ap₂ (seen g.S.Start.log g.S.Start.db) db.0 db.1) in
    from_one c.connect_in.result (λ it found now. subst (λ i. Finds i (file_state it)) same (found now)) c.connect_in.ensures.finds
