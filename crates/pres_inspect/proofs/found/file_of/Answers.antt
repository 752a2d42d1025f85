use Rattle.std.proofs.Common.{length, subst}
use Rattle.sqlite_disk.specs.Disk.{Torn}
use Rattle.sqlite_disk.specs.Memory.{memory_bytes}
use Rattle.pres_inspect.proofs.Finding.{written}
use Rattle.pres_inspect.proofs.found.file_of.Goals as goal

pub returns-in-Ok-clause-bytes : goal.returns-in-Ok-clause-bytes
returns-in-Ok-clause-bytes c =
    let bytes = c.args.bytes.now in
    let new = memory_bytes c.write_at.new.self in
    written bytes new c.in-Ok.ensures.written (subst (λ old. Torn 0 (length bytes) old new) c.new-file.ensures.empty c.write_at.ensures.others)
