-- what was printed so far, followed by the lines of the notices that remain, is the lines of all notices
use Rattle.std.proofs.Common.{◌≡◌, ◌++◌}
use Rattle.std.specs.Io.KnownBytes.{Appends}
use Rattle.pres_script.specs.NoticeTexts.{Text, notice_lines}
use Rattle.pres_client_connection.proofs.drive.tell_all.Given as goal

abbrev pub invariant-loop-notice : goal.invariant-loop-notice
invariant-loop-notice g l = (told : Text) × Appends (g.W.Write.contents l.fn.output) (g.W.Write.contents l.output) told × (told ++ notice_lines l.notice-iterator.rest.items ≡ notice_lines l.fn.notices.items)
