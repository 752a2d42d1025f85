use Rattle.std.proofs.Common.{◌≡◌, ◌++◌, [], ap, subst, ◌∙◌, length, rules}
use Rattle.std.specs.Io.KnownBytes.{Appends}
use Rattle.tungstenite.proofs.SocketLemmas.{appends-chain}
use Rattle.pres_script.specs.NoticeTexts.{line_of, notice_text, notice_lines}
use Rattle.pres_client_connection.proofs.Driven.{unwritten, lines_more, lines_done}
use Rattle.pres_client_connection.proofs.drive.tell_all.Goals as goal

pub loop-notice-init : goal.loop-notice-init
loop-notice-init g c = ([], unwritten (g.W.Write.contents c.args.output.now), ap notice_lines c.into_iter-notice-iterator.ensures.into_iter_gives.0)

pub loop-notice-preserved : goal.loop-notice-preserved
loop-notice-preserved g c =
    let text = g.W.Write.contents in
    let so_far = c.loop-notice.invariant in
    let line = line_of (notice_text c.in-Some.notice) in
    let told : Appends (text c.loop-notice.output) (text c.tell.new.output) line = search rules in
    (so_far.0 ++ line, appends-chain (text c.args.output.now) (text c.loop-notice.output) (text c.tell.new.output) so_far.0 line so_far.1 told, lines_more so_far.0 c.in-Some.notice c.loop-notice.notice-iterator.rest.items c.next.new.self.rest.items c.in-Some.ensures.steps.0 ∙ so_far.2)

pub returns-clause-told : goal.returns-clause-told
returns-clause-told g c =
    let text = g.W.Write.contents in
    let so_far = c.loop-notice.invariant in
    let none : length c.loop-notice.notice-iterator.rest.items ≡ 0 = search rules in
    subst (Appends (text c.args.output.now) (text c.loop-notice.output)) (lines_done so_far.0 (notice_lines c.args.notices.items) c.loop-notice.notice-iterator.rest.items none so_far.2) so_far.1
