-- Histories of whole logs, and of servers that begin elsewhere.
use Rattle.std.proofs.Common.{refl, sym, ◌∙◌, ap, subst, ◌≡◌, [], ◌∷◌, ◌++◌, append-nil, append_assoc}
use Rattle.pres_log.specs.declared.entry.Batch.{Batch}
use Rattle.pres_log.specs.Logs.{Log}
use Rattle.pres_history.specs.LegalLog.{IsLegal, IsLegalAfter}
use Rattle.pres_history.proofs.LegalLogs.{legal_after}
use Rattle.pres_server.specs.Sums.{Sum, nothing, sum_with, sum_from, sum_of}
use Rattle.pres_server.specs.SumAnswers.{answers_by}
use Rattle.pres_server.specs.SumTurns.{FollowsSum, FollowAll}
use Rattle.pres_server.specs.Histories.{IsSum, History, answers_from, answers_in}
use Rattle.pres_history.specs.HistoryLaws.{HistoryHolds, HistoryGrows, answers_after, LegalIsHistory, HistoryIsLegal, ReachedHasLog}
use Rattle.pres_server.proofs.Replayed.{sum_push, follow_more}
use Rattle.pres_history.proofs.Whole.{sum_says, whole_is_legal, legal_by_the_sum}
use Rattle.pres_server.proofs.KeptSums.{sum_holds}
use Rattle.pres_server.proofs.SumServers.{nothing_holds}

-- ---- what holds of every sum

all_hold : (log : Log) (sum : Sum) → IsSum sum → FollowAll sum log → IsSum (sum_from sum log)
all_hold [] sum k f = k
all_hold (b ∷ log) sum k f = all_hold log (sum_with sum b) (sum_holds sum b k f.0) f.1

pub history_holds : (h : History) (sum : Sum) → HistoryHolds h sum
history_holds h sum l = subst IsSum l.there (all_hold h.log h.base l.base l.legal)

-- ---- one batch more

answered_more : (log : Log) (sum : Sum) (b : Batch) → answers_from sum (log ++ b ∷ []) ≡ answers_from sum log ++ answers_by (sum_from sum log) b.entries
answered_more [] sum b = append-nil (answers_by sum b.entries)
answered_more (a ∷ log) sum b =
    ap (λ l. answers_by sum a.entries ++ l) (answered_more log (sum_with sum a) b)
    ∙ sym (append_assoc (answers_by sum a.entries) (answers_from (sum_with sum a) log) (answers_by (sum_from (sum_with sum a) log) b.entries))

pub history_grows : (h : History) (sum : Sum) (b : Batch) → HistoryGrows h sum b
history_grows h sum b l f = record {
  leads = record {
    base = l.base;
    legal = follow_more h.log h.base b l.legal (subst (λ s. FollowsSum s b) (sym l.there) f);
    there = sum_push h.base h.log b ∙ ap (λ s. sum_with s b) l.there;
  };
  answered = answered_more h.log h.base b ∙ ap (λ s. answers_in h ++ answers_by s b.entries) l.there;
}

-- ---- of whole logs

answered_whole : (later log : Log) → IsLegal log → IsLegalAfter log later → answers_from (sum_of log) later ≡ answers_after log later
answered_whole [] log legal h = refl
answered_whole (b ∷ later) log legal h =
    let rest = answered_whole later (log ++ b ∷ []) (legal_after log b legal h.0) h.1 in
    λ i. (sum_says log legal).answered b h.0 i ++ (ap (λ s. answers_from s later) (sym (sum_push nothing log b)) ∙ rest) i

pub legal_is_history : (log : Log) → LegalIsHistory log
legal_is_history log legal = (
  record { base = nothing_holds; legal = (legal_by_the_sum log).0 legal; there = refl },
  answered_whole log [] tt legal,
)

pub history_is_legal : (h : History) (sum : Sum) → HistoryIsLegal h sum
history_is_legal h sum none l =
    ((legal_by_the_sum h.log).1 (subst (λ s. FollowAll s h.log) none l.legal), ap (λ s. sum_from s h.log) (sym none) ∙ l.there)

pub reached_has_log : (h : History) (sum : Sum) → ReachedHasLog h sum
reached_has_log h sum r l =
    let all = whole_is_legal r.log h.base h.log r.legal r.summed l.legal in
    record { before = r.log; begun = r.legal; based = r.summed; legal = all.0; summed = all.1 ∙ l.there }
