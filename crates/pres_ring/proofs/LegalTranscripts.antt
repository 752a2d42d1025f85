-- What legal logs send to sessions is what their histories send to them.
use Rattle.std.proofs.Common.{refl, sym, ◌∙◌, ap, subst, ◌≡◌, List, [], ◌∷◌, ◌++◌, Bool, true, false, ◌||◌, true≢false, append_assoc, append-nil}
use Rattle.std.specs.List.{list_any}
use Rattle.std.proofs.lemmas.List.Concat.{flat_map-append}
use Rattle.std.proofs.lemmas.List.Folds.{list_any-append}
use Rattle.pres_ids.specs.declared.id.SessionId.{SessionId}
use Rattle.pres_wire.specs.declared.down.Down.{Down}
use Rattle.pres_log.specs.declared.entry.Batch.{Batch}
use Rattle.pres_log.specs.Logs.{Log, entries}
use Rattle.pres_server.specs.Sums.{Sum, nothing, sum_with, sum_of}
use Rattle.pres_server.specs.SumAnswers.{answers_by}
use Rattle.pres_server.specs.SumTurns.{FollowAll}
use Rattle.pres_server.specs.Histories.{IsSum, History, whole, answers_from}
use Rattle.pres_server.proofs.Replayed.{sum_push}
use Rattle.pres_history.specs.LegalLog.{IsLegal, MayFollow}
use Rattle.pres_history.specs.Sessions.{opens}
use Rattle.pres_history.specs.SumLaws.{SumSays}
use Rattle.pres_history.proofs.LegalLogs.{legal_after}
use Rattle.pres_history.proofs.Whole.{sum_says, whole_is_legal, legal_by_the_sum}
use Rattle.pres_history.proofs.Histories.{legal_is_history}
use Rattle.pres_ring.specs.Transcripts.{transcript, those_for}
use Rattle.pres_ring.specs.HistoryTranscripts.{was_opened_in, transcript_in}
use Rattle.pres_ring.specs.LawsByTheSum.{LegalTranscripts, ReachedTranscripts, LegalBegins, ReachedBegins}
use Rattle.pres_ring.proofs.ForSession.{those-append}
use Rattle.pres_ring.proofs.Answered.{answers_are_told}
use Rattle.pres_ring.proofs.OpenSteps.{IsPast}
use Rattle.pres_ring.proofs.HistoriesTell.{untold_by, past_from}

-- after a legal log the later batches send on what they answer from its sum
sent_later : (s : SessionId) (later log : Log) → IsLegal log → FollowAll (sum_of log) later → transcript s (entries (log ++ later)) ≡ transcript s (entries log) ++ those_for s (answers_from (sum_of log) later)
sent_later s [] log legal f = ap (λ l. transcript s (entries l)) (append-nil log) ∙ sym (append-nil (transcript s (entries log)))
sent_later s (b ∷ later) log legal f =
    ap (λ l. transcript s (entries l)) (sym (append_assoc log (b ∷ []) later))
    ∙ sent_later s later next legal_next (subst (λ x. FollowAll x later) (sym (sum_push nothing log b)) f.1)
    ∙ (λ i. (answers_are_told s log b legal_next ∙ ap (λ ms. transcript s (entries log) ++ those_for s ms) (sym (says.answered b follows))) i ++ those_for s (answers_from (sum_push nothing log b i) later))
    ∙ append_assoc (transcript s (entries log)) (those_for s (answers_by (sum_of log) b.entries)) (those_for s (answers_from (sum_with (sum_of log) b) later))
    ∙ ap (λ l. transcript s (entries log) ++ l) (sym (those-append s (answers_by (sum_of log) b.entries) (answers_from (sum_with (sum_of log) b) later))) where
      says : SumSays log
      says = sum_says log legal

      follows : MayFollow log b
      follows = (says.follows b).0 f.0

      next : Log
      next = log ++ b ∷ []

      legal_next : IsLegal next
      legal_next = legal_after log b legal follows

pub legal_transcripts : (s : SessionId) (log : Log) → LegalTranscripts s log
legal_transcripts s log legal = sym (sent_later s log [] tt ((legal_by_the_sum log).0 legal))

pub reached_transcripts : (s : SessionId) (before : Log) (h : History) (sum : Sum) → ReachedTranscripts s before h sum
reached_transcripts s before h sum legal same l =
    sent_later s h.log before legal (subst (λ x. FollowAll x h.log) (sym same) l.legal)
    ∙ ap (λ x. transcript s (entries before) ++ those_for s (answers_from x h.log)) same

pub legal_begins : (s : SessionId) (xs : List Down) → LegalBegins s xs
legal_begins s xs k = record {
  history = whole k.log;
  sum = sum_of k.log;
  closed = λ t. refl;
  leads = (legal_is_history k.log k.legal).0;
  opened = k.opened;
  within = (k.within.0, k.within.1 ∙ sym (legal_transcripts s k.log k.legal));
}

-- ---- of a history whose base some legal log has

-- before the base nothing was sent to a session that was opened since
unsent_before : (s : SessionId) (before : Log) (h : History) → IsLegal before → sum_of before ≡ h.base → IsSum h.base → FollowAll h.base h.log → was_opened_in s h ≡ true → transcript s (entries before) ≡ []
unsent_before s before h legal same k f opened =
    sym (legal_transcripts s before legal)
    ∙ untold_by s (whole before) (sum_of before) refl (legal_is_history before legal).0
    (λ past. absurd (true≢false (sym opened ∙ past_from s h.log h.base k f (subst (IsPast s) same past))))

or_true : (b : Bool) → (b || true) ≡ true
or_true true = refl
or_true false = refl

pub reached_begins : (s : SessionId) (xs : List Down) → ReachedBegins s xs
reached_begins s xs k r = record {
  log = r.log ++ h.log;
  legal = (whole_is_legal r.log h.base h.log r.legal r.summed k.leads.legal).0;
  opened =
      ap (list_any (opens s)) (flat_map-append (λ (b : Batch). b.entries) r.log h.log)
      ∙ list_any-append (opens s) (entries r.log) (entries h.log)
      ∙ ap (λ b. list_any (opens s) (entries r.log) || b) k.opened
      ∙ or_true (list_any (opens s) (entries r.log));
  within = (
    k.within.0,
    k.within.1
        ∙ ap (λ l. l ++ transcript_in s h) (sym (unsent_before s r.log h r.legal r.summed k.leads.base k.leads.legal k.opened))
        ∙ sym (reached_transcripts s r.log h k.sum r.legal r.summed k.leads),
  );
} where
  h : History
  h = k.history
