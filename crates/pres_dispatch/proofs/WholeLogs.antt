-- Histories of a whole log.
use Rattle.std.proofs.Common.{refl, sym, ◌∙◌, ap, subst, ◌≡◌, ◌++◌, [], List, Bool, true, false, true≢false, Option, Some, None, IfSome, arith}
use Rattle.pres_ids.specs.declared.id.SessionId.{SessionId}
use Rattle.pres_wire.specs.declared.down.Down.{Down}
use Rattle.pres_log.specs.Logs.{Log, entries}
use Rattle.pres_server.specs.Sums.{Sum, is_open_in, sum_of}
use Rattle.pres_server.specs.Histories.{LeadsTo, History, whole}
use Rattle.pres_history.specs.LegalLog.{IsLegal}
use Rattle.pres_history.specs.Sessions.{is_open}
use Rattle.pres_history.proofs.Whole.{readers_say}
use Rattle.pres_history.proofs.Histories.{legal_is_history, history_is_legal}
use Rattle.pres_ring.specs.Transcripts.{transcript}
use Rattle.pres_ring.specs.HistoryTranscripts.{was_opened_in, transcript_in}
use Rattle.pres_ring.proofs.HistoriesTell.{open_was_opened, opened_once, transcripts_begin}
use Rattle.pres_ring.proofs.LegalTranscripts.{legal_transcripts, reached_transcripts}
use Rattle.pres_ring.specs.Lines.{SessionLine, Lines, line_at}
use Rattle.pres_keeper.proofs.Nulls.{number_made}
use Rattle.pres_dispatch.specs.Dispatches.{Histories, Explains, CarriesTranscript, CarryTranscripts}
use Rattle.pres_dispatch.specs.Laws.{AreOfLog, CarriesSent, LogStands, WholeLogStands}

module _ (before log : Log) (histories : Histories) (sum : Sum) (lines : Lines) (are : AreOfLog before log histories) (explains : Explains histories sum) (told : CarryTranscripts histories.since_start sum lines) where
  abbrev since : History
  since = histories.since_start

  leads : LeadsTo (whole log) sum
  leads = subst (λ h. LeadsTo h sum) are.kept explains.kept

  legal : IsLegal log × (sum_of log ≡ sum)
  legal = history_is_legal (whole log) sum refl leads

  open_is : (s : SessionId) → is_open_in s sum ≡ is_open s (entries log)
  open_is s = ap (is_open_in s) (sym legal.1) ∙ (readers_say log legal.0).opened s

  before_leads : LeadsTo (whole before) since.base
  before_leads = subst (LeadsTo (whole before)) are.based (legal_is_history before are.begun).0

  -- a session that is open was sent nothing before the start
  unsent : (s : SessionId) → is_open_in s sum ≡ true → transcript s (entries before) ≡ []
  unsent s o = sym (legal_transcripts s before are.begun) ∙ by (was_opened_in s (whole before)) refl where
    by : (b : Bool) → was_opened_in s (whole before) ≡ b → transcript_in s (whole before) ≡ []
    by true k =
        absurd (true≢false (sym (open_was_opened s since sum explains.closed explains.since_start o) ∙ opened_once s (whole before) since.base since.log (λ t. refl) before_leads explains.since_start.legal k))
    by false k = (transcripts_begin s (whole before) since.base (λ t. refl) before_leads).unopened k

  sent_is : (s : SessionId) → is_open_in s sum ≡ true → transcript_in s since ≡ transcript s (entries log)
  sent_is s o =
      ap (λ l. l ++ transcript_in s since) (sym (unsent s o))
      ∙ sym (reached_transcripts s before since sum are.begun are.based explains.since_start)
      ∙ ap (λ l. transcript s (entries l)) (sym are.parts)

  line_sent : (s : SessionId) (line : Option SessionLine) → CarriesTranscript since sum s line → CarriesSent (entries log) s line
  line_sent s None h = sym (open_is s) ∙ h
  line_sent s (Some l) h = (sym (open_is s) ∙ h.0, by l.sent h.1) where
    by : (x : Option (List Down)) → IfSome x (λ sent. sent ≡ transcript_in s since) → IfSome x (λ sent. sent ≡ transcript s (entries log))
    by None k = tt
    by (Some xs) k = k ∙ sent_is s h.0

  log_stands : LogStands log sum lines
  log_stands =
      let number = number_made (whole log) sum leads in
      record { legal = legal.0; summed = legal.1; counted = omega (arith, number); told = λ s. line_sent s (line_at s lines) (told s) }

pub whole_log_stands : (before log : Log) (histories : Histories) (sum : Sum) (lines : Lines) → WholeLogStands before log histories sum lines
whole_log_stands before log histories sum lines are explains told = log_stands before log histories sum lines are explains told
