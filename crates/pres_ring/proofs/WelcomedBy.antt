-- What a Hello's batch answers, by the sum: the Welcome last, and nothing else to its session.
use Rattle.std.proofs.Common.{refl, sym, ◌∙◌, ap, subst, ◌≡◌, ℕ, ◌+◌, List, [], ◌∷◌, ◌++◌, length, Bool, true, false, ◌||◌, true≢false, append_assoc, append-nil}
use Rattle.std.specs.List.{list_any}
use Rattle.std.proofs.lemmas.List.Folds.{list_any-append}
use Rattle.pres_ids.specs.declared.id.SessionId.{SessionId}
use Rattle.pres_ids.specs.Ids.{stamp_of}
use Rattle.pres_wire.specs.declared.up.Up.TheVariants as up
use Rattle.pres_wire.specs.declared.down.Down.{Down}
use Rattle.pres_log.specs.declared.entry.Batch.{Batch}
use Rattle.pres_log.specs.declared.entry.Entry.{Entry}
use Rattle.pres_log.specs.declared.entry.Entry.TheVariants as entry
use Rattle.pres_server.specs.declared.input.Input.TheVariants as input
use Rattle.pres_server.specs.InternalParts.{Part, comes_after, listed, hello_by}
use Rattle.pres_server.specs.InternalSums.{MayEnterAll}
use Rattle.pres_server.specs.Sums.{Sum, part_in, is_open_in, sum_after, sum_after_all, sum_with}
use Rattle.pres_server.specs.SumStates.{SumState}
use Rattle.pres_server.specs.SumAnswers.{entry_pushes, answers_to_by, answers_by}
use Rattle.pres_server.specs.SumTurns.{FollowsSum, moment_by, batch_by}
use Rattle.pres_server.specs.Histories.{Keeps, IsSum, History, LeadsTo, with_batch}
use Rattle.pres_server.proofs.Clients.{session_itself}
use Rattle.pres_server.proofs.KeptSums.{after_all, enters}
use Rattle.pres_server.proofs.Turning.{turn_follows}
use Rattle.pres_history.specs.Sessions.{opens}
use Rattle.pres_history.proofs.Histories.{history_holds, history_grows}
use Rattle.pres_ring.specs.Transcripts.{those_for}
use Rattle.pres_ring.specs.HistoryTranscripts.{IsClosed, was_opened_in, transcript_in, BeginsTranscriptIn}
use Rattle.pres_ring.specs.LawsByTheSum.{IsWelcomedIn, HelloIsWelcomedIn}
use Rattle.pres_ring.proofs.ForSession.{those-append}
use Rattle.pres_ring.proofs.OpenSteps.{past_open, closed_all}
use Rattle.pres_ring.proofs.SentSteps.{welcome_by, pushes_for_closed, opening_told, all_silent}
use Rattle.pres_ring.proofs.HistoriesTell.{answers_extend, opened_with, untold_by}
use Rattle.pres_ring.proofs.MadeBy.{made, all_ended, ended_opens, hello_made}

answers-append : (xs ys : List Entry) (sum : Sum) → answers_by sum (xs ++ ys) ≡ answers_by sum xs ++ answers_by (sum_after_all xs sum) ys
answers-append [] ys sum = refl
answers-append (e ∷ xs) ys sum =
    ap (λ l. answers_to_by sum e ++ l) (answers-append xs ys (sum_after e sum))
    ∙ sym (append_assoc (answers_to_by sum e) (answers_by (sum_after e sum) xs) (answers_by (sum_after_all xs (sum_after e sum)) ys))

first_enter : (xs ys : List Entry) (sum : Sum) (m : ℕ) → MayEnterAll sum m (xs ++ ys) → MayEnterAll sum m xs
first_enter [] ys sum m f = tt
first_enter (e ∷ xs) ys sum m f = (f.0, first_enter xs ys (sum_after e sum) m f.1)

-- a session that comes after the last one of its client is closed
newer_closed : (s : SessionId) (sum : Sum) → comes_after (part_in sum s.client).last (stamp_of s) ≡ true → is_open_in s sum ≡ false
newer_closed s sum new = by (is_open_in s sum) refl where
  by : (b : Bool) → is_open_in s sum ≡ b → b ≡ false
  by false o = refl
  by true o = absurd (true≢false (sym new ∙ past_open sum s o))

or_true : (b : Bool) → (b || true) ≡ true
or_true true = refl
or_true false = refl

-- further entries that open no session, and then the opening
module _ (s : SessionId) (sum : Sum) (xs : List Entry) (m : ℕ) (k : Keeps sum) (f : MayEnterAll sum m (xs ++ entry.Open s ∷ [])) (closed : is_open_in s sum ≡ false) (plain : list_any (opens s) xs ≡ false) where
  abbrev after : Sum
  after = sum_after_all xs sum

  each : MayEnterAll sum m xs
  each = first_enter xs (entry.Open s ∷ []) sum m f

  keeps : Keeps after
  keeps = (after_all xs sum m k each).keeps

  closed_after : is_open_in s after ≡ false
  closed_after = closed_all xs sum m k each s closed plain

  abbrev others : List Down
  others = answers_by sum xs ++ entry_pushes after (entry.Open s)

  parted : answers_by sum (xs ++ entry.Open s ∷ []) ≡ others ++ welcome_by s after ∷ []
  parted =
      answers-append xs (entry.Open s ∷ []) sum
      ∙ ap (λ l. answers_by sum xs ++ l) (append-nil (answers_to_by after (entry.Open s)))
      ∙ sym (append_assoc (answers_by sum xs) (entry_pushes after (entry.Open s)) (welcome_by s after ∷ []))

  silent_before : those_for s (answers_by sum xs) ≡ []
  silent_before = all_silent s xs sum m k each closed plain

  silent : those_for s others ≡ []
  silent =
      those-append s (answers_by sum xs) (entry_pushes after (entry.Open s))
      ∙ (λ i. silent_before i ++ pushes_for_closed s after (entry.Open s) keeps closed_after i)

  told : those_for s (answers_by sum (xs ++ entry.Open s ∷ [])) ≡ welcome_by s after ∷ []
  told =
      ap (those_for s) (answers-append xs (entry.Open s ∷ []) sum ∙ ap (λ l. answers_by sum xs ++ l) (append-nil (answers_to_by after (entry.Open s))))
      ∙ those-append s (answers_by sum xs) (answers_to_by after (entry.Open s))
      ∙ (λ i. silent_before i ++ opening_told s after keeps closed_after i)

  -- it is opened by the last entry
  opens_last : list_any (opens s) (xs ++ entry.Open s ∷ []) ≡ true
  opens_last = list_any-append (opens s) xs (entry.Open s ∷ []) ∙ (λ i. plain i || (session_itself s i || false))

  module _ (h : History) (b : Batch) (is : b.entries ≡ xs ++ entry.Open s ∷ []) (shut : IsClosed h) (leads : LeadsTo h sum) (follows : FollowsSum sum b) (none : transcript_in s h ≡ []) where
    told_now : transcript_in s (with_batch h b) ≡ welcome_by s after ∷ []
    told_now = answers_extend s h sum b leads follows ∙ (λ i. none i ++ (ap (λ es. those_for s (answers_by sum es)) is ∙ told) i)

    begins : BeginsTranscriptIn s (welcome_by s after ∷ [])
    begins = record {
      history = with_batch h b;
      sum = sum_with sum b;
      closed = shut;
      leads = (history_grows h sum b leads follows).leads;
      opened = opened_with s h b ∙ ap (λ x. was_opened_in s h || x) (ap (list_any (opens s)) is ∙ opens_last) ∙ or_true (was_opened_in s h);
      within = ([], append-nil (welcome_by s after ∷ []) ∙ sym told_now);
    }

    welcomed : IsWelcomedIn s h sum b
    welcomed = record {
      closed = closed;
      untold = none;
      others = others;
      last = welcome_by s after;
      welcome = (after.number + 1, length (part_in after s.client).rows, refl);
      answered = ap (answers_by sum) is ∙ parted;
      silent = silent;
      told_now = told_now;
      begins = begins;
    }

pub hello_is_welcomed : (h : History) (state : SumState) (s : SessionId) (now : ℕ) (es : List Entry) → HelloIsWelcomedIn h state s now es
hello_is_welcomed h state s now es shut leads e =
    welcomed s sum xs m k.keeps (subst (MayEnterAll sum m) is.1 (enters sum m es follows.allowed)) (newer_closed s sum is.0) (ended_opens s p.live sum.tree m (listed s.client p.live))
    h (batch_by sum m es) is.1 shut leads follows (untold_by s h sum (shut s) leads (λ past. absurd (true≢false (sym is.0 ∙ past)))) where
      sum : Sum
      sum = state.sum

      m : ℕ
      m = moment_by sum now

      p : Part
      p = part_in sum s.client

      xs : List Entry
      xs = all_ended p.live sum.tree m (listed s.client p.live)

      k : IsSum sum
      k = history_holds h sum leads

      follows : FollowsSum sum (batch_by sum m es)
      follows = turn_follows state (input.Up (up.Hello s)) now k es e

      is : (comes_after p.last (stamp_of s) ≡ true) × (es ≡ xs ++ entry.Open s ∷ [])
      is = made (λ ys. (comes_after p.last (stamp_of s) ≡ true) × (ys ≡ xs ++ entry.Open s ∷ [])) sum.number (length sum.sessions) (hello_by p sum.tree m s) es (hello_made p sum.tree m s) e
