-- What a Hello's batch answers: the Welcome last, and nothing else to its session.
use Rattle.std.proofs.Common.{refl, sym, ◌∙◌, ap, subst, ◌≡◌, ℕ, ◌+◌, List, [], ◌∷◌, ◌++◌, filter, length, true, false, not, cond, ◌||◌, ◌&&◌, append_assoc, append-nil, arith, length-append}
use Rattle.std.specs.List.{list_any, flat_map}
use Rattle.pres_ids.specs.declared.id.SessionId.{SessionId}
use Rattle.pres_wire.specs.declared.up.Up.TheVariants as up
use Rattle.pres_wire.specs.declared.down.Down.{Down}
use Rattle.pres_log.specs.declared.entry.Batch.{Batch}
use Rattle.pres_log.specs.declared.entry.Entry.{Entry}
use Rattle.pres_log.specs.declared.entry.Entry.TheVariants as entry
use Rattle.pres_log.specs.Logs.{Log, entries}
use Rattle.pres_log.proofs.Entries.{entries-push}
use Rattle.pres_server.specs.declared.input.Input.TheVariants as input
use Rattle.pres_history.specs.ServerStates.{ServerState}
use Rattle.pres_history.specs.Sessions.{opens, ends, is_newest, open_sessions, open_sessions_of}
use Rattle.pres_history.specs.Outcomes.{ops}
use Rattle.pres_history.specs.LegalLog.{IsLegal}
use Rattle.pres_history.specs.Streams.{welcome, added, is_push, answers_to, answers}
use Rattle.pres_server.specs.Turns.{makes}
use Rattle.pres_history.specs.Turns.{moment_of, hello, batch_of}
use Rattle.pres_history.proofs.Since.{any-append}
use Rattle.pres_server.proofs.Clients.{session_itself}
use Rattle.pres_history.proofs.Parts.{not_opened}
use Rattle.pres_history.proofs.LegalLogs.{legal_after, may_follow}
use Rattle.pres_ring.specs.Transcripts.{transcript, those_for}
use Rattle.pres_ring.specs.Laws.{IsWelcomed, HelloIsWelcomed}
use Rattle.pres_ring.proofs.Begins.{told_unopened}
use Rattle.pres_ring.proofs.ForSession.{those-append}
use Rattle.pres_ring.proofs.Answered.{told_new, answers_are_told}
use Rattle.pres_ring.proofs.Made.{made, all_ended, ended_opens, hello_made}

answers-append : (bs xs ys : List Entry) → answers bs (xs ++ ys) ≡ answers bs xs ++ answers (bs ++ xs) ys
answers-append bs [] ys = ap (λ l. answers l ys) (sym (append-nil bs))
answers-append bs (e ∷ xs) ys =
    ap (λ l. answers_to bs e ++ l) (answers-append (bs ++ e ∷ []) xs ys ∙ ap (λ l. answers (bs ++ e ∷ []) xs ++ answers l ys) (append_assoc bs (e ∷ []) xs))
    ∙ sym (append_assoc (answers_to bs e) (answers (bs ++ e ∷ []) xs) (answers (bs ++ e ∷ xs) ys))

nothing_before : (xs : List Down) (w : Down) → xs ++ w ∷ [] ≡ w ∷ [] → xs ≡ []
nothing_before [] w e = refl
nothing_before (x ∷ xs) w e = let n = length-append (x ∷ xs) (w ∷ []) in let k : length ((x ∷ xs) ++ w ∷ []) ≡ length (w ∷ []) = ap length e in absurd (omega arith)

-- further entries that open no session, and then the opening
welcomed : (s : SessionId) (log : Log) (m first : ℕ) (xs : List Entry) → IsLegal (log ++ record { first = first; moment = m; entries = xs ++ entry.Open s ∷ [] } ∷ []) → list_any (opens s) (entries log) ≡ false → list_any (opens s) xs ≡ false
    → IsWelcomed s (entries log) (xs ++ entry.Open s ∷ [])
welcomed s log m first xs legal fresh plain =
    record { closed = ap (λ b. b && not (list_any (ends s) bs)) fresh; untold = told_unopened s bs fresh; others = others; last = w; welcome = (length (front ++ e ∷ []), ops s.client (front ++ e ∷ []), refl); answered = split; silent = silent; told_now = all } where
      bs : List Entry
      bs = entries log

      e : Entry
      e = entry.Open s

      front : List Entry
      front = bs ++ xs

      b : Batch
      b = record { first = first; moment = m; entries = xs ++ e ∷ [] }

      w : Down
      w = welcome s (front ++ e ∷ [])

      pushes : List Down
      pushes = flat_map (λ t. filter is_push (added t front e)) (open_sessions front)

      others : List Down
      others = answers bs xs ++ pushes

      split : answers bs (xs ++ e ∷ []) ≡ others ++ w ∷ []
      split =
          answers-append bs xs (e ∷ [])
          ∙ ap (λ l. answers bs xs ++ l) (append-nil (pushes ++ w ∷ []))
          ∙ sym (append_assoc (answers bs xs) pushes (w ∷ []))

      fresh_too : list_any (opens s) front ≡ false
      fresh_too = any-append (opens s) bs xs ∙ λ i. fresh i || plain i

      all : transcript s (bs ++ (xs ++ e ∷ [])) ≡ w ∷ []
      all = ap (transcript s) (sym (append_assoc bs xs (e ∷ []))) ∙ told_new front s fresh_too ∙ ap (λ l. l ++ w ∷ []) (told_unopened s front fresh_too)

      silent : those_for s others ≡ []
      silent = nothing_before (those_for s others) w (
          sym (those-append s others (w ∷ []) ∙ ap (λ b. those_for s others ++ cond b (w ∷ []) []) (session_itself s))
          ∙ ap (those_for s) (sym split)
          ∙ sym (ap (λ l. l ++ those_for s (answers bs (xs ++ e ∷ []))) (told_unopened s bs fresh))
          ∙ sym (answers_are_told s log b legal)
          ∙ ap (transcript s) (entries-push log b)
          ∙ all)

pub hello_is_welcomed : (state : ServerState) (s : SessionId) (now : ℕ) (es : List Entry) → HelloIsWelcomed state s now es
hello_is_welcomed state s now es legal e =
    subst (IsWelcomed s bs) (sym is.1)
    (welcomed s log m (length bs + 1) xs (legal_after log (batch_of log m (xs ++ entry.Open s ∷ [])) legal (may_follow state (input.Up (up.Hello s)) now (xs ++ entry.Open s ∷ []) legal (e ∙ ap makes is.1)))
    (not_opened s bs is.0) (ended_opens s bs m (open_sessions_of s.client bs))) where
      log : Log
      log = state.log

      bs : List Entry
      bs = entries log

      m : ℕ
      m = moment_of log now

      xs : List Entry
      xs = all_ended bs m (open_sessions_of s.client bs)

      is : (is_newest s bs ≡ true) × (es ≡ xs ++ entry.Open s ∷ [])
      is = made (λ ys. (is_newest s bs ≡ true) × (ys ≡ xs ++ entry.Open s ∷ [])) bs (hello bs m s) es (hello_made bs m s) e
