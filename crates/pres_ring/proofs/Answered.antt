-- What a batch tells a session is what its answers hold for it.
use Rattle.std.proofs.Common.{refl, sym, ◌∙◌, ap, subst, ◌≡◌, ℕ, ◌+◌, List, [], ◌∷◌, ◌++◌, filter, length, Bool, true, false, not, cond, ◌||◌, ◌&&◌, true≢false, append_assoc, append-nil, arith, length-append}
use Rattle.std.specs.List.{list_any, before_first, after_first, flat_map}
use Rattle.std.proofs.lemmas.Bool.{and_parts}
use Rattle.pres_ids.specs.declared.id.SessionId.{SessionId}
use Rattle.pres_ids.specs.Ids.{same_session}
use Rattle.pres_wire.specs.declared.down.Down.{Down}
use Rattle.pres_log.specs.declared.entry.Batch.{Batch}
use Rattle.pres_log.specs.declared.entry.Entry.{Entry}
use Rattle.pres_log.specs.declared.entry.Entry.TheVariants as entry
use Rattle.pres_log.specs.Logs.{Log, entries}
use Rattle.pres_log.proofs.Entries.{entries-push}
use Rattle.pres_server.specs.Sessions.{session_of}
use Rattle.pres_history.specs.Sessions.{opens, ends, since_open, is_open, is_newest, open_sessions}
use Rattle.pres_history.specs.Listening.{touched}
use Rattle.pres_history.specs.LegalLog.{IsLegal, IsLegalAfter, MayFollow}
use Rattle.pres_server.specs.Answering.{Unnumbered}
use Rattle.pres_history.specs.Streams.{push_of, own_answer, sent_for, sent_from, numbered_from, stream, welcome, added, is_push, own_added, answers_to, answers}
use Rattle.pres_history.specs.InternalParts.{Sound}
use Rattle.pres_history.specs.InternalInvariants.{MayComeUncounted, MayComeInTurn}
use Rattle.pres_history.proofs.Since.{any-append, after-append, before-append, before-cons}
use Rattle.pres_server.proofs.Clients.{session_same, session_itself}
use Rattle.pres_history.proofs.StreamSteps.{numbered_from-append, stream_step}
use Rattle.pres_history.proofs.Parts.{not_opened, fresh_count}
use Rattle.pres_history.proofs.AfterEntry.{sound_start, sound_after}
use Rattle.pres_history.proofs.LegalLogs.{follows_in_turn, of_legal}
use Rattle.pres_history.proofs.Sent.{push_count}
use Rattle.pres_history.proofs.Answers.{pushes_added}
use Rattle.pres_ring.specs.Transcripts.{transcript, those_for}
use Rattle.pres_ring.specs.Laws.{AnswersExtendTranscripts, OthersAreSilent}
use Rattle.pres_ring.proofs.Begins.{told_opened, told_unopened}
use Rattle.pres_ring.proofs.GoneLast.{told_ended}
use Rattle.pres_ring.proofs.ForSession.{those-append, pushes_for, own_part}

-- ---- a session that has ended, ended after it was opened

abbrev EndsBehind : List Entry → Type 0
EndsBehind es = (s : SessionId) → list_any (ends s) es ≡ true → list_any (ends s) (since_open s es) ≡ true

-- an end is one of an opened session
opened_before : (s : SessionId) (es : List Entry) (m : ℕ) (e : Entry) → MayComeUncounted es m e → ends s e ≡ true → list_any (opens s) es ≡ true
opened_before s es m (entry.Ended t q why rows) f k = ap (λ x. list_any (opens x) es) (session_same s t k) ∙ (and_parts (list_any (opens t) es) _ f.0).0
opened_before s es m (entry.Open t) f k = absurd (true≢false (sym k))
opened_before s es m (entry.Op t q n op outcome) f k = absurd (true≢false (sym k))
opened_before s es m (entry.Again t q n) f k = absurd (true≢false (sym k))
opened_before s es m (entry.Left t q puts) f k = absurd (true≢false (sym k))
opened_before s es m (entry.Cancelled t q path) f k = absurd (true≢false (sym k))
opened_before s es m (entry.Denied t q why) f k = absurd (true≢false (sym k))
opened_before s es m (entry.On t q path) f k = absurd (true≢false (sym k))
opened_before s es m (entry.Off t q path) f k = absurd (true≢false (sym k))

or_second : (a b : Bool) → b ≡ true → (a || (b || false)) ≡ true
or_second true b k = refl
or_second false b k = ap (λ x. x || false) k

behind_after : (es : List Entry) (m : ℕ) (e : Entry) → Sound es → EndsBehind es → MayComeUncounted es m e → EndsBehind (es ++ e ∷ [])
behind_after es m e sound behind f s h = by (list_any (ends s) es) refl (sym (any-append (ends s) es (e ∷ [])) ∙ h) where
  grown : list_any (opens s) es ≡ true → list_any (ends s) (since_open s (es ++ e ∷ [])) ≡ (list_any (ends s) (since_open s es) || (ends s e || false))
  grown o = ap (list_any (ends s)) (after-append (opens s) es (e ∷ []) ∙ ap (λ b. cond b (since_open s es ++ e ∷ []) (after_first (opens s) (e ∷ []))) o) ∙ any-append (ends s) (since_open s es) (e ∷ [])

  last : (b : Bool) → (b || false) ≡ true → b ≡ true
  last true k = refl
  last false k = k

  by : (b : Bool) → list_any (ends s) es ≡ b → (b || (ends s e || false)) ≡ true → list_any (ends s) (since_open s (es ++ e ∷ [])) ≡ true
  by true k _ = grown (sound.ended s k) ∙ ap (λ b. b || (ends s e || false)) (behind s k)
  by false k l = let is = last (ends s e) l in grown (opened_before s es m e f is) ∙ or_second (list_any (ends s) (since_open s es)) (ends s e) is

-- what holds of the entries of a legal log
abbrev Kept : List Entry → Type 0
Kept es = Sound es × EndsBehind es

kept_further : (es : List Entry) (m : ℕ) (xs : List Entry) → Kept es → MayComeInTurn es m xs → Kept (es ++ xs)
kept_further es m [] k f = subst Kept (sym (append-nil es)) k
kept_further es m (e ∷ xs) k f = subst Kept (append_assoc es (e ∷ []) xs) (kept_further (es ++ e ∷ []) m xs (sound_after es m e k.0 f.0, behind_after es m e k.0 k.1 f.0) f.1)

legal_kept : (log : Log) → IsLegal log → Kept (entries log)
legal_kept = of_legal (λ log. Kept (entries log)) (sound_start, λ s h. absurd (true≢false (sym h)))
    (λ log b k f. subst Kept (sym (entries-push log b)) (kept_further (entries log) b.moment b.entries k (follows_in_turn (entries log) b.moment b.entries f.allowed)))

-- ---- what further entries send to a session

ended_there : (a b : Bool) → (a && not b) ≡ false → a ≡ true → b ≡ true
ended_there true true h k = refl
ended_there true false h k = absurd (true≢false h)
ended_there false b h k = absurd (true≢false (sym k))

-- nothing, where it is not open and is not opened by them
told_closed : (s : SessionId) (es later : List Entry) → EndsBehind es → is_open s es ≡ false → list_any (opens s) later ≡ false → transcript s (es ++ later) ≡ transcript s es
told_closed s es later behind o n = by (list_any (opens s) es) refl where
  by : (b : Bool) → list_any (opens s) es ≡ b → transcript s (es ++ later) ≡ transcript s es
  by true k = told_ended s es later k (behind s (ended_there (list_any (opens s) es) (list_any (ends s) es) o k))
  by false k = told_unopened s (es ++ later) (any-append (opens s) es later ∙ (λ i. k i || n i)) ∙ sym (told_unopened s es k)

-- what is sent to it, where it is open
told_more : (s : SessionId) (es : List Entry) (e : Entry) → is_open s es ≡ true → transcript s (es ++ e ∷ []) ≡ transcript s es ++ numbered_from (length (stream s es) + 1) (sent_for s (es ++ e ∷ []) e)
told_more s es e o =
    told_opened s (es ++ e ∷ []) (any-append (opens s) es (e ∷ []) ∙ ap (λ b. b || list_any (opens s) (e ∷ [])) was)
    ∙ (λ i. welcome s (front i ++ entry.Open s ∷ []) ∷ stream_step s es e o i)
    ∙ sym (ap (λ l. l ++ numbered_from (length (stream s es) + 1) (sent_for s (es ++ e ∷ []) e)) (told_opened s es was)) where
      was : list_any (opens s) es ≡ true
      was = (and_parts (list_any (opens s) es) _ o).0

      front : before_first (opens s) (es ++ e ∷ []) ≡ before_first (opens s) es
      front = before-append (opens s) es (e ∷ []) ∙ ap (λ b. cond b (before_first (opens s) es) (es ++ before_first (opens s) (e ∷ []))) was

-- its Welcome, where it is opened
pub told_new : (es : List Entry) (t : SessionId) → list_any (opens t) es ≡ false → transcript t (es ++ entry.Open t ∷ []) ≡ transcript t es ++ welcome t (es ++ entry.Open t ∷ []) ∷ []
told_new es t n =
    told_opened t now is_opened
    ∙ (λ i. welcome t (front i ++ e ∷ []) ∷ numbered_from 1 (sent_from t (before_first (opens t) now ++ e ∷ []) (fresh_count es t n i)))
    ∙ ap (λ l. l ++ welcome t now ∷ []) (sym (told_unopened t es n)) where
      e : Entry
      e = entry.Open t

      now : List Entry
      now = es ++ e ∷ []

      is_opened : list_any (opens t) now ≡ true
      is_opened = any-append (opens t) es (e ∷ []) ∙ (λ i. n i || (session_itself t i || false))

      front : before_first (opens t) now ≡ es
      front =
          before-append (opens t) es (e ∷ [])
          ∙ ap (λ b. cond b (before_first (opens t) es) (es ++ before_first (opens t) (e ∷ []))) n
          ∙ ap (λ l. es ++ l) (before-cons (opens t) e [] ∙ ap (λ b. cond b [] (e ∷ before_first (opens t) [])) (session_itself t))
          ∙ append-nil es

-- ---- what an entry answers

-- an entry that opens no session
said_told : (s : SessionId) (es : List Entry) (e : Entry) → Kept es → is_open (session_of e) es ≡ true → own_added es e ≡ filter (λ m. not (is_push m)) (added (session_of e) es e)
    → opens s e ≡ false → transcript s (es ++ e ∷ []) ≡ transcript s es ++ those_for s (answers_to es e)
said_told s es e kept o own n =
    by (is_open s es) refl
    ∙ ap (λ l. transcript s es ++ l) (sym (those-append s (flat_map (λ u. filter is_push (added u es e)) (open_sessions es)) (own_added es e) ∙ (λ i. pushes_for s es e kept.0 i ++ own_part s es e o own i))) where
      now : List Entry
      now = es ++ e ∷ []

      pushes : List Unnumbered
      pushes = push_of s now (touched s now e)

      first : ℕ
      first = length (stream s es) + 1

      answer : Bool → List Down
      answer b = cond b (numbered_from (length (stream s es) + push_count s es e + 1) (own_answer now e)) []

      answered : (b : Bool) → numbered_from (length pushes + first) (cond b (own_answer now e) []) ≡ answer b
      answered true = let k : length pushes + first ≡ length (stream s es) + push_count s es e + 1 = omega arith in ap (λ j. numbered_from j (own_answer now e)) k
      answered false = refl

      not_mine : (b : Bool) → same_session s (session_of e) ≡ b → is_open s es ≡ false → answer b ≡ []
      not_mine true k c = absurd (true≢false (sym o ∙ ap (λ t. is_open t es) (sym (session_same s (session_of e) k)) ∙ c))
      not_mine false k c = refl

      by : (b : Bool) → is_open s es ≡ b → transcript s now ≡ transcript s es ++ (cond b (filter is_push (added s es e)) [] ++ answer (same_session s (session_of e)))
      by true k =
          told_more s es e k
          ∙ ap (λ l. transcript s es ++ l) (numbered_from-append first pushes (cond (same_session s (session_of e)) (own_answer now e) []) ∙ λ i. sym (pushes_added s es e k) i ++ answered (same_session s (session_of e)) i)
      by false k =
          told_closed s es (e ∷ []) kept.1 k (ap (λ b. b || false) n)
          ∙ sym (append-nil (transcript s es))
          ∙ ap (λ l. transcript s es ++ l) (sym (not_mine (same_session s (session_of e)) refl k))

opened_told : (s : SessionId) (es : List Entry) (t : SessionId) → Kept es → is_newest t es ≡ true → transcript s (es ++ entry.Open t ∷ []) ≡ transcript s es ++ those_for s (answers_to es (entry.Open t))
opened_told s es t kept new =
    by (is_open s es) refl (same_session s t) refl
    ∙ ap (λ l. transcript s es ++ l) (sym (those-append s (flat_map (λ u. filter is_push (added u es e)) (open_sessions es)) (own_added es e) ∙ ap (λ l. l ++ cond (same_session s t) (welcome t now ∷ []) []) (pushes_for s es e kept.0))) where
      e : Entry
      e = entry.Open t

      now : List Entry
      now = es ++ e ∷ []

      by : (b : Bool) → is_open s es ≡ b → (d : Bool) → same_session s t ≡ d → transcript s now ≡ transcript s es ++ (cond b (filter is_push (added s es e)) [] ++ cond d (welcome t now ∷ []) [])
      by true k true d = absurd (true≢false (sym (and_parts (list_any (opens s) es) _ k).0 ∙ ap (λ u. list_any (opens u) es) (session_same s t d) ∙ not_opened t es new))
      by true k false d =
          told_more s es e k
          ∙ ap (λ b. transcript s es ++ numbered_from (length (stream s es) + 1) (push_of s now (touched s now e) ++ cond b [] [])) d
          ∙ ap (λ l. transcript s es ++ numbered_from (length (stream s es) + 1) l) (append-nil (push_of s now (touched s now e)))
          ∙ ap (λ l. transcript s es ++ l) (sym (append-nil (filter is_push (added s es e)) ∙ pushes_added s es e k))
      by false k true d = subst (λ u. transcript u now ≡ transcript u es ++ welcome t now ∷ []) (sym (session_same s t d)) (told_new es t (not_opened t es new))
      by false k false d = told_closed s es (e ∷ []) kept.1 k (ap (λ b. b || false) d) ∙ sym (append-nil (transcript s es))

answered_told : (s : SessionId) (es : List Entry) (m : ℕ) (e : Entry) → Kept es → MayComeUncounted es m e → transcript s (es ++ e ∷ []) ≡ transcript s es ++ those_for s (answers_to es e)
answered_told s es m (entry.Open t) kept f = opened_told s es t kept f.0
answered_told s es m (entry.Op t q n op outcome) kept f = said_told s es (entry.Op t q n op outcome) kept f.0.0 refl refl
answered_told s es m (entry.Again t q n) kept f = said_told s es (entry.Again t q n) kept f.0.0 refl refl
answered_told s es m (entry.Left t q puts) kept f = said_told s es (entry.Left t q puts) kept f.0.0 refl refl
answered_told s es m (entry.Cancelled t q path) kept f = said_told s es (entry.Cancelled t q path) kept f.0.0 refl refl
answered_told s es m (entry.Denied t q why) kept f = said_told s es (entry.Denied t q why) kept f.0 refl refl
answered_told s es m (entry.On t q path) kept f = said_told s es (entry.On t q path) kept f.0.0 refl refl
answered_told s es m (entry.Off t q path) kept f = said_told s es (entry.Off t q path) kept f.0 refl refl
answered_told s es m (entry.Ended t q why rows) kept f = said_told s es (entry.Ended t q why rows) kept f.0 refl refl

-- ---- and a batch

told_in_turn : (s : SessionId) (es : List Entry) (m : ℕ) (xs : List Entry) → Kept es → MayComeInTurn es m xs → transcript s (es ++ xs) ≡ transcript s es ++ those_for s (answers es xs)
told_in_turn s es m [] kept f = ap (transcript s) (append-nil es) ∙ sym (append-nil (transcript s es))
told_in_turn s es m (e ∷ xs) kept f =
    let now : List Entry = es ++ e ∷ [] in
    ap (transcript s) (sym (append_assoc es (e ∷ []) xs))
    ∙ told_in_turn s now m xs (sound_after es m e kept.0 f.0, behind_after es m e kept.0 kept.1 f.0) f.1
    ∙ ap (λ l. l ++ those_for s (answers now xs)) (answered_told s es m e kept f.0)
    ∙ append_assoc (transcript s es) (those_for s (answers_to es e)) (those_for s (answers now xs))
    ∙ ap (λ l. transcript s es ++ l) (sym (those-append s (answers_to es e) (answers now xs)))

-- a legal log without its last batch is legal, and that batch may follow it
pub split_last : (before log : Log) (b : Batch) → IsLegalAfter before (log ++ b ∷ []) → IsLegalAfter before log × MayFollow (before ++ log) b
split_last before [] b h = (tt, subst (λ l. MayFollow l b) (sym (append-nil before)) h.0)
split_last before (a ∷ log) b h =
    let rest = split_last (before ++ a ∷ []) log b h.1 in
    ((h.0, rest.0), subst (λ l. MayFollow l b) (append_assoc before (a ∷ []) log) rest.1)

pub answers_are_told : (s : SessionId) (log : Log) (b : Batch) → AnswersExtendTranscripts s log b
answers_are_told s log b legal =
    let parts = split_last [] log b legal in
    ap (transcript s) (entries-push log b)
    ∙ told_in_turn s (entries log) b.moment b.entries (legal_kept log parts.0) (follows_in_turn (entries log) b.moment b.entries parts.1.allowed)

same_then_none : (xs ys : List Down) → xs ++ ys ≡ xs → ys ≡ []
same_then_none xs [] e = refl
same_then_none xs (y ∷ ys) e = let n = length-append xs (y ∷ ys) in let k : length (xs ++ (y ∷ ys)) ≡ length xs = ap length e in absurd (omega arith)

pub others_are_silent : (s : SessionId) (log : Log) (b : Batch) → OthersAreSilent s log b
others_are_silent s log b legal o n =
    let behind = (legal_kept log (split_last [] log b legal).0).1 in
    same_then_none (transcript s (entries log)) (those_for s (answers (entries log) b.entries))
    (sym (answers_are_told s log b legal) ∙ ap (transcript s) (entries-push log b) ∙ told_closed s (entries log) b.entries behind o n)
