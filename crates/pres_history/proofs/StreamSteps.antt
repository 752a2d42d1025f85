-- A stream grows with its log, and only at its end.
use Rattle.std.proofs.Common.{refl, sym, ◌∙◌, ap, ◌≡◌, ℕ, ◌+◌, suc, List, [], ◌∷◌, ◌++◌, length, Bool, true, false, cond, ◌||◌, append_assoc, append-nil, arith, IsTrue}
use mathlib.Core.List.{IsPrefix}
use Rattle.std.specs.List.{list_any, before_first}
use Rattle.std.proofs.lemmas.Bool.{and_parts, not-true}
use Rattle.pres_ids.specs.declared.id.SessionId.{SessionId}
use Rattle.pres_log.specs.declared.entry.Entry.{Entry}
use Rattle.pres_log.specs.declared.entry.Entry.TheVariants as entry
use Rattle.pres_server.specs.Answering.{Unnumbered}
use Rattle.pres_history.specs.Sessions.{opens, ends, since_open, is_open}
use Rattle.pres_history.specs.Streams.{sent_for, sent_from, numbered_from, stream}
use Rattle.pres_history.proofs.Since.{after-append, before-append, after-none, split_at_open, not_ended_since}

-- what later entries add after more of them, unless the session has ended
pub sent_from-append : (s : SessionId) (before xs ys : List Entry) →
    sent_from s before (xs ++ ys) ≡ sent_from s before xs ++ cond (list_any (ends s) xs) [] (sent_from s (before ++ xs) ys)
sent_from-append s before [] ys = ap (λ l. sent_from s l ys) (sym (append-nil before))
sent_from-append s before (x ∷ xs) ys = by_head (ends s x) (sent_from-append s (before ++ x ∷ []) xs ys) where
  by_head : (b : Bool) → sent_from s (before ++ x ∷ []) (xs ++ ys) ≡ sent_from s (before ++ x ∷ []) xs ++ cond (list_any (ends s) xs) [] (sent_from s ((before ++ x ∷ []) ++ xs) ys) →
      sent_for s (before ++ x ∷ []) x ++ cond b [] (sent_from s (before ++ x ∷ []) (xs ++ ys))
      ≡ (sent_for s (before ++ x ∷ []) x ++ cond b [] (sent_from s (before ++ x ∷ []) xs)) ++ cond (b || list_any (ends s) xs) [] (sent_from s (before ++ x ∷ xs) ys)
  by_head true e = sym (append-nil (sent_for s (before ++ x ∷ []) x ++ []))
  by_head false e =
      ap (λ l. sent_for s (before ++ x ∷ []) x ++ l) e
      ∙ sym (append_assoc (sent_for s (before ++ x ∷ []) x) (sent_from s (before ++ x ∷ []) xs) _)
      ∙ ap (λ l. (sent_for s (before ++ x ∷ []) x ++ sent_from s (before ++ x ∷ []) xs) ++ cond (list_any (ends s) xs) [] (sent_from s l ys)) (append_assoc before (x ∷ []) xs)

pub length-numbered_from : (r : ℕ) (ms : List Unnumbered) → length (numbered_from r ms) ≡ length ms
length-numbered_from r [] = refl
length-numbered_from r (m ∷ ms) = ap suc (length-numbered_from (r + 1) ms)

pub numbered_from-append : (r : ℕ) (ms ns : List Unnumbered) → numbered_from r (ms ++ ns) ≡ numbered_from r ms ++ numbered_from (length ms + r) ns
numbered_from-append r [] ns = let e : r ≡ 0 + r = omega arith in ap (λ k. numbered_from k ns) e
numbered_from-append r (m ∷ ms) ns =
    let e : length ms + (r + 1) ≡ suc (length ms) + r = omega arith in
    ap (λ l. m r ∷ l) (numbered_from-append (r + 1) ms ns ∙ ap (λ k. numbered_from (r + 1) ms ++ numbered_from k ns) e)

-- what further entries add, as messages without numbers
abbrev pub sent_later : SessionId → List Entry → List Entry → List Unnumbered
sent_later s es fs = cond (list_any (ends s) (since_open s es)) [] (sent_from s es fs)

-- the stream of an opened session after further entries
pub stream-append : (s : SessionId) (es fs : List Entry) → list_any (opens s) es ≡ true →
    stream s (es ++ fs) ≡ stream s es ++ numbered_from (length (stream s es) + 1) (sent_later s es fs)
stream-append s es fs o =
    (λ i. numbered_from 1 (sent_from s (front i ++ entry.Open s ∷ []) (rest i)))
    ∙ ap (numbered_from 1) (sent_from-append s (before_first (opens s) es ++ entry.Open s ∷ []) (since_open s es) fs)
    ∙ ap (λ l. numbered_from 1 (sent_from s (before_first (opens s) es ++ entry.Open s ∷ []) (since_open s es) ++ cond (list_any (ends s) (since_open s es)) [] (sent_from s l fs))) (split_at_open s es o)
    ∙ numbered_from-append 1 _ (sent_later s es fs)
    ∙ ap (λ n. stream s es ++ numbered_from (n + 1) (sent_later s es fs)) (sym (length-numbered_from 1 _)) where
      front : before_first (opens s) (es ++ fs) ≡ before_first (opens s) es
      front = before-append (opens s) es fs ∙ ap (λ b. cond b (before_first (opens s) es) (es ++ before_first (opens s) fs)) o

      rest : since_open s (es ++ fs) ≡ since_open s es ++ fs
      rest = after-append (opens s) es fs ∙ ap (λ b. cond b (since_open s es ++ fs) (since_open s fs)) o

pub sent_from-one : (s : SessionId) (es : List Entry) (e : Entry) → sent_from s es (e ∷ []) ≡ sent_for s (es ++ e ∷ []) e
sent_from-one s es e = ap (λ l. sent_for s (es ++ e ∷ []) e ++ l) (none (ends s e)) ∙ append-nil _ where
  none : (b : Bool) → cond {A = List Unnumbered} b [] [] ≡ []
  none true = refl
  none false = refl

-- the step of an open session's stream
pub stream_step : (s : SessionId) (es : List Entry) (e : Entry) → IsTrue (is_open s es) →
    stream s (es ++ e ∷ []) ≡ stream s es ++ numbered_from (length (stream s es) + 1) (sent_for s (es ++ e ∷ []) e)
stream_step s es e h =
    let o = and_parts (list_any (opens s) es) _ h in
    stream-append s es (e ∷ []) o.0
    ∙ ap (λ b. stream s es ++ numbered_from (length (stream s es) + 1) (cond b [] (sent_from s es (e ∷ [])))) (not_ended_since s es (not-true _ o.1))
    ∙ ap (λ l. stream s es ++ numbered_from (length (stream s es) + 1) l) (sent_from-one s es e)

-- nothing is sent to a session that is not opened
pub stream_unopened : (s : SessionId) (es : List Entry) → list_any (opens s) es ≡ false → stream s es ≡ []
stream_unopened s es h = ap (λ l. numbered_from 1 (sent_from s (before_first (opens s) es ++ entry.Open s ∷ []) l)) (after-none (opens s) es h)

-- nothing follows the end
pub stream_ended : (s : SessionId) (es fs : List Entry) → list_any (opens s) es ≡ true → list_any (ends s) (since_open s es) ≡ true → stream s (es ++ fs) ≡ stream s es
stream_ended s es fs o e =
    stream-append s es fs o
    ∙ ap (λ b. stream s es ++ numbered_from (length (stream s es) + 1) (cond b [] (sent_from s es fs))) e
    ∙ append-nil (stream s es)

-- the stream of a beginning of the log is a beginning of the stream
pub stream_grows : (s : SessionId) (es fs : List Entry) → IsPrefix (stream s es) (stream s (es ++ fs))
stream_grows s es fs = by_open (list_any (opens s) es) refl where
  by_open : (b : Bool) → list_any (opens s) es ≡ b → IsPrefix (stream s es) (stream s (es ++ fs))
  by_open true o = (numbered_from (length (stream s es) + 1) (sent_later s es fs), sym (stream-append s es fs o))
  by_open false o = (stream s (es ++ fs), ap (λ l. l ++ stream s (es ++ fs)) (stream_unopened s es o))
