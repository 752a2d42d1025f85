-- What is answered is what the log tells its sessions.
use Rattle.std.proofs.Common.{refl, sym, ◌∙◌, ap, subst, ◌≡◌, ◌+◌, ℕ, zero, suc, List, [], ◌∷◌, ◌++◌, length, Bool, true, false, cond, not, Option, Some, None, arith, slice_get, append_assoc, filter}
use Rattle.std.specs.List.{before_first, flat_map, AllByRecursion}
use Rattle.pres_ids.specs.declared.id.SessionId.{SessionId}
use Rattle.pres_ids.specs.Ids.{same_session}
use Rattle.pres_retry.specs.declared.table.Row.{Row}
use Rattle.pres_tree.specs.Paths.{Path}
use Rattle.pres_wire.specs.declared.down.Down.{Down}
use Rattle.pres_wire.specs.declared.down.Down.TheVariants as down
use Rattle.pres_log.specs.declared.entry.Entry.{Entry}
use Rattle.pres_log.specs.declared.entry.Entry.TheVariants as entry
use Rattle.pres_log.specs.Logs.{item_at}
use Rattle.pres_history.specs.LegalLog.{MayComeTogether}
use Rattle.pres_history.specs.Listening.{touched}
use Rattle.pres_server.specs.Sessions.{session_of}
use Rattle.pres_history.specs.Sessions.{opens, ends, since_open, open_sessions}
use Rattle.pres_server.specs.Answering.{Unnumbered}
use Rattle.pres_history.specs.Streams.{push_of, repeated_reply, own_answer, sent_for, sent_from, numbered_from, stream, added, is_push, own_added, answers_to, answers}
use Rattle.pres_server.proofs.Clients.{session_same}
use Rattle.pres_history.proofs.StreamSteps.{stream_grows}
use Rattle.pres_world.specs.Safe.{IsInTranscript}
use Rattle.pres_world.proofs.Stands.{none_or_some}
use Rattle.pres_world.proofs.Backed.{Sure, Backed, backed_front, answers_backed, item_front, all_front, all_into, all_dropped, all_filtered, all_flat}

-- under its number in the stream of s it is sent to its session
abbrev SaysSo : SessionId → Unnumbered → Type 0
SaysSo s u = (r : ℕ) (es : List Entry) → item_at (stream s es) r ≡ Some (u r) → IsInTranscript es (u r)

push_says : (s : SessionId) (now : List Entry) (paths : List Path) → AllByRecursion (SaysSo s) (push_of s now paths)
push_says s now [] = tt
push_says s now (p ∷ paths) = ((λ r es h. h), tt)

again_says : (s : SessionId) (z q n : ℕ) (row : Option Row) → AllByRecursion (SaysSo s) (repeated_reply s z q n row)
again_says s z q n None = tt
again_says s z q n (Some row) = ((λ r es h. h), tt)

own_says : (now : List Entry) (e : Entry) → AllByRecursion (SaysSo (session_of e)) (own_answer now e)
own_says now (entry.Open s) = tt
own_says now (entry.Op s q n op outcome) = ((λ r es h. h), tt)
own_says now (entry.Again s q n) = again_says s (length now) q n _
own_says now (entry.Left s q puts) = ((λ r es h. h), tt)
own_says now (entry.Cancelled s q path) = ((λ r es h. h), tt)
own_says now (entry.Denied s q why) = ((λ r es h. h), tt)
own_says now (entry.On s q path) = ((λ r es h. h), tt)
own_says now (entry.Off s q path) = ((λ r es h. h), tt)
own_says now (entry.Ended s q why rows) = ((λ r es h. h), tt)

sent_says : (s : SessionId) (before later : List Entry) → AllByRecursion (SaysSo s) (sent_from s before later)
sent_says s before [] = tt
sent_says s before (e ∷ later) =
    all_front (SaysSo s) (sent_for s now e) (cond (ends s e) [] (sent_from s now later))
    (all_front (SaysSo s) (push_of s now (touched s now e)) (cond (same_session s (session_of e)) (own_answer now e) []) (push_says s now (touched s now e)) (by_own (same_session s (session_of e)) refl))
    (by_end (ends s e) (sent_says s now later)) where
      now : List Entry
      now = before ++ e ∷ []

      by_own : (b : Bool) → same_session s (session_of e) ≡ b → AllByRecursion (SaysSo s) (cond b (own_answer now e) [])
      by_own true k = subst (λ x. AllByRecursion (SaysSo x) (own_answer now e)) (sym (session_same s (session_of e) k)) (own_says now e)
      by_own false k = tt

      by_end : (b : Bool) → AllByRecursion (SaysSo s) (sent_from s now later) → AllByRecursion (SaysSo s) (cond b [] (sent_from s now later))
      by_end true h = tt
      by_end false h = h

down_is : (x y : Down) → Some x ≡ Some y → x ≡ y
down_is x y e = grind arith

-- a message of a numbered list, and the number that it got
numbered_at : (s : SessionId) (r : ℕ) (us : List Unnumbered) → AllByRecursion (SaysSo s) us → (i : ℕ) (x : Down) → slice_get (numbered_from r us) i ≡ Some x → (u : Unnumbered) × SaysSo s u × (u (i + r) ≡ x)
numbered_at s r [] h i x get = absurd (none_or_some x get)
numbered_at s r (u ∷ us) h zero x get = let count : 0 + r ≡ r = omega arith in (u, h.0, ap u count ∙ down_is (u r) x get)
numbered_at s r (u ∷ us) h (suc i) x get =
    let rest = numbered_at s (r + 1) us h.1 i x get in
    let count : suc i + r ≡ i + (r + 1) = omega arith in
    (rest.0, rest.1, ap rest.0 count ∙ rest.2)

told_at : (s : SessionId) (es : List Entry) (i : ℕ) (x : Down) → slice_get (stream s es) i ≡ Some x → IsInTranscript es x
told_at s es i x get =
    let u = numbered_at s 1 _ (sent_says s (before_first (opens s) es ++ entry.Open s ∷ []) (since_open s es)) i x get in
    let number : i + 1 ≡ suc i = omega arith in
    subst (IsInTranscript es) u.2 (u.1 (i + 1) es (ap (item_at (stream s es)) number ∙ get ∙ ap Some (sym u.2)))

all_by : (P : Down → Type 0) (xs : List Down) → ((i : ℕ) (x : Down) → slice_get xs i ≡ Some x → P x) → AllByRecursion P xs
all_by P [] f = tt
all_by P (x ∷ xs) f = (f 0 x refl, all_by P xs (λ i y get. f (suc i) y get))

stream_told : (s : SessionId) (es : List Entry) → AllByRecursion (IsInTranscript es) (stream s es)
stream_told s es = all_by (IsInTranscript es) (stream s es) (told_at s es)

added_told : (es : List Entry) (e : Entry) (s : SessionId) (p : Down → Bool) → AllByRecursion (IsInTranscript (es ++ e ∷ [])) (filter p (added s es e))
added_told es e s p = all_filtered (IsInTranscript (es ++ e ∷ [])) p (added s es e) (all_dropped (IsInTranscript (es ++ e ∷ [])) (stream s (es ++ e ∷ [])) (length (stream s es)) (stream_told s (es ++ e ∷ [])))

own_told : (es : List Entry) (e : Entry) → AllByRecursion (IsInTranscript (es ++ e ∷ [])) (own_added es e)
own_told es (entry.Open s) = ((es, [], refl, refl), tt)
own_told es (entry.Op s q n op outcome) = added_told es (entry.Op s q n op outcome) s (λ m. not (is_push m))
own_told es (entry.Again s q n) = added_told es (entry.Again s q n) s (λ m. not (is_push m))
own_told es (entry.Left s q puts) = added_told es (entry.Left s q puts) s (λ m. not (is_push m))
own_told es (entry.Cancelled s q path) = added_told es (entry.Cancelled s q path) s (λ m. not (is_push m))
own_told es (entry.Denied s q why) = added_told es (entry.Denied s q why) s (λ m. not (is_push m))
own_told es (entry.On s q path) = added_told es (entry.On s q path) s (λ m. not (is_push m))
own_told es (entry.Off s q path) = added_told es (entry.Off s q path) s (λ m. not (is_push m))
own_told es (entry.Ended s q why rows) = added_told es (entry.Ended s q why rows) s (λ m. not (is_push m))

answer_told : (es : List Entry) (e : Entry) → AllByRecursion (IsInTranscript (es ++ e ∷ [])) (answers_to es e)
answer_told es e =
    all_front (IsInTranscript (es ++ e ∷ [])) (flat_map (λ s. filter is_push (added s es e)) (open_sessions es)) (own_added es e)
    (all_flat (IsInTranscript (es ++ e ∷ [])) (λ s. filter is_push (added s es e)) (open_sessions es) (λ s. added_told es e s is_push))
    (own_told es e)

-- what was sent stays sent
item_told : (s : SessionId) (es more : List Entry) (r : ℕ) (m : Down) → item_at (stream s es) r ≡ Some m → item_at (stream s (es ++ more)) r ≡ Some m
item_told s es more r m h = let grown = stream_grows s es more in subst (λ l. item_at l r ≡ Some m) grown.1 (item_front (stream s es) grown.0 r m h)

told_front : (es more : List Entry) (m : Down) → IsInTranscript es m → IsInTranscript (es ++ more) m
told_front es more (down.Welcome s z ops) h = (h.0, h.1 ++ more, ap (λ l. l ++ more) h.2 ∙ append_assoc h.0 (entry.Open s ∷ h.1) more, h.3)
told_front es more (down.Reply s r z q n done out) h = item_told s es more r _ h
told_front es more (down.Gone s r z why) h = item_told s es more r _ h
told_front es more (down.Fault session reason) h = tt
told_front es more (down.Armed s r z q) h = item_told s es more r _ h
told_front es more (down.Denied s r z q why) h = item_told s es more r _ h
told_front es more (down.Snap s r z q p v) h = item_told s es more r _ h
told_front es more (down.Push s r z values) h = item_told s es more r _ h
told_front es more (down.OffDone s r z q) h = item_told s es more r _ h

answers_told : (es xs : List Entry) → AllByRecursion (IsInTranscript (es ++ xs)) (answers es xs)
answers_told es [] = tt
answers_told es (e ∷ later) =
    subst (λ all. AllByRecursion (IsInTranscript all) (answers es (e ∷ later))) (append_assoc es (e ∷ []) later)
    (all_front (IsInTranscript ((es ++ e ∷ []) ++ later)) (answers_to es e) (answers (es ++ e ∷ []) later)
    (all_into (IsInTranscript (es ++ e ∷ [])) (IsInTranscript ((es ++ e ∷ []) ++ later)) (answers_to es e) (told_front (es ++ e ∷ []) later) (answer_told es e))
    (answers_told (es ++ e ∷ []) later))

-- ---- all that is so of a message that went out

abbrev pub Vouched : List Entry → Down → Type 0
Vouched es m = Backed es m × IsInTranscript es m

pub vouched_front : (es more : List Entry) (m : Down) → Vouched es m → Vouched (es ++ more) m
vouched_front es more m h = (backed_front es more m h.0, told_front es more m h.1)

both : (P Q : Down → Type 0) (xs : List Down) → AllByRecursion P xs → AllByRecursion Q xs → AllByRecursion (λ x. P x × Q x) xs
both P Q [] h k = tt
both P Q (x ∷ xs) h k = ((h.0, k.0), both P Q xs h.1 k.1)

pub answers_vouched : (es : List Entry) (m : ℕ) (xs : List Entry) → Sure es → MayComeTogether es m xs → AllByRecursion (Vouched (es ++ xs)) (answers es xs)
answers_vouched es m xs h t = both (Backed (es ++ xs)) (IsInTranscript (es ++ xs)) (answers es xs) (answers_backed es m xs h t) (answers_told es xs)
