-- Who is open after a batch, by its answers.
use Rattle.std.proofs.Common.{refl, sym, ◌∙◌, ap, ◌≡◌, ℕ, ◌+◌, ◌-◌, List, [], ◌∷◌, ◌++◌, filter, length, Bool, true, false, not, cond, ◌||◌, ◌&&◌, true≢false, append_assoc, Option, Some, None, slice_get}
use Rattle.std.specs.List.{list_any, flat_map}
use Rattle.pres_ids.specs.declared.id.SessionId.{SessionId}
use Rattle.pres_ids.specs.Ids.{same_session}
use Rattle.pres_wire.specs.declared.down.Down.{Down}
use Rattle.pres_wire.specs.declared.down.Down.TheVariants as down
use Rattle.pres_retry.specs.declared.table.Row.{Row}
use Rattle.pres_log.specs.declared.entry.Batch.{Batch}
use Rattle.pres_log.specs.declared.entry.Entry.{Entry}
use Rattle.pres_log.specs.declared.entry.Entry.TheVariants as entry
use Rattle.pres_log.specs.Logs.{Log, entries}
use Rattle.pres_log.proofs.Entries.{entries-push}
use Rattle.pres_server.specs.Sessions.{session_of}
use Rattle.pres_history.specs.Sessions.{opens, ends, is_open, open_sessions}
use Rattle.pres_history.specs.Outcomes.{rows_for}
use Rattle.pres_history.specs.LegalLog.{MayComeTogether}
use Rattle.pres_server.specs.Batches.{Supersedes}
use Rattle.pres_history.specs.Streams.{repeated_reply, own_answer, numbered_from, stream, added, is_push, own_added, answers_to, answers}
use Rattle.pres_history.specs.InternalParts.{Sound}
use Rattle.pres_history.specs.InternalInvariants.{MayComeUncounted, MayComeInTurn}
use Rattle.pres_history.proofs.Since.{any-append}
use Rattle.pres_server.proofs.Clients.{session_same}
use Rattle.pres_history.proofs.Steps.{or_false}
use Rattle.pres_history.proofs.Parts.{uncounted, not_ended}
use Rattle.pres_history.proofs.AfterEntry.{sound_after}
use Rattle.pres_history.proofs.Sent.{push_count}
use Rattle.pres_history.proofs.LegalLogs.{follows_in_turn, legal_is_sound}
use Rattle.pres_ring.specs.Transcripts.{is_gone_for}
use Rattle.pres_ring.specs.Laws.{GoneTells, OpenAfter}
use Rattle.pres_ring.proofs.ForSession.{own_number}
use Rattle.pres_ring.proofs.Answered.{split_last}

abbrev tells_gone : SessionId → List Down → Bool
tells_gone s ms = list_any (is_gone_for s) ms

-- ---- a Push tells no end

push_is_no_gone : (s : SessionId) (m : Down) → is_push m ≡ true → is_gone_for s m ≡ false
push_is_no_gone s (down.Gone t r z why) h = absurd (true≢false (sym h))
push_is_no_gone s _ h = refl

pushes_tell_none : (s : SessionId) (ms : List Down) → tells_gone s (filter is_push ms) ≡ false
pushes_tell_none s [] = refl
pushes_tell_none s (m ∷ ms) = by (is_push m) refl (pushes_tell_none s ms) where
  by : (b : Bool) → is_push m ≡ b → tells_gone s (filter is_push ms) ≡ false → tells_gone s (cond b (m ∷ filter is_push ms) (filter is_push ms)) ≡ false
  by true k r = λ i. push_is_no_gone s m k i || r i
  by false k r = r

all_tell_none : (s : SessionId) (f : SessionId → List Down) (ts : List SessionId) → tells_gone s (flat_map (λ t. filter is_push (f t)) ts) ≡ false
all_tell_none s f [] = refl
all_tell_none s f (t ∷ ts) =
    any-append (is_gone_for s) (filter is_push (f t)) (flat_map (λ u. filter is_push (f u)) ts)
    ∙ λ i. pushes_tell_none s (f t) i || all_tell_none s f ts i

-- ---- the own answer tells it where the entry is the end

own_tells : (s : SessionId) (now : List Entry) (e : Entry) (r : ℕ) → tells_gone s (numbered_from r (own_answer now e)) ≡ ends s e
own_tells s now (entry.Open t) r = refl
own_tells s now (entry.Op t q n op outcome) r = refl
own_tells s now (entry.Again t q n) r = by (slice_get (rows_for t.client now) (n - 1)) where
  by : (o : Option Row) → tells_gone s (numbered_from r (repeated_reply t (length now) q n o)) ≡ false
  by None = refl
  by (Some row) = refl
own_tells s now (entry.Left t q puts) r = refl
own_tells s now (entry.Cancelled t q path) r = refl
own_tells s now (entry.Denied t q why) r = refl
own_tells s now (entry.On t q path) r = refl
own_tells s now (entry.Off t q path) r = refl
own_tells s now (entry.Ended t q why rows) r = or_false (same_session s t)

said_tells : (s : SessionId) (es : List Entry) (e : Entry) → is_open (session_of e) es ≡ true → own_added es e ≡ filter (λ m. not (is_push m)) (added (session_of e) es e)
    → tells_gone s (answers_to es e) ≡ ends s e
said_tells s es e o same =
    any-append (is_gone_for s) (flat_map (λ t. filter is_push (added t es e)) (open_sessions es)) (own_added es e)
    ∙ (λ i. all_tell_none s (λ t. added t es e) (open_sessions es) i || tells_gone s (same i))
    ∙ ap (tells_gone s) (own_number es e o)
    ∙ own_tells s (es ++ e ∷ []) e (length (stream (session_of e) es) + push_count (session_of e) es e + 1)

entry_tells : (s : SessionId) (es : List Entry) (m : ℕ) (e : Entry) → MayComeUncounted es m e → tells_gone s (answers_to es e) ≡ ends s e
entry_tells s es m (entry.Open t) f =
    let e : Entry = entry.Open t in
    any-append (is_gone_for s) (flat_map (λ u. filter is_push (added u es e)) (open_sessions es)) (own_added es e)
    ∙ ap (λ b. b || false) (all_tell_none s (λ u. added u es e) (open_sessions es))
entry_tells s es m (entry.Op t q n op outcome) f = said_tells s es (entry.Op t q n op outcome) f.0.0 refl
entry_tells s es m (entry.Again t q n) f = said_tells s es (entry.Again t q n) f.0.0 refl
entry_tells s es m (entry.Left t q puts) f = said_tells s es (entry.Left t q puts) f.0.0 refl
entry_tells s es m (entry.Cancelled t q path) f = said_tells s es (entry.Cancelled t q path) f.0.0 refl
entry_tells s es m (entry.Denied t q why) f = said_tells s es (entry.Denied t q why) f.0 refl
entry_tells s es m (entry.On t q path) f = said_tells s es (entry.On t q path) f.0.0 refl
entry_tells s es m (entry.Off t q path) f = said_tells s es (entry.Off t q path) f.0 refl
entry_tells s es m (entry.Ended t q why rows) f = said_tells s es (entry.Ended t q why rows) f.0 refl

told_in_turn : (s : SessionId) (es : List Entry) (m : ℕ) (xs : List Entry) → MayComeInTurn es m xs → tells_gone s (answers es xs) ≡ list_any (ends s) xs
told_in_turn s es m [] f = refl
told_in_turn s es m (e ∷ xs) f =
    any-append (is_gone_for s) (answers_to es e) (answers (es ++ e ∷ []) xs)
    ∙ λ i. entry_tells s es m e f.0 i || told_in_turn s (es ++ e ∷ []) m xs f.1 i

pub gone_tells : (s : SessionId) (log : Log) (b : Batch) → GoneTells s log b
gone_tells s log b legal = told_in_turn s (entries log) b.moment b.entries (follows_in_turn (entries log) b.moment b.entries (split_last [] log b legal).1.allowed)

-- ---- what a batch opens has not ended

fresh_entry : (s : SessionId) (es : List Entry) (m : ℕ) (e : Entry) → Sound es → MayComeUncounted es m e → opens s e ≡ true → list_any (ends s) (es ++ e ∷ []) ≡ false
fresh_entry s es m (entry.Open t) sound f h =
    any-append (ends s) es (entry.Open t ∷ [])
    ∙ or_false (list_any (ends s) es)
    ∙ ap (λ u. list_any (ends u) es) (session_same s t h)
    ∙ not_ended t es sound f.0
fresh_entry s es m _ sound f h = absurd (true≢false (sym h))

ends_first : (s : SessionId) (e f : Entry) → Supersedes e f → opens s e ≡ false
ends_first s (entry.Ended t q why rows) f p = refl
ends_first s (entry.Open t) f p = absurd p
ends_first s (entry.Op t q n op outcome) f p = refl
ends_first s (entry.Again t q n) f p = refl
ends_first s (entry.Left t q puts) f p = refl
ends_first s (entry.Cancelled t q path) f p = refl
ends_first s (entry.Denied t q why) f p = refl
ends_first s (entry.On t q path) f p = refl
ends_first s (entry.Off t q path) f p = refl

fresh_batch : (s : SessionId) (es : List Entry) (m : ℕ) (xs : List Entry) → Sound es → MayComeTogether es m xs → list_any (opens s) xs ≡ true → list_any (ends s) (es ++ xs) ≡ false
fresh_batch s es m [] sound t h = absurd t
fresh_batch s es m (e ∷ []) sound t h = fresh_entry s es m e sound (uncounted es m e t.1) (sym (or_false (opens s e)) ∙ h)
fresh_batch s es m (e ∷ f ∷ []) sound t h =
    let now : List Entry = es ++ e ∷ [] in
    let mine : opens s f ≡ true = sym (or_false (opens s f)) ∙ sym (ap (λ b. b || (opens s f || false)) (ends_first s e f t.0)) ∙ h in
    ap (list_any (ends s)) (sym (append_assoc es (e ∷ []) (f ∷ [])))
    ∙ fresh_entry s now m f (sound_after es m e sound (uncounted es m e t.1)) (uncounted now m f t.2) mine
fresh_batch s es m (e ∷ f ∷ g ∷ more) sound t h = absurd t

opened_or_left : (o e n p : Bool) → (p ≡ true → (e || n) ≡ false) → ((o || p) && not (e || n)) ≡ (((o && not e) && not n) || p)
opened_or_left true true true true h = absurd (true≢false (h refl))
opened_or_left true true false true h = absurd (true≢false (h refl))
opened_or_left true false true true h = absurd (true≢false (h refl))
opened_or_left true false false true h = refl
opened_or_left false true true true h = absurd (true≢false (h refl))
opened_or_left false true false true h = absurd (true≢false (h refl))
opened_or_left false false true true h = absurd (true≢false (h refl))
opened_or_left false false false true h = refl
opened_or_left true true n false h = refl
opened_or_left true false true false h = refl
opened_or_left true false false false h = refl
opened_or_left false e n false h = refl

pub open_after : (s : SessionId) (log : Log) (b : Batch) → OpenAfter s log b
open_after s log b legal =
    let es : List Entry = entries log in
    let parts = split_last [] log b legal in
    ap (is_open s) (entries-push log b)
    ∙ (λ i. any-append (opens s) es b.entries i && not (any-append (ends s) es b.entries i))
    ∙ opened_or_left (list_any (opens s) es) (list_any (ends s) es) (list_any (ends s) b.entries) (list_any (opens s) b.entries)
    (λ h. sym (any-append (ends s) es b.entries) ∙ fresh_batch s es b.moment b.entries (legal_is_sound log parts.0) parts.1.allowed h)
    ∙ ap (λ g. (is_open s es && not g) || list_any (opens s) b.entries) (sym (gone_tells s log b legal))
