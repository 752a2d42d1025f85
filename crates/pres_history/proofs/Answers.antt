-- What one entry more answers.
use Rattle.std.proofs.Common.{refl, sym, ◌∙◌, ap, ◌≡◌, ℕ, ◌+◌, ◌-◌, List, [], ◌∷◌, ◌++◌, length, drop, filter, map, Bool, true, false, not, cond, arith, length-append, Option, Some, None, slice_get}
use Rattle.pres_tree.specs.Paths.{Path}
use Rattle.pres_tree.specs.Rows.{value_at}
use Rattle.pres_write.specs.Outcomes.{kept_of}
use Rattle.pres_ids.specs.declared.id.SessionId.{SessionId}
use Rattle.pres_wire.specs.declared.down.Down.TheVariants.{Welcome, Reply, Armed, Snap, Push, OffDone, Denied, Gone}
use Rattle.pres_ids.specs.Ids.{same_session}
use Rattle.pres_retry.specs.declared.table.Row.{Row}
use Rattle.pres_log.specs.declared.entry.Entry.{Entry}
use Rattle.pres_log.specs.declared.entry.Entry.TheVariants as entry
use Rattle.pres_log.specs.Logs.{tree}
use Rattle.pres_server.specs.Sessions.{session_of}
use Rattle.pres_server.specs.Answering.{Unnumbered, shown}
use Rattle.pres_server.specs.InternalParts.{message_next, reply_next, answer_by}
use Rattle.pres_server.proofs.Clients.{session_itself}
use Rattle.pres_history.specs.Sessions.{is_open, open_sessions_of}
use Rattle.pres_history.specs.Outcomes.{rows_for}
use Rattle.pres_history.specs.Listening.{touched}
use Rattle.pres_history.specs.Streams.{push_of, repeated_reply, own_answer, sent_for, numbered_from, stream, added, is_push, own_added}
use Rattle.pres_history.specs.InternalParts.{Sound}
use Rattle.pres_history.specs.InternalInvariants.{MayComeUncounted}
use Rattle.pres_history.proofs.StreamSteps.{stream_step}
use Rattle.pres_history.proofs.Parts.{only_open, no_row, row_there, own_again}
use Rattle.pres_history.proofs.Sent.{push_count, sent_between}

drop_first : {A : Type 0} (xs ys : List A) → drop (length xs) (xs ++ ys) ≡ ys
drop_first [] ys = refl
drop_first (x ∷ xs) ys = drop_first xs ys

-- an entry adds to the stream of an open session what it sends to it
added_is : (s : SessionId) (es : List Entry) (e : Entry) → is_open s es ≡ true → added s es e ≡ numbered_from (length (stream s es) + 1) (sent_for s (es ++ e ∷ []) e)
added_is s es e o =
    ap (drop (length (stream s es))) (stream_step s es e o)
    ∙ drop_first (stream s es) (numbered_from (length (stream s es) + 1) (sent_for s (es ++ e ∷ []) e))

-- an answer is no Push
no_push : (now : List Entry) (e : Entry) (r : ℕ) → filter is_push (numbered_from r (own_answer now e)) ≡ []
no_push now (entry.Open s) r = refl
no_push now (entry.Op s q n op outcome) r = refl
no_push now (entry.Again s q n) r = by (slice_get (rows_for s.client now) (n - 1)) where
  by : (o : Option Row) → filter is_push (numbered_from r (repeated_reply s (length now) q n o)) ≡ []
  by None = refl
  by (Some row) = refl
no_push now (entry.Left s q puts) r = refl
no_push now (entry.Cancelled s q path) r = refl
no_push now (entry.Denied s q why) r = refl
no_push now (entry.On s q path) r = refl
no_push now (entry.Off s q path) r = refl
no_push now (entry.Ended s q why rows) r = refl

all_answer : (now : List Entry) (e : Entry) (r : ℕ) → filter (λ m. not (is_push m)) (numbered_from r (own_answer now e)) ≡ numbered_from r (own_answer now e)
all_answer now (entry.Open s) r = refl
all_answer now (entry.Op s q n op outcome) r = refl
all_answer now (entry.Again s q n) r = by (slice_get (rows_for s.client now) (n - 1)) where
  by : (o : Option Row) → filter (λ m. not (is_push m)) (numbered_from r (repeated_reply s (length now) q n o)) ≡ numbered_from r (repeated_reply s (length now) q n o)
  by None = refl
  by (Some row) = refl
all_answer now (entry.Left s q puts) r = refl
all_answer now (entry.Cancelled s q path) r = refl
all_answer now (entry.Denied s q why) r = refl
all_answer now (entry.On s q path) r = refl
all_answer now (entry.Off s q path) r = refl
all_answer now (entry.Ended s q why rows) r = refl

no_push_if : (now : List Entry) (e : Entry) (b : Bool) (r : ℕ) → filter is_push (numbered_from r (cond b (own_answer now e) [])) ≡ []
no_push_if now e true r = no_push now e r
no_push_if now e false r = refl

-- the Push that a session gets of an entry
pub pushes_added : (s : SessionId) (es : List Entry) (e : Entry) → is_open s es ≡ true
    → filter is_push (added s es e) ≡ numbered_from (length (stream s es) + 1) (push_of s (es ++ e ∷ []) (touched s (es ++ e ∷ []) e))
pushes_added s es e o = ap (filter is_push) (added_is s es e o) ∙ by (touched s (es ++ e ∷ []) e) where
  now : List Entry
  now = es ++ e ∷ []

  r : ℕ
  r = length (stream s es) + 1

  by : (ps : List Path) → filter is_push (numbered_from r (push_of s now ps ++ cond (same_session s (session_of e)) (own_answer now e) [])) ≡ numbered_from r (push_of s now ps)
  by [] = no_push_if now e (same_session s (session_of e)) r
  by (p ∷ ps) = ap (λ l. Push s r (length now) (map (shown (tree now)) (p ∷ ps)) ∷ l) (no_push_if now e (same_session s (session_of e)) (r + 1))

-- and the answer to the entry's own session
own_is : (es : List Entry) (e : Entry) → is_open (session_of e) es ≡ true
    → filter (λ m. not (is_push m)) (added (session_of e) es e) ≡ numbered_from (length (stream (session_of e) es) + push_count (session_of e) es e + 1) (own_answer (es ++ e ∷ []) e)
own_is es e o =
    ap (filter (λ m. not (is_push m))) (added_is s es e o ∙ ap (λ b. numbered_from r (push_of s now (touched s now e) ++ cond b (own_answer now e) [])) (session_itself s))
    ∙ by (touched s now e) where
      s : SessionId
      s = session_of e

      now : List Entry
      now = es ++ e ∷ []

      r : ℕ
      r = length (stream s es) + 1

      by : (ps : List Path) → filter (λ m. not (is_push m)) (numbered_from r (push_of s now ps ++ own_answer now e)) ≡ numbered_from (length (stream s es) + length (push_of s now ps) + 1) (own_answer now e)
      by [] =
          let n : length (stream s es) + 1 ≡ length (stream s es) + 0 + 1 = omega arith in
          all_answer now e r ∙ ap (λ k. numbered_from k (own_answer now e)) n
      by (p ∷ ps) = all_answer now e (r + 1)

-- where one message answers
one_answer : (s : SessionId) (es : List Entry) (e : Entry) (msg : Unnumbered) → Sound es → is_open s es ≡ true → own_answer (es ++ e ∷ []) e ≡ msg ∷ []
    → numbered_from (length (stream s es) + push_count s es e + 1) (own_answer (es ++ e ∷ []) e) ≡ message_next (sent_between (open_sessions_of s.client es) es e) msg
one_answer s es e msg sound o one =
    ap (numbered_from (length (stream s es) + push_count s es e + 1)) one
    ∙ sym (ap (λ l. message_next (sent_between l es e) msg) (only_open s es sound o))

-- the own answer depends on what the log says of the entry's client
pub own_answered : (es : List Entry) (m : ℕ) (e : Entry) → Sound es → MayComeUncounted es m e
    → own_added es e ≡ answer_by (length es + 1) e (rows_for (session_of e).client es) (sent_between (open_sessions_of (session_of e).client es) es e) (tree (es ++ e ∷ []))
own_answered es m (entry.Open s) sound f = λ i. Welcome s (length-append es (entry.Open s ∷ []) i) (length (no_row s.client es (entry.Open s) refl i)) ∷ []
own_answered es m (entry.Op s q n op outcome) sound f =
    let e = entry.Op s q n op outcome in
    own_is es e f.0.0 ∙ one_answer s es e (λ r. Reply s r (length es + 1) q n (length es + 1) (kept_of outcome)) sound f.0.0 (λ i. (λ r. Reply s r (length-append es (e ∷ []) i) q n (length-append es (e ∷ []) i) (kept_of outcome)) ∷ [])
own_answered es m (entry.Again s q n) sound f =
    let e = entry.Again s q n in
    let row = row_there es s.client n f.1 f.2 in
    own_is es e f.0.0 ∙ one_answer s es e (λ r. Reply s r (length es + 1) q n row.0.done row.0.kept) sound f.0.0 (own_again es s q n row.0 row.1)
    ∙ ap (reply_next s (length es + 1) q n (sent_between (open_sessions_of s.client es) es e)) (sym row.1)
own_answered es m (entry.Left s q puts) sound f =
    let e = entry.Left s q puts in
    own_is es e f.0.0 ∙ one_answer s es e (λ r. Armed s r (length es + 1) q) sound f.0.0 (λ i. (λ r. Armed s r (length-append es (e ∷ []) i) q) ∷ [])
own_answered es m (entry.Cancelled s q path) sound f =
    let e = entry.Cancelled s q path in
    own_is es e f.0.0 ∙ one_answer s es e (λ r. Armed s r (length es + 1) q) sound f.0.0 (λ i. (λ r. Armed s r (length-append es (e ∷ []) i) q) ∷ [])
own_answered es m (entry.Denied s q why) sound f =
    let e = entry.Denied s q why in
    own_is es e f.0 ∙ one_answer s es e (λ r. Denied s r (length es + 1) q why) sound f.0 (λ i. (λ r. Denied s r (length-append es (e ∷ []) i) q why) ∷ [])
own_answered es m (entry.On s q path) sound f =
    let e = entry.On s q path in
    own_is es e f.0.0 ∙ one_answer s es e (λ r. Snap s r (length es + 1) q path (value_at path (tree (es ++ e ∷ [])))) sound f.0.0
    (λ i. (λ r. Snap s r (length-append es (e ∷ []) i) q path (value_at path (tree (es ++ e ∷ [])))) ∷ [])
own_answered es m (entry.Off s q path) sound f =
    let e = entry.Off s q path in
    own_is es e f.0 ∙ one_answer s es e (λ r. OffDone s r (length es + 1) q) sound f.0 (λ i. (λ r. OffDone s r (length-append es (e ∷ []) i) q) ∷ [])
own_answered es m (entry.Ended s q why rows) sound f =
    let e = entry.Ended s q why rows in
    own_is es e f.0 ∙ one_answer s es e (λ r. Gone s r (length es + 1) why) sound f.0 (λ i. (λ r. Gone s r (length-append es (e ∷ []) i) why) ∷ [])
