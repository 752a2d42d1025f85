-- Nothing is sent after Gone.
use Rattle.std.proofs.Common.{refl, sym, ◌∙◌, ap, subst, ◌≡◌, ℕ, ◌+◌, List, [], ◌∷◌, ◌++◌, length, Bool, true, false, cond, ◌||◌, true≢false, append_assoc, append-nil, Option, Some, None, slice_get, ◌-◌}
use Rattle.std.specs.List.{list_any, before_first}
use Rattle.pres_tree.specs.Paths.{Path}
use Rattle.pres_ids.specs.declared.id.SessionId.{SessionId}
use Rattle.pres_ids.specs.Ids.{same_session}
use Rattle.pres_wire.specs.declared.down.Down.{Down}
use Rattle.pres_wire.specs.declared.down.Down.TheVariants as down
use Rattle.pres_retry.specs.declared.table.Row.{Row}
use Rattle.pres_log.specs.declared.entry.Entry.{Entry}
use Rattle.pres_log.specs.declared.entry.Entry.TheVariants as entry
use Rattle.pres_server.specs.Sessions.{session_of}
use Rattle.pres_history.specs.Sessions.{opens, ends, since_open}
use Rattle.pres_history.specs.Outcomes.{rows_for}
use Rattle.pres_history.specs.Listening.{touched}
use Rattle.pres_server.specs.Answering.{Unnumbered}
use Rattle.pres_history.specs.Streams.{push_of, repeated_reply, own_answer, sent_for, sent_from, numbered_from, stream, welcome}
use Rattle.pres_history.proofs.Since.{any-append, before-append}
use Rattle.pres_history.proofs.StreamSteps.{numbered_from-append, stream_ended}
use Rattle.pres_ring.specs.Transcripts.{transcript, up_to_open, is_gone}
use Rattle.pres_ring.specs.Laws.{GoneIsLast}
use Rattle.pres_ring.proofs.Begins.{told_opened, told_unopened}

abbrev pub has_gone : List Down → Bool
has_gone ms = list_any is_gone ms

none_in_push : (s : SessionId) (now : List Entry) (ps : List Path) (r : ℕ) → has_gone (numbered_from r (push_of s now ps)) ≡ false
none_in_push s now [] r = refl
none_in_push s now (p ∷ ps) r = refl

none_in_pair : (xs ys : List Down) → has_gone xs ≡ false → has_gone ys ≡ false → has_gone (xs ++ ys) ≡ false
none_in_pair xs ys x y = any-append is_gone xs ys ∙ (λ i. x i || y i)

-- the answer to another's entry is not among what is sent, and only an end is answered by Gone
none_in_answer : (s : SessionId) (now : List Entry) (e : Entry) (r : ℕ) → ends s e ≡ false → has_gone (numbered_from r (cond (same_session s (session_of e)) (own_answer now e) [])) ≡ false
none_in_answer s now (entry.Open t) r h = by (same_session s t) where
  by : (b : Bool) → has_gone (numbered_from r (cond b [] [])) ≡ false
  by true = refl
  by false = refl
none_in_answer s now (entry.Again t q n) r h = by (same_session s t) (slice_get (rows_for t.client now) (n - 1)) where
  by : (b : Bool) (o : Option Row) → has_gone (numbered_from r (cond b (repeated_reply t (length now) q n o) [])) ≡ false
  by true None = refl
  by true (Some row) = refl
  by false o = refl
none_in_answer s now (entry.Ended t q why rows) r h = ap (λ b. has_gone (numbered_from r (cond b (own_answer now (entry.Ended t q why rows)) []))) h
none_in_answer s now (entry.Op t q n op outcome) r h = by (same_session s t) where
  by : (b : Bool) → has_gone (numbered_from r (cond b (own_answer now (entry.Op t q n op outcome)) [])) ≡ false
  by true = refl
  by false = refl
none_in_answer s now (entry.Left t q puts) r h = by (same_session s t) where
  by : (b : Bool) → has_gone (numbered_from r (cond b (own_answer now (entry.Left t q puts)) [])) ≡ false
  by true = refl
  by false = refl
none_in_answer s now (entry.Cancelled t q path) r h = by (same_session s t) where
  by : (b : Bool) → has_gone (numbered_from r (cond b (own_answer now (entry.Cancelled t q path)) [])) ≡ false
  by true = refl
  by false = refl
none_in_answer s now (entry.Denied t q why) r h = by (same_session s t) where
  by : (b : Bool) → has_gone (numbered_from r (cond b (own_answer now (entry.Denied t q why)) [])) ≡ false
  by true = refl
  by false = refl
none_in_answer s now (entry.On t q path) r h = by (same_session s t) where
  by : (b : Bool) → has_gone (numbered_from r (cond b (own_answer now (entry.On t q path)) [])) ≡ false
  by true = refl
  by false = refl
none_in_answer s now (entry.Off t q path) r h = by (same_session s t) where
  by : (b : Bool) → has_gone (numbered_from r (cond b (own_answer now (entry.Off t q path)) [])) ≡ false
  by true = refl
  by false = refl

none_in_entry : (s : SessionId) (now : List Entry) (e : Entry) (r : ℕ) → ends s e ≡ false → has_gone (numbered_from r (sent_for s now e)) ≡ false
none_in_entry s now e r h =
    let pushes = push_of s now (touched s now e) in
    let answer = cond (same_session s (session_of e)) (own_answer now e) [] in
    ap has_gone (numbered_from-append r pushes answer)
    ∙ none_in_pair (numbered_from r pushes) (numbered_from (length pushes + r) answer) (none_in_push s now (touched s now e) r) (none_in_answer s now e (length pushes + r) h)

-- there is no Gone, or it is the last message and the only one
abbrev pub GoneAtEnd : Bool → List Down → Type 0
GoneAtEnd false ms = has_gone ms ≡ false
GoneAtEnd true ms = (front : List Down) × (g : Down) × (ms ≡ front ++ g ∷ []) × (has_gone front ≡ false)

behind : (b : Bool) (xs ys : List Down) → has_gone xs ≡ false → GoneAtEnd b ys → GoneAtEnd b (xs ++ ys)
behind false xs ys x y = none_in_pair xs ys x y
behind true xs ys x y = (xs ++ y.0, y.1, ap (λ l. xs ++ l) y.2 ∙ sym (append_assoc xs y.0 (y.1 ∷ [])), none_in_pair xs y.0 x y.3)

-- an end of s is answered by Gone alone, after its Push
gone_in_entry : (s : SessionId) (now : List Entry) (e : Entry) (r : ℕ) → ends s e ≡ true → GoneAtEnd true (numbered_from r (sent_for s now e))
gone_in_entry s now (entry.Ended t q why rows) r h =
    let e = entry.Ended t q why rows in
    let pushes = push_of s now (touched s now e) in
    let g = down.Gone t (length pushes + r) (length now) why in
    (numbered_from r pushes, g, ap (λ b. numbered_from r (pushes ++ cond b (own_answer now e) [])) h ∙ numbered_from-append r pushes (own_answer now e), none_in_push s now (touched s now e) r)
gone_in_entry s now (entry.Open t) r h = absurd (true≢false (sym h))
gone_in_entry s now (entry.Op t q n op outcome) r h = absurd (true≢false (sym h))
gone_in_entry s now (entry.Again t q n) r h = absurd (true≢false (sym h))
gone_in_entry s now (entry.Left t q puts) r h = absurd (true≢false (sym h))
gone_in_entry s now (entry.Cancelled t q path) r h = absurd (true≢false (sym h))
gone_in_entry s now (entry.Denied t q why) r h = absurd (true≢false (sym h))
gone_in_entry s now (entry.On t q path) r h = absurd (true≢false (sym h))
gone_in_entry s now (entry.Off t q path) r h = absurd (true≢false (sym h))

-- what is sent holds Gone where s has ended, as its last message
gone_sent : (s : SessionId) (before later : List Entry) (r : ℕ) → GoneAtEnd (list_any (ends s) later) (numbered_from r (sent_from s before later))
gone_sent s before [] r = refl
gone_sent s before (e ∷ later) r = by (ends s e) refl (gone_sent s now later) where
  now : List Entry
  now = before ++ e ∷ []

  mine : List Unnumbered
  mine = sent_for s now e

  by : (b : Bool) → ends s e ≡ b → ((k : ℕ) → GoneAtEnd (list_any (ends s) later) (numbered_from k (sent_from s now later)))
      → GoneAtEnd (b || list_any (ends s) later) (numbered_from r (mine ++ cond b [] (sent_from s now later)))
  by true h f = subst (λ l. GoneAtEnd true (numbered_from r l)) (sym (append-nil mine)) (gone_in_entry s now e r h)
  by false h f =
      subst (GoneAtEnd (list_any (ends s) later)) (sym (numbered_from-append r mine (sent_from s now later)))
      (behind (list_any (ends s) later) (numbered_from r mine) (numbered_from (length mine + r) (sent_from s now later)) (none_in_entry s now e r h) (f (length mine + r)))

gone_told : (s : SessionId) (es : List Entry) → GoneAtEnd (list_any (ends s) (since_open s es)) (welcome s (up_to_open s es) ∷ stream s es)
gone_told s es = behind (list_any (ends s) (since_open s es)) (welcome s (up_to_open s es) ∷ []) (stream s es) refl (gone_sent s (up_to_open s es) (since_open s es) 1)

-- ---- a beginning that holds Gone

both_empty : (xs ys : List Down) → xs ++ ys ≡ [] → ys ≡ []
both_empty [] ys e = e
both_empty (x ∷ xs) ys e = absurd (cc e)

same_head : (x y : Down) (xs ys : List Down) → x ∷ xs ≡ y ∷ ys → x ≡ y
same_head x y xs ys e = cc e

same_tail : (x y : Down) (xs ys : List Down) → x ∷ xs ≡ y ∷ ys → xs ≡ ys
same_tail x y xs ys e = cc e

neither : (a b : Bool) → (a || b) ≡ false → (a ≡ false) × (b ≡ false)
neither true b h = absurd (true≢false h)
neither false b h = (refl, h)

other_one : (a b : Bool) → (a || b) ≡ true → a ≡ false → b ≡ true
other_one true b h k = absurd (true≢false k)
other_one false b h k = h

whole : (xs rest front : List Down) (g : Down) → xs ++ rest ≡ front ++ g ∷ [] → has_gone front ≡ false → has_gone xs ≡ true → rest ≡ []
whole [] rest front g e n h = absurd (true≢false (sym h))
whole (x ∷ xs) rest [] g e n h = both_empty xs rest (same_tail x g (xs ++ rest) [] e)
whole (x ∷ xs) rest (f ∷ front) g e n h =
    let none = neither (is_gone f) (has_gone front) n in
    let same = same_head x f (xs ++ rest) (front ++ g ∷ []) e in
    whole xs rest front g (same_tail x f (xs ++ rest) (front ++ g ∷ []) e) none.1 (other_one (is_gone x) (has_gone xs) h (ap is_gone same ∙ none.0))

pub has_gone_first : (xs rest : List Down) → has_gone xs ≡ true → has_gone (xs ++ rest) ≡ true
has_gone_first xs rest h = any-append is_gone xs rest ∙ ap (λ b. b || has_gone rest) h

-- then the session has ended, and that is all of it
pub gone_prefix : (b : Bool) (xs rest ms : List Down) → GoneAtEnd b ms → xs ++ rest ≡ ms → has_gone xs ≡ true → (b ≡ true) × (rest ≡ [])
gone_prefix false xs rest ms g e h = absurd (true≢false (sym (has_gone_first xs rest h) ∙ ap has_gone e ∙ g))
gone_prefix true xs rest ms g e h = (refl, whole xs rest g.0 g.1 (e ∙ g.2) g.3 h)

-- nothing is sent after the end
pub told_ended : (s : SessionId) (es later : List Entry) → list_any (opens s) es ≡ true → list_any (ends s) (since_open s es) ≡ true → transcript s (es ++ later) ≡ transcript s es
told_ended s es later o e =
    told_opened s (es ++ later) (any-append (opens s) es later ∙ ap (λ b. b || list_any (opens s) later) o)
    ∙ (λ i. welcome s (front i ++ entry.Open s ∷ []) ∷ stream_ended s es later o e i)
    ∙ sym (told_opened s es o) where
      front : before_first (opens s) (es ++ later) ≡ before_first (opens s) es
      front = before-append (opens s) es later ∙ ap (λ b. cond b (before_first (opens s) es) (es ++ before_first (opens s) later)) o

pub gone_is_last : (s : SessionId) (xs : List Down) (es later : List Entry) → GoneIsLast s xs es later
gone_is_last s xs es later p h = by (list_any (opens s) es) refl where
  by : (b : Bool) → list_any (opens s) es ≡ b → transcript s (es ++ later) ≡ xs
  by true o =
      let is = gone_prefix (list_any (ends s) (since_open s es)) xs p.0 (welcome s (up_to_open s es) ∷ stream s es) (gone_told s es) (p.1 ∙ told_opened s es o) h in
      told_ended s es later o is.0 ∙ sym p.1 ∙ ap (λ l. xs ++ l) is.1 ∙ append-nil xs
  by false o = absurd (true≢false (sym (has_gone_first xs p.0 h) ∙ ap has_gone (p.1 ∙ told_unopened s es o)))
