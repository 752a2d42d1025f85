-- What stands in a stream: numbers of entries there are, Snaps that answer an On, and Pushes whose paths rise.
use Rattle.std.proofs.Common.{refl, sym, ◌∙◌, ap, subst, ◌≡◌, ◌+◌, ◌≤◌, ℕ, zero, suc, List, [], ◌∷◌, ◌++◌, length, Bool, true, false, cond, ◌||◌, ◌⊎◌, inl, inr, Option, Some, None, true≢false, arith, slice_get, append_assoc, length-append, filter, IsTrue}
use Rattle.std.specs.List.{list_any, before_first, AllByRecursion}
use Rattle.std.specs.List.Sorted.{IsStrictlySortedBy}
use Rattle.pres_ids.specs.declared.id.SessionId.{SessionId}
use Rattle.pres_ids.specs.Ids.{same_session}
use Rattle.pres_retry.specs.declared.table.Row.{Row}
use Rattle.pres_tree.specs.Paths.{Path, path_cmp}
use Rattle.pres_wire.specs.declared.down.Down.{Down}
use Rattle.pres_wire.specs.declared.down.Down.TheVariants as down
use Rattle.pres_wire.specs.Messages.{number_in}
use Rattle.pres_log.specs.declared.entry.Entry.{Entry}
use Rattle.pres_log.specs.declared.entry.Entry.TheVariants as entry
use Rattle.pres_log.specs.Logs.{Log, entries, tree}
use Rattle.pres_client.specs.Steps.{IsMessage}
use Rattle.pres_history.specs.LegalLog.{MayCome, IsLegal}
use Rattle.pres_history.specs.Listening.{touched, listened}
use Rattle.pres_server.specs.Sessions.{session_of}
use Rattle.pres_history.specs.Sessions.{opens, ends, since_open, is_open, count}
use Rattle.pres_server.specs.Answering.{Unnumbered}
use Rattle.pres_history.specs.Streams.{push_of, repeated_reply, own_answer, sent_for, sent_from, numbered_from, stream}
use Rattle.pres_server.proofs.Clients.{session_same}
use Rattle.pres_history.proofs.Since.{any-append}
use Rattle.pres_history.proofs.Parts.{fresh_count}
use Rattle.pres_history.proofs.ListenSteps.{touched_sorted}
use Rattle.pres_server.proofs.Pushed.{shown_rises}
use Rattle.pres_history.proofs.StreamSteps.{stream-append, stream_ended, stream_unopened, sent_from-one}
use Rattle.pres_world.proofs.Stands.{none_or_some, entries_rule}
use Rattle.pres_world.proofs.Backed.{all_front}

-- a Snap of the stream of s, there after this many, is the answer to an On
abbrev pub SnapFrom : SessionId → List Entry → ℕ → Down → Type 0
SnapFrom s es i (down.Snap t r z q p v) = (before : List Entry) × (later : List Entry) × (es ≡ before ++ entry.On s q p ∷ later) × (length (stream s before) ≡ i) × IsTrue (is_open s before) × (q ≡ count s before + 1)
SnapFrom s es i _ = Unit {0}

abbrev pub Streamed : List Entry → Type 0
Streamed es = (s : SessionId) (i : ℕ) (m : Down) → slice_get (stream s es) i ≡ Some m → (number_in m ≤ length es) × SnapFrom s es i m × IsMessage m

abbrev is_snap : Down → Bool
is_snap (down.Welcome s z ops) = false
is_snap (down.Reply s r z q n done out) = false
is_snap (down.Gone s r z why) = false
is_snap (down.Fault session reason) = false
is_snap (down.Armed s r z q) = false
is_snap (down.Denied s r z q why) = false
is_snap (down.Snap s r z q p v) = true
is_snap (down.Push s r z values) = false
is_snap (down.OffDone s r z q) = false

no_snap : (s : SessionId) (es : List Entry) (i : ℕ) (m : Down) → is_snap m ≡ false → SnapFrom s es i m
no_snap s es i (down.Welcome t z ops) h = tt
no_snap s es i (down.Reply t r z q n done out) h = tt
no_snap s es i (down.Gone t r z why) h = tt
no_snap s es i (down.Fault session reason) h = tt
no_snap s es i (down.Armed t r z q) h = tt
no_snap s es i (down.Denied t r z q why) h = tt
no_snap s es i (down.Snap t r z q p v) h = absurd (true≢false h)
no_snap s es i (down.Push t r z values) h = tt
no_snap s es i (down.OffDone t r z q) h = tt

snap_front : (s : SessionId) (es more : List Entry) (i : ℕ) (m : Down) → SnapFrom s es i m → SnapFrom s (es ++ more) i m
snap_front s es more i (down.Welcome t z ops) h = tt
snap_front s es more i (down.Reply t r z q n done out) h = tt
snap_front s es more i (down.Gone t r z why) h = tt
snap_front s es more i (down.Fault session reason) h = tt
snap_front s es more i (down.Armed t r z q) h = tt
snap_front s es more i (down.Denied t r z q why) h = tt
snap_front s es more i (down.Snap t r z q p v) h = (h.0, h.1 ++ more, ap (λ l. l ++ more) h.2 ∙ append_assoc h.0 (entry.On s q p ∷ h.1) more, h.3, h.4, h.5)
snap_front s es more i (down.Push t r z values) h = tt
snap_front s es more i (down.OffDone t r z q) h = tt

-- ---- what an entry sends

-- its number is the entry's, and it is a message, but no Snap
abbrev Plain : List Entry → Unnumbered → Type 0
Plain now u = (r : ℕ) → (number_in (u r) ≡ length now) × (is_snap (u r) ≡ false) × IsMessage (u r)

push_plain : (s : SessionId) (now : List Entry) (paths : List Path) → IsStrictlySortedBy path_cmp paths → AllByRecursion (Plain now) (push_of s now paths)
push_plain s now [] h = tt
push_plain s now (p ∷ paths) h = ((λ r. (refl, refl, shown_rises (tree now) (p ∷ paths) h)), tt)

again_plain : (now : List Entry) (s : SessionId) (q n : ℕ) (row : Option Row) → AllByRecursion (Plain now) (repeated_reply s (length now) q n row)
again_plain now s q n None = tt
again_plain now s q n (Some row) = ((λ r. (refl, refl, tt)), tt)

abbrev listens : Entry → Bool
listens (entry.On s q p) = true
listens _ = false

own_plain : (now : List Entry) (e : Entry) → listens e ≡ false → AllByRecursion (Plain now) (own_answer now e)
own_plain now (entry.Open s) h = tt
own_plain now (entry.Op s q n op outcome) h = ((λ r. (refl, refl, tt)), tt)
own_plain now (entry.Again s q n) h = again_plain now s q n _
own_plain now (entry.Left s q puts) h = ((λ r. (refl, refl, tt)), tt)
own_plain now (entry.Cancelled s q path) h = ((λ r. (refl, refl, tt)), tt)
own_plain now (entry.Denied s q why) h = ((λ r. (refl, refl, tt)), tt)
own_plain now (entry.On s q path) h = absurd (true≢false h)
own_plain now (entry.Off s q path) h = ((λ r. (refl, refl, tt)), tt)
own_plain now (entry.Ended s q why rows) h = ((λ r. (refl, refl, tt)), tt)

sent_plain : (s : SessionId) (now : List Entry) (e : Entry) → listens e ≡ false → AllByRecursion (Plain now) (sent_for s now e)
sent_plain s now e h = all_front (Plain now) (push_of s now (touched s now e)) _ (push_plain s now (touched s now e) (touched_sorted s now e)) (by (same_session s (session_of e))) where
  by : (b : Bool) → AllByRecursion (Plain now) (cond b (own_answer now e) [])
  by true = own_plain now e h
  by false = tt

down_is : (x y : Down) → Some x ≡ Some y → x ≡ y
down_is x y e = grind arith

numbered_plain : (now : List Entry) (r : ℕ) (us : List Unnumbered) → AllByRecursion (Plain now) us → (j : ℕ) (x : Down) → slice_get (numbered_from r us) j ≡ Some x → (number_in x ≡ length now) × (is_snap x ≡ false) × IsMessage x
numbered_plain now r [] h j x get = absurd (none_or_some x get)
numbered_plain now r (u ∷ us) h zero x get = subst (λ y. (number_in y ≡ length now) × (is_snap y ≡ false) × IsMessage y) (down_is (u r) x get) (h.0 r)
numbered_plain now r (u ∷ us) h (suc j) x get = numbered_plain now (r + 1) us h.1 j x get

never : {A : Type 0} (xs : List A) → filter (λ x. false) xs ≡ []
never [] = refl
never (x ∷ xs) = never xs

-- what message j of these is
abbrev New : SessionId → List Entry → Entry → ℕ → Down → Type 0
New s es e j x = (number_in x ≤ length (es ++ e ∷ [])) × SnapFrom s (es ++ e ∷ []) (length (stream s es) + j) x × IsMessage x

on_new : (s t : SessionId) (q m : ℕ) (p : Path) (es : List Entry) → MayCome es m (entry.On t q p) → (r j : ℕ) (x : Down) → slice_get (numbered_from r (sent_for s (es ++ entry.On t q p ∷ []) (entry.On t q p))) j ≡ Some x → New s es (entry.On t q p) j x
on_new s t q m p es may r j x get = by (same_session s t) refl j (sym (ap (λ l. slice_get (numbered_from r l) j) is) ∙ get) where
  e : Entry
  e = entry.On t q p

  now : List Entry
  now = es ++ e ∷ []

  is : sent_for s now e ≡ cond (same_session s t) (own_answer now e) []
  is = ap (λ l. push_of s now l ++ cond (same_session s t) (own_answer now e) []) (never (listened s now))

  by : (b : Bool) → same_session s t ≡ b → (j : ℕ) → slice_get (numbered_from r (cond b (own_answer now e) [])) j ≡ Some x → New s es e j x
  by true k zero h = subst (New s es e 0) (down_is _ x h) (omega arith, (es, [], ap (λ y. es ++ entry.On y q p ∷ []) (sym same), place, subst (λ y. IsTrue (is_open y es)) (sym same) may.0.0, may.0.1 ∙ ap (λ y. count y es + 1) (sym same)), tt) where
    same : s ≡ t
    same = session_same s t k

    place : length (stream s es) ≡ length (stream s es) + 0
    place = omega arith
  by true k (suc j) h = absurd (none_or_some x h)
  by false k j h = absurd (none_or_some x h)

plain_new : (s : SessionId) (es : List Entry) (e : Entry) → listens e ≡ false → (r j : ℕ) (x : Down) → slice_get (numbered_from r (sent_for s (es ++ e ∷ []) e)) j ≡ Some x → New s es e j x
plain_new s es e h r j x get =
    let is = numbered_plain (es ++ e ∷ []) r _ (sent_plain s (es ++ e ∷ []) e h) j x get in
    let n = is.0 in
    (omega (arith, n), no_snap s (es ++ e ∷ []) (length (stream s es) + j) x is.1, is.2)

new : (s : SessionId) (es : List Entry) (m : ℕ) (e : Entry) → MayCome es m e → (r j : ℕ) (x : Down) → slice_get (numbered_from r (sent_for s (es ++ e ∷ []) e)) j ≡ Some x → New s es e j x
new s es m (entry.Open t) may = plain_new s es (entry.Open t) refl
new s es m (entry.Op t q n op outcome) may = plain_new s es (entry.Op t q n op outcome) refl
new s es m (entry.Again t q n) may = plain_new s es (entry.Again t q n) refl
new s es m (entry.Left t q puts) may = plain_new s es (entry.Left t q puts) refl
new s es m (entry.Cancelled t q path) may = plain_new s es (entry.Cancelled t q path) refl
new s es m (entry.Denied t q why) may = plain_new s es (entry.Denied t q why) refl
new s es m (entry.On t q path) may = on_new s t q m path es may
new s es m (entry.Off t q path) may = plain_new s es (entry.Off t q path) refl
new s es m (entry.Ended t q why rows) may = plain_new s es (entry.Ended t q why rows) refl

-- ---- one entry more

pub get_in_append : {A : Type 0} (xs ys : List A) (i : ℕ) (x : A) → slice_get (xs ++ ys) i ≡ Some x → (slice_get xs i ≡ Some x) ⊎ ((j : ℕ) × (i ≡ length xs + j) × (slice_get ys j ≡ Some x))
get_in_append [] ys i x h = let e : i ≡ 0 + i = omega arith in inr (i, e, h)
get_in_append (y ∷ xs) ys zero x h = inl h
get_in_append (y ∷ xs) ys (suc i) x h = more (get_in_append xs ys i x h) where
  more : (slice_get xs i ≡ Some x) ⊎ ((j : ℕ) × (i ≡ length xs + j) × (slice_get ys j ≡ Some x)) → (slice_get xs i ≡ Some x) ⊎ ((j : ℕ) × (suc i ≡ suc (length xs) + j) × (slice_get ys j ≡ Some x))
  more (inl k) = inl k
  more (inr k) = let e = k.1 in inr (k.0, omega (arith, e), k.2)

still_unopened : (s : SessionId) (es : List Entry) (e : Entry) → opens s e ≡ false → list_any (opens s) es ≡ false → stream s (es ++ e ∷ []) ≡ []
still_unopened s es e k n = stream_unopened s (es ++ e ∷ []) (any-append (opens s) es (e ∷ []) ∙ λ i. n i || (k i || false))

opening_stream : (s : SessionId) (es : List Entry) (e : Entry) → list_any (opens s) es ≡ false → stream s (es ++ e ∷ []) ≡ []
opening_stream s es (entry.Open t) n = by (same_session s t) refl where
  by : (b : Bool) → same_session s t ≡ b → stream s (es ++ entry.Open t ∷ []) ≡ []
  by true k = ap (λ y. stream s (es ++ entry.Open y ∷ [])) (sym (session_same s t k)) ∙ ap (λ l. numbered_from 1 (sent_from s (before_first (opens s) (es ++ entry.Open s ∷ []) ++ entry.Open s ∷ []) l)) (fresh_count es s n)
  by false k = still_unopened s es (entry.Open t) k n
opening_stream s es (entry.Op t q n op outcome) h = still_unopened s es (entry.Op t q n op outcome) refl h
opening_stream s es (entry.Again t q n) h = still_unopened s es (entry.Again t q n) refl h
opening_stream s es (entry.Left t q puts) h = still_unopened s es (entry.Left t q puts) refl h
opening_stream s es (entry.Cancelled t q path) h = still_unopened s es (entry.Cancelled t q path) refl h
opening_stream s es (entry.Denied t q why) h = still_unopened s es (entry.Denied t q why) refl h
opening_stream s es (entry.On t q path) h = still_unopened s es (entry.On t q path) refl h
opening_stream s es (entry.Off t q path) h = still_unopened s es (entry.Off t q path) refl h
opening_stream s es (entry.Ended t q why rows) h = still_unopened s es (entry.Ended t q why rows) refl h

streamed_more : (es : List Entry) (m : ℕ) (e : Entry) → Streamed es → MayCome es m e → Streamed (es ++ e ∷ [])
streamed_more es m e h may s i x get = by_open (list_any (opens s) es) refl where
  Goal : Type 0
  Goal = (number_in x ≤ length (es ++ e ∷ [])) × SnapFrom s (es ++ e ∷ []) i x × IsMessage x

  old : slice_get (stream s es) i ≡ Some x → Goal
  old k = let was = h s i x k in let small = was.0 in let all = length-append es (e ∷ []) in (omega (arith, small, all), snap_front s es (e ∷ []) i x was.1, was.2)

  late : (b : Bool) → list_any (ends s) (since_open s es) ≡ b → list_any (opens s) es ≡ true → Goal
  late true k o = old (sym (ap (λ l. slice_get l i) (stream_ended s es (e ∷ []) o k)) ∙ get)
  late false k o = by_place (get_in_append (stream s es) (numbered_from (length (stream s es) + 1) (sent_for s (es ++ e ∷ []) e)) i x (sym (ap (λ l. slice_get l i) grown) ∙ get)) where
    grown : stream s (es ++ e ∷ []) ≡ stream s es ++ numbered_from (length (stream s es) + 1) (sent_for s (es ++ e ∷ []) e)
    grown = stream-append s es (e ∷ []) o
        ∙ ap (λ b. stream s es ++ numbered_from (length (stream s es) + 1) (cond b [] (sent_from s es (e ∷ [])))) k
        ∙ ap (λ l. stream s es ++ numbered_from (length (stream s es) + 1) l) (sent_from-one s es e)

    by_place : (slice_get (stream s es) i ≡ Some x) ⊎ ((j : ℕ) × (i ≡ length (stream s es) + j) × (slice_get (numbered_from (length (stream s es) + 1) (sent_for s (es ++ e ∷ []) e)) j ≡ Some x)) → Goal
    by_place (inl k) = old k
    by_place (inr k) = let is = new s es m e may (length (stream s es) + 1) k.0 x k.2 in (is.0, subst (λ n. SnapFrom s (es ++ e ∷ []) n x) (sym k.1) is.1, is.2)

  by_open : (b : Bool) → list_any (opens s) es ≡ b → Goal
  by_open true o = late (list_any (ends s) (since_open s es)) refl o
  by_open false n = absurd (none_or_some x (sym (ap (λ l. slice_get l i) (opening_stream s es e n)) ∙ get))

none_streamed : Streamed []
none_streamed s i m get = absurd (none_or_some m get)

pub streamed : (log : Log) → IsLegal log → Streamed (entries log)
streamed = entries_rule Streamed none_streamed streamed_more
