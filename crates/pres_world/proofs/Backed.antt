-- What a reply says of a write, and an Armed of an action, is what the log says.
use Rattle.std.proofs.Common.{refl, sym, ◌∙◌, ap, subst, ◌≡◌, ◌+◌, ◌-◌, ◌≤◌, ◌<◌, ℕ, zero, suc, List, [], ◌∷◌, ◌++◌, length, Bool, true, false, cond, not, ◌⊎◌, inl, inr, Option, Some, None, true≢false, arith, slice_get, append_assoc, append-nil, length-append, filter, drop}
use Rattle.std.specs.List.{Contains, list_any, before_first, flat_map, AllByRecursion}
use Rattle.pres_ids.specs.declared.id.SessionId.{SessionId}
use Rattle.pres_ids.specs.Ids.{ClientId, same_client, same_session}
use Rattle.pres_write.specs.declared.op.Op.{Op}
use Rattle.pres_write.specs.declared.outcome.Outcome.{Outcome}
use Rattle.pres_write.specs.declared.outcome.Kept.{Kept}
use Rattle.pres_write.specs.Outcomes.{kept_of}
use Rattle.pres_retry.specs.declared.table.Row.{Row}
use Rattle.pres_wire.specs.declared.down.Down.{Down}
use Rattle.pres_wire.specs.declared.down.Down.TheVariants as down
use Rattle.pres_tree.specs.Paths.{Path}
use Rattle.pres_tree.specs.Rows.{Rows}
use Rattle.pres_write.specs.declared.draft.DraftLeaf.{DraftLeaf}
use Rattle.pres_log.specs.declared.entry.Entry.{Entry}
use Rattle.pres_log.specs.declared.entry.Entry.TheVariants as entry
use Rattle.pres_log.specs.Logs.{Log, entries, item_at}
use Rattle.pres_history.specs.LegalLog.{MayCome, MayComeTogether, IsLegal}
use Rattle.pres_history.specs.Listening.{touched}
use Rattle.pres_history.specs.Outcomes.{row_in, rows_for, ops}
use Rattle.pres_server.specs.Sessions.{session_of}
use Rattle.pres_history.specs.Sessions.{opens, ends, since_open, open_sessions}
use Rattle.pres_server.specs.Answering.{Unnumbered}
use Rattle.pres_history.specs.Streams.{push_of, repeated_reply, own_answer, sent_for, sent_from, numbered_from, stream, added, is_push, own_added, answers_to, answers}
use Rattle.pres_server.proofs.Clients.{client_same}
use Rattle.pres_history.proofs.Since.{split_at_open}
use Rattle.pres_history.proofs.Steps.{rows_for-append}
use Rattle.pres_history.proofs.StreamSteps.{stream_unopened}
use Rattle.pres_history.proofs.Parts.{row_given, no_row}
use Rattle.pres_world.proofs.Stands.{none_or_some, get_push, StandsMay, stands_more, entries_rule}

-- ---- items of lists

pub get_front : {A : Type 0} (xs ys : List A) (i : ℕ) (x : A) → slice_get xs i ≡ Some x → slice_get (xs ++ ys) i ≡ Some x
get_front [] ys i x h = absurd (none_or_some x h)
get_front (y ∷ xs) ys zero x h = h
get_front (y ∷ xs) ys (suc i) x h = get_front xs ys i x h

pub item_front : {A : Type 0} (xs ys : List A) (k : ℕ) (x : A) → item_at xs k ≡ Some x → item_at (xs ++ ys) k ≡ Some x
item_front xs ys zero x h = h
item_front xs ys (suc i) x h = get_front xs ys i x h

pub get_last : {A : Type 0} (xs : List A) (y : A) → slice_get (xs ++ y ∷ []) (length xs) ≡ Some y
get_last [] y = refl
get_last (x ∷ xs) y = get_last xs y

pub all_front : {A : Type 0} (P : A → Type 0) (xs ys : List A) → AllByRecursion P xs → AllByRecursion P ys → AllByRecursion P (xs ++ ys)
all_front P [] ys h k = k
all_front P (x ∷ xs) ys h k = (h.0, all_front P xs ys h.1 k)

pub all_into : {A : Type 0} (P Q : A → Type 0) (xs : List A) → ((x : A) → P x → Q x) → AllByRecursion P xs → AllByRecursion Q xs
all_into P Q [] f h = tt
all_into P Q (x ∷ xs) f h = (f x h.0, all_into P Q xs f h.1)

some_is : {A : Type 0} (y x : A) → Some y ≡ Some x → y ≡ x
some_is y x e = grind arith

pub all_at : {A : Type 0} (P : A → Type 0) (xs : List A) (i : ℕ) (x : A) → AllByRecursion P xs → slice_get xs i ≡ Some x → P x
all_at P [] i x h get = absurd (none_or_some x get)
all_at P (y ∷ xs) zero x h get = subst P (some_is y x get) h.0
all_at P (y ∷ xs) (suc i) x h get = all_at P xs i x h.1 get

pub contained : {A : Type 0} (P : A → Type 0) (xs : List A) (x : A) → AllByRecursion P xs → Contains xs x → P x
contained P [] x h c = absurd (let less = c.1 in omega (arith, less))
contained P (y ∷ xs) x h (zero, less, is) = subst P is h.0
contained P (y ∷ xs) x h (suc k, less, is) = contained P xs x h.1 (k, omega (arith, less), is)

pub all_dropped : {A : Type 0} (P : A → Type 0) (xs : List A) (k : ℕ) → AllByRecursion P xs → AllByRecursion P (drop k xs)
all_dropped P xs zero h = h
all_dropped P [] (suc k) h = tt
all_dropped P (x ∷ xs) (suc k) h = all_dropped P xs k h.1

pub all_filtered : {A : Type 0} (P : A → Type 0) (p : A → Bool) (xs : List A) → AllByRecursion P xs → AllByRecursion P (filter p xs)
all_filtered P p [] h = tt
all_filtered P p (x ∷ xs) h = by (p x) (all_filtered P p xs h.1) where
  by : (b : Bool) → AllByRecursion P (filter p xs) → AllByRecursion P (cond b (x ∷ filter p xs) (filter p xs))
  by true k = (h.0, k)
  by false k = k

all_passed : {A : Type 0} (P : A → Type 0) (p : A → Bool) (xs : List A) → ((x : A) → p x ≡ true → P x) → AllByRecursion P (filter p xs)
all_passed P p [] f = tt
all_passed P p (x ∷ xs) f = by (p x) refl (all_passed P p xs f) where
  by : (b : Bool) → p x ≡ b → AllByRecursion P (filter p xs) → AllByRecursion P (cond b (x ∷ filter p xs) (filter p xs))
  by true e k = (f x e, k)
  by false e k = k

pub all_flat : {A B : Type 0} (P : B → Type 0) (f : A → List B) (xs : List A) → ((x : A) → AllByRecursion P (f x)) → AllByRecursion P (flat_map f xs)
all_flat P f [] h = tt
all_flat P f (x ∷ xs) h = all_front P (f x) (flat_map f xs) (h x) (all_flat P f xs h)

-- ---- the writes of a client

-- the entry of write n of the client of s, under the number done, which came out so
pub record IsWrite (es : List Entry) (s : SessionId) (n done : ℕ) (out : Kept) : Type 0 where
  pub session : SessionId
  pub q : ℕ
  pub op : Op
  pub outcome : Outcome
  pub stands : item_at es done ≡ Some (entry.Op session q n op outcome)
  pub client : session.client ≡ s.client
  pub kept : kept_of outcome ≡ out

write_front : (es more : List Entry) (s : SessionId) (n done : ℕ) (out : Kept) → IsWrite es s n done out → IsWrite (es ++ more) s n done out
write_front es more s n done out h = record { session = h.session; q = h.q; op = h.op; outcome = h.outcome; stands = item_front es more done _ h.stands; client = h.client; kept = h.kept }

-- row i of a client is what became of its write i + 1
abbrev pub RowsMade : List Entry → Type 0
RowsMade es = (s : SessionId) (i : ℕ) (row : Row) → slice_get (rows_for s.client es) i ≡ Some row → IsWrite es s (i + 1) row.done row.kept

old_row : (es : List Entry) (e : Entry) → ((c : ClientId) → row_in c (length es + 1) e ≡ None) → RowsMade es → RowsMade (es ++ e ∷ [])
old_row es e none h s i row get =
    write_front es (e ∷ []) s (i + 1) row.done row.kept (h s i row (ap (λ l. slice_get l i) (sym (no_row s.client es e (none s.client))) ∙ get))

plus_one : (n : ℕ) → n + 1 ≡ suc n
plus_one n = omega arith

new_row : (es : List Entry) (m : ℕ) (t : SessionId) (q n : ℕ) (op : Op) (r : Outcome) → MayCome es m (entry.Op t q n op r) → RowsMade es → RowsMade (es ++ entry.Op t q n op r ∷ [])
new_row es m t q n op r may h s i row get = by (same_client s.client t.client) refl where
  e : Entry
  e = entry.Op t q n op r

  made : Row
  made = record { done = length es + 1; kept = kept_of r }

  fresh : s.client ≡ t.client → i ≡ length (rows_for s.client es) → made ≡ row → IsWrite (es ++ e ∷ []) s (i + 1) row.done row.kept
  fresh same at is =
      let count : n ≡ i + 1 = may.1 ∙ ap (λ c. length (rows_for c es) + 1) (sym same) ∙ ap (λ x. x + 1) (sym at) in
      subst (λ x. IsWrite (es ++ e ∷ []) s (i + 1) x.done x.kept) is
      (record { session = t; q = q; op = op; outcome = r; stands = ap (item_at (es ++ e ∷ [])) (plus_one (length es)) ∙ get_last es e ∙ ap (λ x. Some (entry.Op t q x op r)) count; client = sym same; kept = refl })

  by : (b : Bool) → same_client s.client t.client ≡ b → IsWrite (es ++ e ∷ []) s (i + 1) row.done row.kept
  by false k =
      write_front es (e ∷ []) s (i + 1) row.done row.kept (h s i row (ap (λ l. slice_get l i) (sym (no_row s.client es e (ap (λ b. cond b (Some made) None) k))) ∙ get))
  by true k = by_place (get_push (rows_for s.client es) made i row (ap (λ l. slice_get l i) (sym (row_given s.client es e (Some made) (ap (λ b. cond b (Some made) None) k))) ∙ get)) where
    by_place : ((i < length (rows_for s.client es)) × (slice_get (rows_for s.client es) i ≡ Some row)) ⊎ ((i ≡ length (rows_for s.client es)) × (made ≡ row)) → IsWrite (es ++ e ∷ []) s (i + 1) row.done row.kept
    by_place (inl x) = write_front es (e ∷ []) s (i + 1) row.done row.kept (h s i row x.1)
    by_place (inr x) = fresh (client_same s.client t.client k) x.0 x.1

pub rows_more : (es : List Entry) (m : ℕ) (e : Entry) → RowsMade es → MayCome es m e → RowsMade (es ++ e ∷ [])
rows_more es m (entry.Op s q n op r) h may = new_row es m s q n op r may h
rows_more es m (entry.Open s) h may = old_row es (entry.Open s) (λ c. refl) h
rows_more es m (entry.Again s q n) h may = old_row es (entry.Again s q n) (λ c. refl) h
rows_more es m (entry.Left s q puts) h may = old_row es (entry.Left s q puts) (λ c. refl) h
rows_more es m (entry.Cancelled s q path) h may = old_row es (entry.Cancelled s q path) (λ c. refl) h
rows_more es m (entry.Denied s q why) h may = old_row es (entry.Denied s q why) (λ c. refl) h
rows_more es m (entry.On s q path) h may = old_row es (entry.On s q path) (λ c. refl) h
rows_more es m (entry.Off s q path) h may = old_row es (entry.Off s q path) (λ c. refl) h
rows_more es m (entry.Ended s q why rows) h may = old_row es (entry.Ended s q why rows) (λ c. refl) h

rows_front : (c : ClientId) (es more : List Entry) (i : ℕ) (row : Row) → slice_get (rows_for c es) i ≡ Some row → slice_get (rows_for c (es ++ more)) i ≡ Some row
rows_front c es [] i row h = ap (λ l. slice_get (rows_for c l) i) (append-nil es) ∙ h
rows_front c es (e ∷ more) i row h =
    ap (λ l. slice_get (rows_for c l) i) (sym (append_assoc es (e ∷ []) more))
    ∙ rows_front c (es ++ e ∷ []) more i row (ap (λ l. slice_get l i) (rows_for-append c es e) ∙ get_front (rows_for c es) _ i row h)

-- ---- messages

-- message q of the session stands under the number, and left something for its end or took it back
abbrev pub IsArmed : List Entry → SessionId → ℕ → ℕ → Type 0
IsArmed es s z q = ((placements : List (Path × Rows DraftLeaf)) × (item_at es z ≡ Some (entry.Left s q placements))) ⊎ ((p : Path) × (item_at es z ≡ Some (entry.Cancelled s q p)))

armed_front : (es more : List Entry) (s : SessionId) (z q : ℕ) → IsArmed es s z q → IsArmed (es ++ more) s z q
armed_front es more s z q (inl h) = inl (h.0, item_front es more z _ h.1)
armed_front es more s z q (inr h) = inr (h.0, item_front es more z _ h.1)

-- message q of the session was its client's write n, and stands
abbrev pub IsAsked : List Entry → SessionId → ℕ → ℕ → Type 0
IsAsked es s q n = (z : ℕ) × (((op : Op) × (outcome : Outcome) × (item_at es z ≡ Some (entry.Op s q n op outcome))) ⊎ (item_at es z ≡ Some (entry.Again s q n)))

asked_front : (es more : List Entry) (s : SessionId) (q n : ℕ) → IsAsked es s q n → IsAsked (es ++ more) s q n
asked_front es more s q n (z, inl h) = (z, inl (h.0, h.1, item_front es more z _ h.2))
asked_front es more s q n (z, inr h) = (z, inr (item_front es more z _ h))

-- what a reply says of a write is so, and what an Armed says of an action
abbrev pub Backed : List Entry → Down → Type 0
Backed es (down.Reply s r z q n done out) = IsWrite es s n done out × IsAsked es s q n
Backed es (down.Armed s r z q) = IsArmed es s z q
Backed es _ = Unit {0}

pub backed_front : (es more : List Entry) (m : Down) → Backed es m → Backed (es ++ more) m
backed_front es more (down.Reply s r z q n done out) h = (write_front es more s n done out h.0, asked_front es more s q n h.1)
backed_front es more (down.Welcome s z ops) h = tt
backed_front es more (down.Gone s r z why) h = tt
backed_front es more (down.Fault session reason) h = tt
backed_front es more (down.Armed s r z q) h = armed_front es more s z q h
backed_front es more (down.Denied s r z q why) h = tt
backed_front es more (down.Snap s r z q p v) h = tt
backed_front es more (down.Push s r z values) h = tt
backed_front es more (down.OffDone s r z q) h = tt

-- so it is under each number that the message may get
abbrev SaysSo : List Entry → Unnumbered → Type 0
SaysSo all m = (r : ℕ) → Backed all (m r)

push_says : (all : List Entry) (s : SessionId) (now : List Entry) (paths : List Path) → AllByRecursion (SaysSo all) (push_of s now paths)
push_says all s now [] = tt
push_says all s now (p ∷ paths) = (λ r. tt, tt)

again_says : (all now more : List Entry) (s : SessionId) (q n : ℕ) (row : Option Row) → slice_get (rows_for s.client now) (n - 1) ≡ row → 1 ≤ n → RowsMade all → now ++ more ≡ all → IsAsked all s q n → AllByRecursion (SaysSo all) (repeated_reply s (length now) q n row)
again_says all now more s q n None get one rows is asked = tt
again_says all now more s q n (Some row) get one rows is asked = (λ r. (written, asked), tt) where
  count : n - 1 + 1 ≡ n
  count = omega (arith, one)

  written : IsWrite all s n row.done row.kept
  written = subst (λ k. IsWrite all s k row.done row.kept) count (rows s (n - 1) row (subst (λ l. slice_get (rows_for s.client l) (n - 1) ≡ Some row) is (rows_front s.client now more (n - 1) row get)))

pub here : (before more all : List Entry) (e : Entry) → (before ++ e ∷ []) ++ more ≡ all → slice_get all (length before) ≡ Some e
here before more all e is = subst (λ l. slice_get l (length before) ≡ Some e) is (get_front (before ++ e ∷ []) more (length before) e (get_last before e))

numbered_here : (before more all : List Entry) (e : Entry) → (before ++ e ∷ []) ++ more ≡ all → item_at all (length (before ++ e ∷ [])) ≡ Some e
numbered_here before more all e is = ap (item_at all) (length-append before (e ∷ []) ∙ plus_one (length before)) ∙ here before more all e is

own_says : (all before more : List Entry) (e : Entry) → (before ++ e ∷ []) ++ more ≡ all → StandsMay all → RowsMade all → AllByRecursion (SaysSo all) (own_answer (before ++ e ∷ []) e)
own_says all before more (entry.Open s) is stands rows = tt
own_says all before more (entry.Op s q n op outcome) is stands rows = let at = numbered_here before more all (entry.Op s q n op outcome) is in (λ r. (record { session = s; q = q; op = op; outcome = outcome; stands = at; client = refl; kept = refl }, (length (before ++ entry.Op s q n op outcome ∷ []), inl (op, outcome, at))), tt)
own_says all before more (entry.Again s q n) is stands rows = again_says all (before ++ entry.Again s q n ∷ []) more s q n _ refl (stands (length before) (entry.Again s q n) (here before more all (entry.Again s q n) is)).1.1 rows is (length (before ++ entry.Again s q n ∷ []), inr (numbered_here before more all (entry.Again s q n) is))
own_says all before more (entry.Left s q puts) is stands rows = (λ r. inl (puts, numbered_here before more all (entry.Left s q puts) is), tt)
own_says all before more (entry.Cancelled s q path) is stands rows = (λ r. inr (path, numbered_here before more all (entry.Cancelled s q path) is), tt)
own_says all before more (entry.Denied s q why) is stands rows = (λ r. tt, tt)
own_says all before more (entry.On s q path) is stands rows = (λ r. tt, tt)
own_says all before more (entry.Off s q path) is stands rows = (λ r. tt, tt)
own_says all before more (entry.Ended s q why rows') is stands rows = (λ r. tt, tt)

sent_says : (all : List Entry) (s : SessionId) (before later : List Entry) → before ++ later ≡ all → StandsMay all → RowsMade all → AllByRecursion (SaysSo all) (sent_from s before later)
sent_says all s before [] is stands rows = tt
sent_says all s before (e ∷ later) is stands rows =
    all_front (SaysSo all) (sent_for s (before ++ e ∷ []) e) (cond (ends s e) [] (sent_from s (before ++ e ∷ []) later))
    (all_front (SaysSo all) (push_of s (before ++ e ∷ []) (touched s (before ++ e ∷ []) e)) (cond (same_session s (session_of e)) (own_answer (before ++ e ∷ []) e) []) (push_says all s (before ++ e ∷ []) (touched s (before ++ e ∷ []) e)) (by_own (same_session s (session_of e))))
    (by_end (ends s e) (sent_says all s (before ++ e ∷ []) later there stands rows)) where
      there : (before ++ e ∷ []) ++ later ≡ all
      there = append_assoc before (e ∷ []) later ∙ is

      by_own : (b : Bool) → AllByRecursion (SaysSo all) (cond b (own_answer (before ++ e ∷ []) e) [])
      by_own true = own_says all before later e there stands rows
      by_own false = tt

      by_end : (b : Bool) → AllByRecursion (SaysSo all) (sent_from s (before ++ e ∷ []) later) → AllByRecursion (SaysSo all) (cond b [] (sent_from s (before ++ e ∷ []) later))
      by_end true h = tt
      by_end false h = h

numbered_says : (all : List Entry) (r : ℕ) (ms : List Unnumbered) → AllByRecursion (SaysSo all) ms → AllByRecursion (Backed all) (numbered_from r ms)
numbered_says all r [] h = tt
numbered_says all r (m ∷ ms) h = (h.0 r, numbered_says all (r + 1) ms h.1)

stream_backed : (all : List Entry) (s : SessionId) → StandsMay all → RowsMade all → AllByRecursion (Backed all) (stream s all)
stream_backed all s stands rows = by (list_any (opens s) all) refl where
  by : (b : Bool) → list_any (opens s) all ≡ b → AllByRecursion (Backed all) (stream s all)
  by true o = numbered_says all 1 _ (sent_says all s (before_first (opens s) all ++ entry.Open s ∷ []) (since_open s all) (split_at_open s all o) stands rows)
  by false o = subst (AllByRecursion (Backed all)) (sym (stream_unopened s all o)) tt

-- ---- answers

-- entries of a legal log
pub record Sure (es : List Entry) : Type 0 where
  pub stands : StandsMay es
  pub rows : RowsMade es

pub sure_more : (es : List Entry) (m : ℕ) (e : Entry) → Sure es → MayCome es m e → Sure (es ++ e ∷ [])
sure_more es m e h may = record { stands = stands_more es m e h.stands may; rows = rows_more es m e h.rows may }

none_sure : Sure []
none_sure = record { stands = λ i e get. absurd (none_or_some e get); rows = λ s i row get. absurd (none_or_some row get) }

pub sure : (log : Log) → IsLegal log → Sure (entries log)
sure = entries_rule Sure none_sure sure_more

push_backed : (all : List Entry) (m : Down) → is_push m ≡ true → Backed all m
push_backed all (down.Push s r z values) h = tt
push_backed all (down.Reply s r z q n done out) h = absurd (true≢false (sym h))
push_backed all (down.Welcome s z ops) h = tt
push_backed all (down.Gone s r z why) h = tt
push_backed all (down.Fault session reason) h = tt
push_backed all (down.Armed s r z q) h = absurd (true≢false (sym h))
push_backed all (down.Denied s r z q why) h = tt
push_backed all (down.Snap s r z q p v) h = tt
push_backed all (down.OffDone s r z q) h = tt

added_backed : (es : List Entry) (e : Entry) (s : SessionId) → Sure (es ++ e ∷ []) → AllByRecursion (Backed (es ++ e ∷ [])) (filter (λ m. not (is_push m)) (added s es e))
added_backed es e s h = all_filtered (Backed (es ++ e ∷ [])) (λ m. not (is_push m)) (added s es e) (all_dropped (Backed (es ++ e ∷ [])) (stream s (es ++ e ∷ [])) (length (stream s es)) (stream_backed (es ++ e ∷ []) s h.stands h.rows))

own_backed : (es : List Entry) (e : Entry) → Sure (es ++ e ∷ []) → AllByRecursion (Backed (es ++ e ∷ [])) (own_added es e)
own_backed es (entry.Open s) h = (tt, tt)
own_backed es (entry.Op s q n op outcome) h = added_backed es (entry.Op s q n op outcome) s h
own_backed es (entry.Again s q n) h = added_backed es (entry.Again s q n) s h
own_backed es (entry.Left s q puts) h = added_backed es (entry.Left s q puts) s h
own_backed es (entry.Cancelled s q path) h = added_backed es (entry.Cancelled s q path) s h
own_backed es (entry.Denied s q why) h = added_backed es (entry.Denied s q why) s h
own_backed es (entry.On s q path) h = added_backed es (entry.On s q path) s h
own_backed es (entry.Off s q path) h = added_backed es (entry.Off s q path) s h
own_backed es (entry.Ended s q why rows) h = added_backed es (entry.Ended s q why rows) s h

answer_backed : (es : List Entry) (e : Entry) → Sure (es ++ e ∷ []) → AllByRecursion (Backed (es ++ e ∷ [])) (answers_to es e)
answer_backed es e h =
    all_front (Backed (es ++ e ∷ [])) (flat_map (λ s. filter is_push (added s es e)) (open_sessions es)) (own_added es e)
    (all_flat (Backed (es ++ e ∷ [])) (λ s. filter is_push (added s es e)) (open_sessions es) (λ s. all_passed (Backed (es ++ e ∷ [])) is_push (added s es e) (push_backed (es ++ e ∷ []))))
    (own_backed es e h)

-- the answers of a batch that may follow say of writes what is so
pub answers_backed : (es : List Entry) (m : ℕ) (xs : List Entry) → Sure es → MayComeTogether es m xs → AllByRecursion (Backed (es ++ xs)) (answers es xs)
answers_backed es m [] h t = absurd t
answers_backed es m (e ∷ []) h t = all_front (Backed (es ++ e ∷ [])) (answers_to es e) [] (answer_backed es e (sure_more es m e h t.1)) tt
answers_backed es m (e ∷ f ∷ []) h t =
    let first = sure_more es m e h t.1 in
    let second = sure_more (es ++ e ∷ []) m f first t.2 in
    subst (λ all. AllByRecursion (Backed all) (answers es (e ∷ f ∷ []))) (append_assoc es (e ∷ []) (f ∷ []))
    (all_front (Backed ((es ++ e ∷ []) ++ f ∷ [])) (answers_to es e) (answers (es ++ e ∷ []) (f ∷ []))
    (all_into (Backed (es ++ e ∷ [])) (Backed ((es ++ e ∷ []) ++ f ∷ [])) (answers_to es e) (backed_front (es ++ e ∷ []) (f ∷ [])) (answer_backed es e first))
    (all_front (Backed ((es ++ e ∷ []) ++ f ∷ [])) (answers_to (es ++ e ∷ []) f) [] (answer_backed (es ++ e ∷ []) f second) tt))
answers_backed es m (e ∷ f ∷ g ∷ more) h t = absurd t
