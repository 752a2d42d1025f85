-- What the answers of a history tell is what its tree holds.
use Rattle.std.proofs.Common.{refl, sym, ◌∙◌, ap, subst, ◌≡◌, ℕ, ◌+◌, ◌-◌, List, [], ◌∷◌, ◌++◌, map, length, take, Bool, true, false, cond, ◌⊎◌, inl, inr, Option, Some, None, unwrap_or, slice_get, append_assoc, append-nil, length-append, arith}
use Rattle.std.specs.List.{AllByRecursion}
use Rattle.std.proofs.lemmas.List.{take_at}
use Rattle.pres_tree.specs.declared.scalar.Scalar.{Scalar}
use Rattle.pres_tree.specs.Paths.{Path, same_path}
use Rattle.pres_tree.specs.Rows.{Rows, value_at}
use Rattle.pres_tree.proofs.PathOrder.{path_same}
use Rattle.pres_write.specs.Basics.{applied}
use Rattle.pres_write.specs.Outcomes.{kept_of}
use Rattle.pres_ids.specs.declared.id.SessionId.{SessionId}
use Rattle.pres_wire.specs.declared.down.Down.{Down}
use Rattle.pres_wire.specs.declared.down.Down.TheVariants as down
use Rattle.pres_wire.specs.Messages.{session_for, number_in}
use Rattle.pres_wire.specs.Views.{value_in, value_told}
use Rattle.pres_retry.specs.declared.table.Row.{Row}
use Rattle.pres_fan.specs.Listeners.{touched}
use Rattle.pres_fan.proofs.Lists.{all_filtered}
use Rattle.pres_log.specs.declared.entry.Entry.{Entry}
use Rattle.pres_log.specs.declared.entry.Entry.TheVariants as entry
use Rattle.pres_log.specs.Logs.{Log, entries, writes_of}
use Rattle.pres_server.specs.Sessions.{session_of}
use Rattle.pres_server.specs.Answering.{Unnumbered, shown}
use Rattle.pres_server.specs.InternalParts.{message_next, reply_next, answer_by}
use Rattle.pres_server.specs.InternalPushes.{TouchedSession}
use Rattle.pres_server.specs.Sums.{Sum, OpenSessions, part_in, sent_by, pushed, carried, sum_after, sum_after_all, sum_with}
use Rattle.pres_server.specs.SumAnswers.{push_by, pushes_by, entry_pushes, own_by, answers_to_by, answers_by}
use Rattle.pres_server.specs.Histories.{History, answers_from, answers_in}
use Rattle.pres_ring.specs.Transcripts.{names}
use Rattle.pres_ring.specs.HistoryTranscripts.{transcript_in}
use Rattle.pres_ring.specs.TakenMessages.{tree_with, TellsTheTreeIn, TakenTellsTheTree}

-- ---- lists

all-append : {A : Type 0} (P : A → Type 0) (xs ys : List A) → AllByRecursion P xs → AllByRecursion P ys → AllByRecursion P (xs ++ ys)
all-append P [] ys h k = k
all-append P (x ∷ xs) ys h k = (h.0, all-append P xs ys h.1 k)

all_front : {A : Type 0} (P : A → Type 0) (xs ys : List A) → AllByRecursion P (xs ++ ys) → AllByRecursion P xs
all_front P [] ys h = tt
all_front P (x ∷ xs) ys h = (h.0, all_front P xs ys h.1)

all_so : {A : Type 0} (P Q : A → Type 0) (xs : List A) → ((x : A) → P x → Q x) → AllByRecursion P xs → AllByRecursion Q xs
all_so P Q [] f h = tt
all_so P Q (x ∷ xs) f h = (f x h.0, all_so P Q xs f h.1)

-- ---- what an entry answers

-- it tells nothing of p, or, with this number, what stands there
abbrev TellsNow : Path → Rows Scalar → ℕ → Down → Type 0
TellsNow p t z m = (value_told p m ≡ None) ⊎ ((number_in m ≡ z) × (value_told p m ≡ Some (value_at p t)))

value_made : (p : Path) (t : Rows Scalar) (paths : List Path) → (value_in p (map (shown t) paths) ≡ None) ⊎ (value_in p (map (shown t) paths) ≡ Some (value_at p t))
value_made p t [] = inl refl
value_made p t (x ∷ paths) = by (same_path p x) refl (value_made p t paths) where
  by : (b : Bool) → same_path p x ≡ b → (value_in p (map (shown t) paths) ≡ None) ⊎ (value_in p (map (shown t) paths) ≡ Some (value_at p t))
      → (cond b (Some (value_at x t)) (value_in p (map (shown t) paths)) ≡ None) ⊎ (cond b (Some (value_at x t)) (value_in p (map (shown t) paths)) ≡ Some (value_at p t))
  by true e h = inr (ap (λ y. Some (value_at y t)) (sym (path_same p x e)))
  by false e h = h

next_tells : (p : Path) (t : Rows Scalar) (z : ℕ) (sent : Option ℕ) (m : Unnumbered) → ((r : ℕ) → TellsNow p t z (m r)) → AllByRecursion (TellsNow p t z) (message_next sent m)
next_tells p t z None m h = tt
next_tells p t z (Some n) m h = (h (n + 1), tt)

push_tells : (p : Path) (t : Rows Scalar) (z : ℕ) (s : SessionId) (paths : List Path) (r : ℕ) → TellsNow p t z (down.Push s r z (map (shown t) paths))
push_tells p t z s paths r = by (value_made p t paths) where
  by : (value_in p (map (shown t) paths) ≡ None) ⊎ (value_in p (map (shown t) paths) ≡ Some (value_at p t)) → TellsNow p t z (down.Push s r z (map (shown t) paths))
  by (inl e) = inl e
  by (inr e) = inr (refl, e)

pushes_tell : (p : Path) (t : Rows Scalar) (z : ℕ) (ts : List TouchedSession) (sessions : OpenSessions) → AllByRecursion (TellsNow p t z) (pushes_by z t sessions ts)
pushes_tell p t z [] sessions = tt
pushes_tell p t z (x ∷ ts) sessions =
    all-append (TellsNow p t z) (push_by z t sessions x) (pushes_by z t (pushed sessions x) ts)
    (next_tells p t z (sent_by x.0.client sessions) (λ r. down.Push x.0 r z (map (shown t) x.1)) (push_tells p t z x.0 x.1))
    (pushes_tell p t z ts (pushed sessions x))

reply_tells : (p : Path) (t : Rows Scalar) (z : ℕ) (s : SessionId) (q n : ℕ) (sent : Option ℕ) (row : Option Row) → AllByRecursion (TellsNow p t z) (reply_next s z q n sent row)
reply_tells p t z s q n sent None = tt
reply_tells p t z s q n sent (Some row) = next_tells p t z sent (λ r. down.Reply s r z q n row.done row.kept) (λ r. inl refl)

own_tells : (p : Path) (t : Rows Scalar) (z : ℕ) (e : Entry) (rows : List Row) (sent : Option ℕ) → AllByRecursion (TellsNow p t z) (answer_by z e rows sent t)
own_tells p t z (entry.Open s) rows sent = (inl refl, tt)
own_tells p t z (entry.Op s q n op outcome) rows sent = next_tells p t z sent (λ r. down.Reply s r z q n z (kept_of outcome)) (λ r. inl refl)
own_tells p t z (entry.Again s q n) rows sent = reply_tells p t z s q n sent (slice_get rows (n - 1))
own_tells p t z (entry.Left s q puts) rows sent = next_tells p t z sent (λ r. down.Armed s r z q) (λ r. inl refl)
own_tells p t z (entry.Cancelled s q path) rows sent = next_tells p t z sent (λ r. down.Armed s r z q) (λ r. inl refl)
own_tells p t z (entry.Denied s q why) rows sent = next_tells p t z sent (λ r. down.Denied s r z q why) (λ r. inl refl)
own_tells p t z (entry.On s q path) rows sent = next_tells p t z sent (λ r. down.Snap s r z q path (value_at path t)) (λ r. by (same_path p path) refl) where
  by : (b : Bool) → same_path p path ≡ b → (cond b (Some (value_at path t)) None ≡ None) ⊎ ((z ≡ z) × (cond b (Some (value_at path t)) None ≡ Some (value_at p t)))
  by true e = inr (refl, ap (λ y. Some (value_at y t)) (sym (path_same p path e)))
  by false e = inl refl
own_tells p t z (entry.Off s q path) rows sent = next_tells p t z sent (λ r. down.OffDone s r z q) (λ r. inl refl)
own_tells p t z (entry.Ended s q why due) rows sent = next_tells p t z sent (λ r. down.Gone s r z why) (λ r. inl refl)

entry_tells : (p : Path) (sum : Sum) (e : Entry) → AllByRecursion (TellsNow p (carried e sum).tree (sum.number + 1)) (answers_to_by sum e)
entry_tells p sum e =
    all-append (TellsNow p (carried e sum).tree (sum.number + 1)) (entry_pushes sum e) (own_by sum e)
    (pushes_tell p (carried e sum).tree (sum.number + 1) (touched (writes_of e) sum.listeners) sum.sessions)
    (own_tells p (carried e sum).tree (sum.number + 1) e (part_in sum (session_of e).client).rows (sent_by (session_of e).client (carried e sum).sessions))

-- ---- entries one after another, from a tree and a number on

tree_append : (t : Rows Scalar) (xs ys : List Entry) → tree_with t (xs ++ ys) ≡ tree_with (tree_with t xs) ys
tree_append t [] ys = refl
tree_append t (x ∷ xs) ys = tree_append (applied t (writes_of x)) xs ys

one_further : (n first k l : ℕ) → n ≡ first + k → l ≡ k + 1 → n + 1 ≡ first + l
one_further n first k l h g = omega (arith, h, g)

as_many : (z n first k l : ℕ) → z ≡ n + 1 → n ≡ first + k → l ≡ k + 1 → l ≡ z - first
as_many z n first k l h g j = omega (arith, h, g, j)

no_more : (n : ℕ) → n ≡ n + 0
no_more n = omega arith

some_same : (v w : Rows Scalar) → Some v ≡ Some w → v ≡ w
some_same v w k = ap (λ o. unwrap_or o v) k

-- the sum after xs, with ys to come, which are all of these entries
record IsBetween (t : Rows Scalar) (first : ℕ) (all xs ys : List Entry) (sum : Sum) : Type 0 where
  whole : xs ++ ys ≡ all
  number : sum.number ≡ first + length xs
  tree : sum.tree ≡ tree_with t xs

module _ (p : Path) (t : Rows Scalar) (first : ℕ) (all : List Entry) where
  -- the value that it tells of p is the one after as many of the entries as its number says
  abbrev Tells : Down → Type 0
  Tells m = (value : Rows Scalar) → value_told p m ≡ Some value → value ≡ value_at p (tree_with t (take (number_in m - first) all))

  abbrev Between : List Entry → List Entry → Sum → Type 0
  Between xs ys sum = IsBetween t first all xs ys sum

  stepped : (xs ys : List Entry) (e : Entry) (sum : Sum) → Between xs (e ∷ ys) sum → Between (xs ++ e ∷ []) ys (sum_after e sum)
  stepped xs ys e sum at = record {
    whole = append_assoc xs (e ∷ []) ys ∙ at.whole;
    number = one_further sum.number first (length xs) (length (xs ++ e ∷ [])) at.number (length-append xs (e ∷ []));
    tree = ap (λ u. applied u (writes_of e)) at.tree ∙ sym (tree_append t xs (e ∷ []));
  }

  told_now : (xs ys : List Entry) (e : Entry) (sum : Sum) → Between xs (e ∷ ys) sum → (m : Down) → TellsNow p (carried e sum).tree (sum.number + 1) m → Tells m
  told_now xs ys e sum at m (inl none) value k = let no : ◌≡◌ {A = Option (Rows Scalar)} None (Some value) = sym none ∙ k in absurd (cc)
  told_now xs ys e sum at m (inr now) value k =
      let taken : take (number_in m - first) all ≡ xs ++ e ∷ [] =
      ap (take (number_in m - first)) (sym (append_assoc xs (e ∷ []) ys ∙ at.whole))
      ∙ take_at (xs ++ e ∷ []) ys (number_in m - first) (as_many (number_in m) sum.number first (length xs) (length (xs ++ e ∷ [])) now.0 at.number (length-append xs (e ∷ []))) in
      some_same value (value_at p (carried e sum).tree) (sym k ∙ now.1)
      ∙ ap (value_at p) ((stepped xs ys e sum at).tree ∙ sym (ap (tree_with t) taken))

  entries_tell : (xs es ys : List Entry) (sum : Sum) → Between xs (es ++ ys) sum → AllByRecursion Tells (answers_by sum es) × Between (xs ++ es) ys (sum_after_all es sum)
  entries_tell xs [] ys sum at = (tt, subst (λ l. Between l ys sum) (sym (append-nil xs)) at)
  entries_tell xs (e ∷ es) ys sum at =
      let rest = entries_tell (xs ++ e ∷ []) es ys (sum_after e sum) (stepped xs (es ++ ys) e sum at) in (
        all-append Tells (answers_to_by sum e) (answers_by (sum_after e sum) es)
            (all_so (TellsNow p (carried e sum).tree (sum.number + 1)) Tells (answers_to_by sum e) (told_now xs (es ++ ys) e sum at) (entry_tells p sum e)) rest.0,
        subst (λ l. Between l ys (sum_after_all es (sum_after e sum))) (append_assoc xs (e ∷ []) es) rest.1,
      )

  log_tells : (xs : List Entry) (log : Log) (sum : Sum) → Between xs (entries log) sum → AllByRecursion Tells (answers_from sum log)
  log_tells xs [] sum at = tt
  log_tells xs (b ∷ log) sum at =
      let here = entries_tell xs b.entries (entries log) sum at in
      all-append Tells (answers_by sum b.entries) (answers_from (sum_with sum b) log) here.0
      (log_tells (xs ++ b.entries) log (sum_with sum b) (record { whole = here.1.whole; number = here.1.number; tree = here.1.tree }))

-- ---- a whole history

transcript_tells : (s : SessionId) (p : Path) (h : History) → AllByRecursion (TellsTheTreeIn p h) (transcript_in s h)
transcript_tells s p h =
    all_filtered (TellsTheTreeIn p h) (λ m. names s (session_for m)) (answers_in h)
    (log_tells p h.base.tree h.base.number (entries h.log) [] h.log h.base (record { whole = refl; number = no_more h.base.number; tree = refl }))

pub taken_tells_the_tree : (s : SessionId) (p : Path) (xs : List Down) → TakenTellsTheTree s p xs
taken_tells_the_tree s p xs k =
    all_front (TellsTheTreeIn p k.history) xs k.within.0
    (subst (AllByRecursion (TellsTheTreeIn p k.history)) (sym k.within.1) (transcript_tells s p k.history))
