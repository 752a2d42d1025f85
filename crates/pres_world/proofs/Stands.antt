-- Where entries stand in a legal log: each may come after those before it.
use Rattle.std.proofs.Common.{refl, sym, ◌∙◌, ap, subst, ◌≡◌, ◌+◌, ◌≤◌, ◌<◌, ℕ, zero, suc, List, [], ◌∷◌, ◌++◌, length, take, drop, Bool, true, false, ◌||◌, ◌⊎◌, inl, inr, Option, Some, None, true≢false, arith, slice_get, unwrap_or, append_assoc, append-nil, length-append, filter_map, cond}
use Rattle.std.specs.List.{list_any}
use Rattle.std.proofs.lemmas.Bool.{cases_order, and_parts, not-true}
use Rattle.pres_ids.specs.declared.id.SessionId.{SessionId}
use Rattle.pres_ids.specs.declared.id.Why.{Why}
use Rattle.pres_ids.specs.Ids.{ClientId}
use Rattle.pres_write.specs.declared.basic.Basic.{Basic}
use Rattle.pres_write.specs.declared.op.Op.{Op}
use Rattle.pres_write.specs.declared.outcome.Outcome.{Outcome}
use Rattle.pres_write.specs.Outcomes.{kept_of}
use Rattle.pres_retry.specs.declared.table.Row.{Row}
use Rattle.pres_log.specs.declared.entry.Entry.{Entry}
use Rattle.pres_log.specs.declared.entry.Entry.TheVariants as entry
use Rattle.pres_log.specs.Logs.{Log, entries}
use Rattle.pres_log.proofs.Entries.{entries-push}
use Rattle.pres_history.specs.LegalLog.{MayCome, MayComeTogether, IsLegal}
use Rattle.pres_history.specs.Outcomes.{row_in, rows_for, ops}
use Rattle.pres_history.specs.Sessions.{ends}
use Rattle.pres_history.proofs.Since.{any-append}
use Rattle.pres_server.proofs.Clients.{session_itself, client_itself}
use Rattle.pres_history.proofs.Steps.{rows_for-append}
use Rattle.pres_history.proofs.Parts.{row_given}
use Rattle.pres_history.proofs.LegalLogs.{of_legal}

-- ---- what holds of entries one after another

together : (P : List Entry → Type 0) → ((es : List Entry) (m : ℕ) (e : Entry) → P es → MayCome es m e → P (es ++ e ∷ [])) → (es : List Entry) (m : ℕ) (xs : List Entry) → P es → MayComeTogether es m xs → P (es ++ xs)
together P step es m [] h t = absurd t
together P step es m (e ∷ []) h t = step es m e h t.1
together P step es m (e ∷ f ∷ []) h t = subst P (append_assoc es (e ∷ []) (f ∷ [])) (step (es ++ e ∷ []) m f (step es m e h t.1) t.2)
together P step es m (e ∷ f ∷ g ∷ more) h t = absurd t

-- what holds at first, and of each entry more that may come, holds of the entries of a legal log
pub entries_rule : (P : List Entry → Type 0) → P [] → ((es : List Entry) (m : ℕ) (e : Entry) → P es → MayCome es m e → P (es ++ e ∷ [])) → (log : Log) → IsLegal log → P (entries log)
entries_rule P start step = of_legal (λ log. P (entries log)) start (λ log b h f. subst P (sym (entries-push log b)) (together P step (entries log) b.moment b.entries h f.allowed))

pub none_or_some : {A : Type 0} (x : A) → None ≡ Some x → ⊥
none_or_some x e = grind arith

-- an item of a longer list: an earlier one, or the new one
pub get_push : {A : Type 0} (xs : List A) (y : A) (i : ℕ) (x : A) → slice_get (xs ++ y ∷ []) i ≡ Some x → ((i < length xs) × (slice_get xs i ≡ Some x)) ⊎ ((i ≡ length xs) × (y ≡ x))
get_push [] y zero x e = inr (refl, ap (λ o. unwrap_or o y) e)
get_push [] y (suc i) x e = absurd (none_or_some x e)
get_push (z ∷ xs) y zero x e = inl (omega arith, e)
get_push (z ∷ xs) y (suc i) x e = more (get_push xs y i x e) where
  more : ((i < length xs) × (slice_get xs i ≡ Some x)) ⊎ ((i ≡ length xs) × (y ≡ x)) → ((suc i < suc (length xs)) × (slice_get xs i ≡ Some x)) ⊎ ((suc i ≡ suc (length xs)) × (y ≡ x))
  more (inl h) = let l = h.0 in inl (omega arith, h.1)
  more (inr h) = let l = h.0 in inr (omega arith, h.1)

pub take_within : {A : Type 0} (xs ys : List A) (i : ℕ) → i ≤ length xs → take i (xs ++ ys) ≡ take i xs
take_within xs ys zero l = refl
take_within [] ys (suc i) l = absurd (omega arith)
take_within (x ∷ xs) ys (suc i) l = ap (λ l. x ∷ l) (take_within xs ys i (omega arith))

pub take_whole : {A : Type 0} (xs : List A) → take (length xs) xs ≡ xs
take_whole [] = refl
take_whole (x ∷ xs) = ap (λ l. x ∷ l) (take_whole xs)

-- each of these entries may come after those before it
abbrev pub StandsMay : List Entry → Type 0
StandsMay es = (i : ℕ) (e : Entry) → slice_get es i ≡ Some e → (m : ℕ) × MayCome (take i es) m e

pub stands_more : (es : List Entry) (m : ℕ) (e : Entry) → StandsMay es → MayCome es m e → StandsMay (es ++ e ∷ [])
stands_more es m e all may i f get = by_place (get_push es e i f get) where
  by_place : ((i < length es) × (slice_get es i ≡ Some f)) ⊎ ((i ≡ length es) × (e ≡ f)) → (k : ℕ) × MayCome (take i (es ++ e ∷ [])) k f
  by_place (inl h) =
      let l = h.0 in
      let before = all i f h.1 in
      (before.0, subst (λ x. MayCome x before.0 f) (sym (take_within es (e ∷ []) i (omega arith))) before.1)
  by_place (inr h) =
      (m, subst (λ x. MayCome x m f) (sym (ap (λ n. take n (es ++ e ∷ [])) h.0 ∙ take_within es (e ∷ []) (length es) (omega arith) ∙ take_whole es)) (subst (MayCome es m) h.1 may))

pub stands_may : (log : Log) → IsLegal log → StandsMay (entries log)
stands_may = entries_rule StandsMay (λ i e get. absurd (none_or_some e get)) stands_more

-- ---- after any number of the entries

abbrev Along : (List Entry → Type 0) → List Entry → Type 0
Along P es = P es × ((i : ℕ) → i ≤ length es → P (take i es))

along_more : (P : List Entry → Type 0) → ((es : List Entry) (m : ℕ) (e : Entry) → P es → MayCome es m e → P (es ++ e ∷ [])) → (es : List Entry) (m : ℕ) (e : Entry) → Along P es → MayCome es m e → Along P (es ++ e ∷ [])
along_more P step es m e h may = (now, λ i small. by i small (cases_order i (length es + 1))) where
  now : P (es ++ e ∷ [])
  now = step es m e h.0 may

  by : (i : ℕ) → i ≤ length (es ++ e ∷ []) → (i ≡ length es + 1) ⊎ ((i < length es + 1) ⊎ (length es + 1 < i)) → P (take i (es ++ e ∷ []))
  by i small (inl is) = subst P (sym (ap (λ n. take n (es ++ e ∷ [])) (is ∙ sym (length-append es (e ∷ []))) ∙ take_whole (es ++ e ∷ []))) now
  by i small (inr (inl less)) = let within : i ≤ length es = omega (arith, less) in subst P (sym (take_within es (e ∷ []) i within)) (h.1 i within)
  by i small (inr (inr more)) = absurd (let all = length-append es (e ∷ []) in omega (arith, small, more, all))

-- what holds at first, and of each entry more that may come, holds after any number of the entries of a legal log
pub prefix_rule : (P : List Entry → Type 0) → P [] → ((es : List Entry) (m : ℕ) (e : Entry) → P es → MayCome es m e → P (es ++ e ∷ [])) → (log : Log) → IsLegal log → (i : ℕ) → i ≤ length (entries log) → P (take i (entries log))
prefix_rule P start step log legal = (entries_rule (Along P) (start, λ i small. none_taken i) (along_more P step) log legal).1 where
  none_taken : (i : ℕ) → P (take i [])
  none_taken zero = start
  none_taken (suc i) = start

pub got_small : {A : Type 0} (xs : List A) (i : ℕ) (x : A) → slice_get xs i ≡ Some x → i < length xs
got_small [] i x get = absurd (none_or_some x get)
got_small (y ∷ xs) zero x get = omega arith
got_small (y ∷ xs) (suc i) x get = let less = got_small xs i x get in omega (arith, less)

pub get_taken : {A : Type 0} (xs : List A) (i j : ℕ) (x : A) → slice_get xs i ≡ Some x → i < j → slice_get (take j xs) i ≡ Some x
get_taken [] i j x get less = absurd (none_or_some x get)
get_taken (y ∷ xs) i zero x get less = absurd (omega (arith, less))
get_taken (y ∷ xs) zero (suc j) x get less = get
get_taken (y ∷ xs) (suc i) (suc j) x get less = get_taken xs i j x get (omega (arith, less))

-- an item of what is left after the first h
pub get_dropped : {A : Type 0} (h : ℕ) (xs : List A) (j : ℕ) → slice_get (drop h xs) j ≡ slice_get xs (h + j)
get_dropped zero xs j = let e : j ≡ 0 + j = omega arith in ap (slice_get xs) e
get_dropped (suc h) [] j = refl
get_dropped (suc h) (x ∷ xs) j = let e : suc (h + j) ≡ suc h + j = omega arith in get_dropped h xs j ∙ ap (slice_get (x ∷ xs)) e

-- ---- earlier and later places

-- an item is among those before a later place
pub among : {A : Type 0} (xs : List A) (i j : ℕ) (x : A) → slice_get xs i ≡ Some x → i < j → (mid : List A) × (take j xs ≡ (take i xs ++ x ∷ []) ++ mid)
among [] i j x e l = absurd (none_or_some x e)
among (z ∷ xs) i zero x e l = absurd (omega arith)
among (z ∷ xs) zero (suc j) x e l = (take j xs, ap (λ y. y ∷ take j xs) (ap (λ o. unwrap_or o x) e))
among (z ∷ xs) (suc i) (suc j) x e l = let rest = among xs i j x e (omega arith) in (rest.0, ap (λ l. z ∷ l) rest.1)

or_left : (a c : Bool) → a ≡ true → (a || c) ≡ true
or_left a c h = ap (λ x. x || c) h

or_last : (a c : Bool) → c ≡ true → (a || (c || false)) ≡ true
or_last true c k = refl
or_last false true k = refl
or_last false false k = k

pub found_before : (p : Entry → Bool) (es : List Entry) (i j : ℕ) (e : Entry) → slice_get es i ≡ Some e → i < j → p e ≡ true → list_any p (take j es) ≡ true
found_before p es i j e at l h =
    let b = among es i j e at l in
    ap (list_any p) b.1 ∙ any-append p (take i es ++ e ∷ []) b.0 ∙ or_left (list_any p (take i es ++ e ∷ [])) (list_any p b.0) (any-append p (take i es) (e ∷ []) ∙ or_last (list_any p (take i es)) (p e) h)

pub found_still : (p : Entry → Bool) (es : List Entry) (i j : ℕ) (e : Entry) → slice_get es i ≡ Some e → i < j → list_any p (take i es) ≡ true → list_any p (take j es) ≡ true
found_still p es i j e at l h =
    let b = among es i j e at l in
    ap (list_any p) b.1 ∙ any-append p (take i es ++ e ∷ []) b.0 ∙ or_left (list_any p (take i es ++ e ∷ [])) (list_any p b.0) (any-append p (take i es) (e ∷ []) ∙ or_left (list_any p (take i es)) (list_any p (e ∷ [])) h)

-- ---- a session ends once

not_after_end : (es : List Entry) → StandsMay es → (s : SessionId) (i j : ℕ) (q q' : Option ℕ) (y y' : Why) (rows rows' : List Basic) →
    slice_get es i ≡ Some (entry.Ended s q y rows) → slice_get es j ≡ Some (entry.Ended s q' y' rows') → i < j → ⊥
not_after_end es may s i j q q' y y' rows rows' a b l =
    let open_then = (may j (entry.Ended s q' y' rows') b).1.0 in
    let ended = found_before (ends s) es i j (entry.Ended s q y rows) a l (session_itself s) in
    true≢false (sym ended ∙ not-true _ (and_parts _ _ open_then).1)

pub ends_once : (es : List Entry) → StandsMay es → (s : SessionId) (i j : ℕ) (q q' : Option ℕ) (y y' : Why) (rows rows' : List Basic) →
    slice_get es i ≡ Some (entry.Ended s q y rows) → slice_get es j ≡ Some (entry.Ended s q' y' rows') → i ≡ j
ends_once es may s i j q q' y y' rows rows' a b = by_order (cases_order i j) where
  by_order : (i ≡ j) ⊎ ((i < j) ⊎ (j < i)) → i ≡ j
  by_order (inl e) = e
  by_order (inr (inl l)) = absurd (not_after_end es may s i j q q' y y' rows rows' a b l)
  by_order (inr (inr l)) = absurd (not_after_end es may s j i q' q y' y rows' rows b a l)

-- ---- writes are counted on

abbrev write_number : Entry → ℕ
write_number (entry.Op s q n o r) = n
write_number _ = 0

pub ops-append : (c : ClientId) (es fs : List Entry) → ops c es ≤ ops c (es ++ fs)
ops-append c es [] = let same = ap (ops c) (append-nil es) in omega (arith, same)
ops-append c es (f ∷ fs) =
    let one = ap length (rows_for-append c es f) ∙ length-append (rows_for c es) (filter_map (λ (p : ℕ × Entry). row_in c p.0 p.1) ((length es + 1, f) ∷ [])) in
    let more = ops-append c (es ++ f ∷ []) fs in
    let same = ap (ops c) (append_assoc es (f ∷ []) fs) in
    omega (arith, one, more, same)

pub op_counts : (s : SessionId) (q n : ℕ) (op : Op) (r : Outcome) (es : List Entry) → ops s.client (es ++ entry.Op s q n op r ∷ []) ≡ ops s.client es + 1
op_counts s q n op r es =
    ap length (row_given s.client es (entry.Op s q n op r) (Some row) (ap (λ b. cond b (Some row) None) (client_itself s.client)))
    ∙ length-append (rows_for s.client es) (filter_map (λ (_ : ℕ). Some row) (0 ∷ [])) where
      row : Row
      row = record { done = length es + 1; kept = kept_of r }

op_before : (es : List Entry) → StandsMay es → (s t : SessionId) (i j q p n m : ℕ) (o o' : Op) (r r' : Outcome) →
    slice_get es i ≡ Some (entry.Op s q n o r) → slice_get es j ≡ Some (entry.Op t p m o' r') → s.client ≡ t.client → i < j → n < m
op_before es may s t i j q p n m o o' r r' a b same l =
    let first : n ≡ ops s.client (take i es) + 1 = (may i (entry.Op s q n o r) a).1.1 in
    let second : m ≡ ops s.client (take j es) + 1 = (may j (entry.Op t p m o' r') b).1.1 ∙ ap (λ c. ops c (take j es) + 1) (sym same) in
    let front = among es i j (entry.Op s q n o r) a l in
    let counted = op_counts s q n o r (take i es) in
    let more = subst (λ fs. ops s.client (take i es ++ entry.Op s q n o r ∷ []) ≤ ops s.client fs) (sym front.1) (ops-append s.client (take i es ++ entry.Op s q n o r ∷ []) front.0) in
    omega (arith, first, second, counted, more)

-- a write of a client stands once
pub op_once : (es : List Entry) → StandsMay es → (s t : SessionId) (i j q p n : ℕ) (o o' : Op) (r r' : Outcome) →
    slice_get es i ≡ Some (entry.Op s q n o r) → slice_get es j ≡ Some (entry.Op t p n o' r') → s.client ≡ t.client → i ≡ j
op_once es may s t i j q p n o o' r r' a b same = by_order (cases_order i j) where
  by_order : (i ≡ j) ⊎ ((i < j) ⊎ (j < i)) → i ≡ j
  by_order (inl e) = e
  by_order (inr (inl l)) = absurd (let less = op_before es may s t i j q p n n o o' r r' a b same l in omega (arith, less))
  by_order (inr (inr l)) = absurd (let less = op_before es may t s j i p q n n o' o r' r b a (sym same) l in omega (arith, less))

-- and one with a smaller number stands earlier
pub op_order : (es : List Entry) → StandsMay es → (s t : SessionId) (i j q p n m : ℕ) (o o' : Op) (r r' : Outcome) →
    slice_get es i ≡ Some (entry.Op s q n o r) → slice_get es j ≡ Some (entry.Op t p m o' r') → s.client ≡ t.client → n < m → i < j
op_order es may s t i j q p n m o o' r r' a b same less = by_order (cases_order i j) where
  by_order : (i ≡ j) ⊎ ((i < j) ⊎ (j < i)) → i < j
  by_order (inl e) =
      let found : Some (entry.Op s q n o r) ≡ Some (entry.Op t p m o' r') = sym a ∙ ap (slice_get es) e ∙ b in
      absurd (let is : n ≡ m = ap (λ x. write_number (unwrap_or x (entry.Op s q n o r))) found in omega (arith, is, less))
  by_order (inr (inl l)) = l
  by_order (inr (inr l)) = absurd (let more = op_before es may t s j i p q m n o' o r' r b a (sym same) l in omega (arith, more, less))
