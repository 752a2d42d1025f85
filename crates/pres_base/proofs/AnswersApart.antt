-- Answers that are kept apart from the rest of a base.
use Rattle.std.proofs.Common.{refl, sym, ◌∙◌, ap, subst, ◌≡◌, ℕ, ◌+◌, ◌<◌, ◌≤◌, arith, List, [], ◌∷◌, ◌++◌, append-nil, append_assoc, map, length, Bool, true, false, true≢false, cond, ◌&&◌, IsTrue, ltb, Some, unwrap_or, Ordering, Less, Equal, Greater, is_eq}
use Rattle.std.specs.Prelude.{nat_lt, nat_le}
use Rattle.std.specs.List.{All, AllByRecursion, flat_map}
use Rattle.std.specs.List.Sorted.{IsStrictlySortedBy}
use Rattle.std.specs.Cmp.{IsTotalOrder, tied_itself}
use Rattle.std.specs.Cmp.Lexicographic.{nat_list_cmp_total}
use Rattle.std.specs.FinMap.{slice_cmp-IsAntisymmetric, nat_cmp-IsAntisymmetric}
use Rattle.std.specs.FinMap.Entries.{find}
use Rattle.std.specs.Ordering.{ordering_reverse}
use Rattle.std.proofs.lemmas.Grind.{flat_map-append}
use Rattle.std.proofs.lemmas.List.Elements.{All-nil, All-cons, All-head, All-tail}
use Rattle.std.proofs.lemmas.Bool.{and_parts, and_from, ltb-true, leb-true, lt-ltb, le-leb}
use Rattle.std.proofs.lemmas.Map.Keys.{sorted_head, sorted_tail}
use Rattle.pres_ids.specs.declared.id.Stamp.{Stamp}
use Rattle.pres_ids.specs.Ids.{ClientId, client_cmp, stamp_of}
use Rattle.pres_retry.specs.declared.table.Row.{Row}
use Rattle.pres_retry.specs.Tables.{Table, rows_of}
use Rattle.pres_retry.specs.Above.{rows_above, rows_up_to, AreRising}
use Rattle.pres_retry.proofs.Above.{above_all, rows_join}
use Rattle.pres_base.specs.declared.parts.ClientPart.{ClientPart}
use Rattle.pres_base.specs.declared.parts.SessionPart.{SessionPart}
use Rattle.pres_base.specs.declared.parts.BaseParts.{BaseParts}
use Rattle.pres_base.specs.Bases.{are_done, IsBase}
use Rattle.pres_base.specs.AnswersApart.{answers_for, with_rows, parts_above, parts_up_to, HaveAnswers, AllKeepAnswers, last_base, tables_since, RestIsBase, AllAboveZero, NoTablesAddNone, PartsJoin, TablesMakeBase, TablesGrow, WrittenTablesMakeBase}

-- ---- writes that were done one after another

-- of the test of a first row
first_done : (a n d : ℕ) (rest : Bool) → (nat_lt a d && nat_le d n && rest) ≡ true → (a < d) × (d ≤ n) × (rest ≡ true)
first_done a n d rest h =
    let p = and_parts (nat_lt a d && nat_le d n) rest h in
    let q = and_parts (nat_lt a d) (nat_le d n) p.0 in
    (ltb-true a d q.0, leb-true d n q.1, p.1)

done_from : (a n d : ℕ) (rest : Bool) → a < d → d ≤ n → rest ≡ true → (nat_lt a d && nat_le d n && rest) ≡ true
done_from a n d rest h k r = and_from _ _ (and_from _ _ (lt-ltb a d h) (le-leb d n k)) r

pub rising : (a n : ℕ) (rows : List Row) → are_done a n rows ≡ true → AreRising a rows
rising a n [] h = tt
rising a n (row ∷ later) h = let p = first_done a n row.done (are_done row.done n later) h in (p.0, rising row.done n later p.2)

-- they were done after any number before
done_earlier : (a b n : ℕ) (rows : List Row) → a ≤ b → are_done b n rows ≡ true → are_done a n rows ≡ true
done_earlier a b n [] l h = refl
done_earlier a b n (row ∷ later) l h =
    let p = first_done b n row.done (are_done row.done n later) h in
    let past = p.0 in
    done_from a n row.done (are_done row.done n later) (omega (arith, l, past)) p.1 p.2

-- so were those of them that were done after a number
pub done_above : (m a n : ℕ) (rows : List Row) → are_done a n rows ≡ true → are_done a n (rows_above m rows) ≡ true
done_above m a n [] h = refl
done_above m a n (row ∷ later) h = by (ltb m row.done) (done_above m row.done n later (first_done a n row.done (are_done row.done n later) h).2) where
  p : (a < row.done) × (row.done ≤ n) × (are_done row.done n later ≡ true)
  p = first_done a n row.done (are_done row.done n later) h

  by : (b : Bool) → are_done row.done n (rows_above m later) ≡ true → are_done a n (cond b (row ∷ rows_above m later) (rows_above m later)) ≡ true
  by true rest = done_from a n row.done (are_done row.done n (rows_above m later)) p.0 p.1 rest
  by false rest = let past = p.0 in done_earlier a row.done n (rows_above m later) (omega (arith, past)) rest

-- ---- the answers to a client's writes

abbrev Clients : Type 0
Clients = List ClientPart

abbrev ids : Clients → List ClientId
ids cs = map (λ c. c.id) cs

-- by the first part with its id
abbrev pub rows_in : ClientId → Clients → List Row
rows_in client cs = unwrap_or (find client_cmp client (map (λ c. (c.id, c.rows)) cs)) []

total : IsTotalOrder client_cmp
total = nat_list_cmp_total

tie : (o : Ordering) → is_eq o ≡ true → o ≡ Equal
tie Less h = absurd (true≢false (sym h))
tie Equal h = refl
tie Greater h = absurd (true≢false (sym h))

same : (a b : ClientId) → is_eq (client_cmp a b) ≡ true → a ≡ b
same a b h = slice_cmp-IsAntisymmetric nat_cmp-IsAntisymmetric a b (tie (client_cmp a b) h)

-- of two in order the later isn't the first
apart : (a b : ClientId) → client_cmp a b ≡ Less → is_eq (client_cmp a b) ≡ false
apart a b h = ap is_eq h

apart_back : (a b : ClientId) → client_cmp a b ≡ Less → is_eq (client_cmp b a) ≡ false
apart_back a b h = ap is_eq (total.antisymm b a ∙ ap ordering_reverse h)

itself : (a : ClientId) → is_eq (client_cmp a a) ≡ true
itself a = ap is_eq (tied_itself total a)

-- a client before all others has none among theirs
none_before : (a : ClientId) (cs : Clients) → AllByRecursion (λ k. client_cmp a k ≡ Less) (ids cs) → rows_in a cs ≡ []
none_before a [] h = refl
none_before a (c ∷ cs) h = ap (λ b. unwrap_or (cond b (Some c.rows) (find client_cmp a (map (λ c. (c.id, c.rows)) cs))) []) (apart a c.id h.0) ∙ none_before a cs h.1

-- no rows: the test says that there are none
none_from : (rows : List Row) → nat_lt 0 (length rows) ≡ false → rows ≡ []
none_from [] h = refl
none_from (row ∷ rows) h = absurd (true≢false (sym (lt-ltb 0 (length (row ∷ rows)) (omega arith)) ∙ h))

-- those that have any have all answers
pub answers_found : (client : ClientId) (cs : Clients) → IsStrictlySortedBy client_cmp (ids cs) → rows_of client (answers_for cs) ≡ rows_in client cs
answers_found client [] h = refl
answers_found client (c ∷ cs) h = by (nat_lt 0 (length c.rows)) (is_eq (client_cmp client c.id)) refl refl (answers_found client cs (sorted_tail client_cmp c.id (ids cs) h)) where
  none : is_eq (client_cmp client c.id) ≡ true → rows_in client cs ≡ []
  none t = ap (λ k. rows_in k cs) (same client c.id t) ∙ none_before c.id cs (sorted_head client_cmp c.id (ids cs) h)

  by : (some own : Bool) → nat_lt 0 (length c.rows) ≡ some → is_eq (client_cmp client c.id) ≡ own → rows_of client (answers_for cs) ≡ rows_in client cs
      → rows_of client (cond some ((c.id, c.rows) ∷ answers_for cs) (answers_for cs)) ≡ unwrap_or (cond own (Some c.rows) (find client_cmp client (map (λ c. (c.id, c.rows)) cs))) []
  by true true s t r = ap (λ b. unwrap_or (cond b (Some c.rows) (find client_cmp client (answers_for cs))) []) t
  by true false s t r = ap (λ b. unwrap_or (cond b (Some c.rows) (find client_cmp client (answers_for cs))) []) t ∙ r
  by false true s t r = r ∙ none t ∙ sym (none_from c.rows s)
  by false false s t r = r

-- where each client's answers change in one way, so do those that are found
pub found_changed : (change : List Row → List Row) → change [] ≡ [] → (client : ClientId) (cs : Clients)
    → rows_in client (map (λ c. record { id = c.id; last = c.last; rows = change c.rows }) cs) ≡ change (rows_in client cs)
found_changed change none client [] = sym none
found_changed change none client (c ∷ cs) = by (is_eq (client_cmp client c.id)) (found_changed change none client cs) where
  changed : Clients
  changed = map (λ c. record { id = c.id; last = c.last; rows = change c.rows }) cs

  by : (own : Bool) → rows_in client changed ≡ change (rows_in client cs)
      → unwrap_or (cond own (Some (change c.rows)) (find client_cmp client (map (λ c. (c.id, c.rows)) changed))) [] ≡ change (unwrap_or (cond own (Some c.rows) (find client_cmp client (map (λ c. (c.id, c.rows)) cs))) [])
  by true r = refl
  by false r = r

-- each client's answers are found by its id
module _ (c : ClientPart) (cs : Clients) where
  still_found : (ds : Clients) → AllByRecursion (λ k. client_cmp c.id k ≡ Less) (ids ds) → AllByRecursion (λ d. rows_in d.id cs ≡ d.rows) ds → AllByRecursion (λ d. rows_in d.id (c ∷ cs) ≡ d.rows) ds
  still_found [] h g = tt
  still_found (d ∷ ds) h g = (
    ap (λ b. unwrap_or (cond b (Some c.rows) (find client_cmp d.id (map (λ c. (c.id, c.rows)) cs))) []) (apart_back c.id d.id h.0) ∙ g.0,
    still_found ds h.1 g.1,
  )

pub each_found : (cs : Clients) → IsStrictlySortedBy client_cmp (ids cs) → AllByRecursion (λ c. rows_in c.id cs ≡ c.rows) cs
each_found [] h = tt
each_found (c ∷ cs) h = (
  ap (λ b. unwrap_or (cond b (Some c.rows) (find client_cmp c.id (map (λ c. (c.id, c.rows)) cs))) []) (itself c.id),
  still_found c cs cs (sorted_head client_cmp c.id (ids cs) h) (each_found cs (sorted_tail client_cmp c.id (ids cs) h)),
)

-- they rise
found_rising : (n : ℕ) (client : ClientId) (cs : Clients) → All (λ (c : ClientPart). IsTrue (are_done 0 n c.rows)) cs → AreRising 0 (rows_in client cs)
found_rising n client [] h = tt
found_rising n client (c ∷ cs) h = by (is_eq (client_cmp client c.id)) (found_rising n client cs (All-tail (λ (c : ClientPart). IsTrue (are_done 0 n c.rows)) c cs h)) where
  by : (own : Bool) → AreRising 0 (rows_in client cs) → AreRising 0 (unwrap_or (cond own (Some c.rows) (find client_cmp client (map (λ c. (c.id, c.rows)) cs))) [])
  by true r = rising 0 n c.rows (All-head (λ (c : ClientPart). IsTrue (are_done 0 n c.rows)) c cs h)
  by false r = r

-- ---- other rows for each client

module _ (rows : ClientPart → List Row) where
  abbrev rowed : Clients → Clients
  rowed cs = map (λ c. record { id = c.id; last = c.last; rows = rows c }) cs

  ids_stay : (cs : Clients) → ids (rowed cs) ≡ ids cs
  ids_stay [] = refl
  ids_stay (c ∷ cs) = ap (λ l. c.id ∷ l) (ids_stay cs)

  lasts_stay : (cs : Clients) → map {B = ClientId × Stamp} (λ c. (c.id, c.last)) (rowed cs) ≡ map (λ c. (c.id, c.last)) cs
  lasts_stay [] = refl
  lasts_stay (c ∷ cs) = ap (λ l. (c.id, c.last) ∷ l) (lasts_stay cs)

  each_done : (n : ℕ) (cs : Clients) → ((c : ClientPart) → are_done 0 n c.rows ≡ true → are_done 0 n (rows c) ≡ true) → All (λ (c : ClientPart). IsTrue (are_done 0 n c.rows)) cs → All (λ (c : ClientPart). IsTrue (are_done 0 n c.rows)) (rowed cs)
  each_done n [] f h = All-nil (λ (c : ClientPart). IsTrue (are_done 0 n c.rows))
  each_done n (c ∷ cs) f h =
      All-cons (λ (c : ClientPart). IsTrue (are_done 0 n c.rows)) (record { id = c.id; last = c.last; rows = rows c }) (rowed cs) (f c (All-head (λ (c : ClientPart). IsTrue (are_done 0 n c.rows)) c cs h))
      (each_done n cs f (All-tail (λ (c : ClientPart). IsTrue (are_done 0 n c.rows)) c cs h))

  pub rowed_is_base : (p : BaseParts) → ((c : ClientPart) → are_done 0 p.number c.rows ≡ true → are_done 0 p.number (rows c) ≡ true) → IsBase p → IsBase (with_rows rows p)
  rowed_is_base p f h = record {
    clients = subst (IsStrictlySortedBy client_cmp) (sym (ids_stay p.clients)) h.clients;
    sessions = h.sessions;
    answers = each_done p.number p.clients f h.answers;
    last = subst (λ es. All (λ (s : SessionPart). find client_cmp s.session.client es ≡ Some (stamp_of s.session)) p.sessions) (sym (lasts_stay p.clients)) h.last;
    each = h.each;
    few = h.few;
    batches = h.batches;
    room = h.room;
    moment = h.moment;
  }

  -- with rows before them that make them whole
  whole_clients : (front : ClientId → List Row) (cs : Clients) → AllByRecursion (λ c. front c.id ++ rows c ≡ c.rows) cs → map (λ (c : ClientPart). record { id = c.id; last = c.last; rows = front c.id ++ c.rows }) (rowed cs) ≡ cs
  whole_clients front [] h = refl
  whole_clients front (c ∷ cs) h = λ i. record { id = c.id; last = c.last; rows = h.0 i } ∷ whole_clients front cs h.1 i

-- rows that are left out after others
rowed_twice : (rows : ClientPart → List Row) (cs : Clients) → rowed (λ c. []) (rowed rows cs) ≡ rowed (λ c. []) cs
rowed_twice rows [] = refl
rowed_twice rows (c ∷ cs) = ap (λ l. record { id = c.id; last = c.last; rows = [] } ∷ l) (rowed_twice rows cs)

-- rows that stay the same
rowed_same : (cs : Clients) → rowed (λ c. c.rows) cs ≡ cs
rowed_same [] = refl
rowed_same (c ∷ cs) = ap (λ l. c ∷ l) (rowed_same cs)

pub no_tables_add_none : (p : BaseParts) → NoTablesAddNone p
no_tables_add_none p =
    let clients = rowed_same p.clients in
    λ i. record { batches = p.batches; moment = p.moment; number = p.number; tree = p.tree; clients = clients i; sessions = p.sessions }

pub rest_is_base : (number : ℕ) (p : BaseParts) → IsBase p → RestIsBase number p
rest_is_base number p h = record {
  above = rowed_is_base (λ c. rows_above number c.rows) p (λ c d. done_above number 0 p.number c.rows d) h;
  none = rowed_is_base (λ c. []) p (λ c d. refl) h;
  same =
      let clients = rowed_twice (λ c. rows_above number c.rows) p.clients in
      λ i. record { batches = p.batches; moment = p.moment; number = p.number; tree = p.tree; clients = clients i; sessions = p.sessions };
}

-- clients whose answers all were made after number 0
clients_above : (n : ℕ) (cs : Clients) → All (λ (c : ClientPart). IsTrue (are_done 0 n c.rows)) cs → rowed (λ c. rows_above 0 c.rows) cs ≡ cs
clients_above n [] h = refl
clients_above n (c ∷ cs) h =
    let own = above_all 0 0 c.rows (omega arith) (rising 0 n c.rows (All-head (λ (c : ClientPart). IsTrue (are_done 0 n c.rows)) c cs h)) in
    let rest = clients_above n cs (All-tail (λ (c : ClientPart). IsTrue (are_done 0 n c.rows)) c cs h) in
    λ i. record { id = c.id; last = c.last; rows = own i } ∷ rest i

pub all_above_zero : (p : BaseParts) → AllAboveZero p
all_above_zero p h =
    let clients = clients_above p.number p.clients h.answers in
    λ i. record { batches = p.batches; moment = p.moment; number = p.number; tree = p.tree; clients = clients i; sessions = p.sessions }

-- ---- the base again

-- what is found by each id is made of two parts
module _ (front : ClientId → List Row) (rows : ClientPart → List Row) where
  each_whole : (cs ds : Clients) → ((c : ClientPart) → rows_in c.id ds ≡ c.rows → front c.id ++ rows c ≡ c.rows) → AllByRecursion (λ c. rows_in c.id ds ≡ c.rows) cs → AllByRecursion (λ c. front c.id ++ rows c ≡ c.rows) cs
  each_whole [] ds f h = tt
  each_whole (c ∷ cs) ds f h = (f c h.0, each_whole cs ds f h.1)

  pub whole_parts : (p : BaseParts) → IsBase p → ((c : ClientPart) → rows_in c.id p.clients ≡ c.rows → front c.id ++ rows c ≡ c.rows) → with_rows (λ c. front c.id ++ c.rows) (with_rows rows p) ≡ p
  whole_parts p h f =
      let clients = whole_clients rows front p.clients (each_whole p.clients p.clients f (each_found p.clients h.clients)) in
      λ i. record { batches = p.batches; moment = p.moment; number = p.number; tree = p.tree; clients = clients i; sessions = p.sessions }

pub tables_make_base : (tables : List Table) (p : BaseParts) → TablesMakeBase tables p
tables_make_base tables p h have =
    whole_parts (λ k. flat_map (rows_of k) tables) (λ c. []) p h
    (λ c found. append-nil (flat_map (rows_of c.id) tables) ∙ have c.id ∙ answers_found c.id p.clients h.clients ∙ found)

-- of a base with rows that change in one way
found_in : (change : List Row → List Row) → change [] ≡ [] → (p : BaseParts) → IsBase p → (client : ClientId)
    → rows_of client (answers_for (with_rows (λ c. change c.rows) p).clients) ≡ change (rows_of client (answers_for p.clients))
found_in change none p h client =
    answers_found client (with_rows (λ c. change c.rows) p).clients (subst (IsStrictlySortedBy client_cmp) (sym (ids_stay (λ c. change c.rows) p.clients)) h.clients)
    ∙ found_changed change none client p.clients
    ∙ ap change (sym (answers_found client p.clients h.clients))

pub answers_rise : (p : BaseParts) → IsBase p → (client : ClientId) → AreRising 0 (rows_of client (answers_for p.clients))
answers_rise p h client = subst (AreRising 0) (sym (answers_found client p.clients h.clients)) (found_rising p.number client p.clients h.answers)

pub parts_join : (number : ℕ) (p : BaseParts) → PartsJoin number p
parts_join number p h =
    whole_parts (λ k. flat_map (rows_of k) (answers_for (parts_up_to number p).clients ∷ [])) (λ c. rows_above number c.rows) p h
    (λ c found.
    ap (λ l. l ++ rows_above number c.rows)
    (append-nil (rows_of c.id (answers_for (parts_up_to number p).clients))
    ∙ found_in (rows_up_to number) refl p h c.id
    ∙ ap (rows_up_to number) (answers_found c.id p.clients h.clients ∙ found))
    ∙ rows_join number 0 c.rows (subst (AreRising 0) found (found_rising p.number c.id p.clients h.answers)))

-- ---- tables that grow

pub tables_grow : (tables more : List Table) (earlier later : BaseParts) → TablesGrow tables more earlier later
tables_grow tables more earlier later h keeps have add client =
    let rows = rows_of client (answers_for later.clients) in
    let front : flat_map (rows_of client) tables ≡ rows_up_to earlier.number rows = have client ∙ sym (keeps client) in
    let rest : flat_map (rows_of client) more ≡ rows_above earlier.number rows = add client ∙ found_in (rows_above earlier.number) refl later h client in
    flat_map-append (rows_of client) tables more ∙ (λ i. front i ++ rest i) ∙ rows_join earlier.number 0 rows (answers_rise later h client)

-- one table has the answers that it is made of
one_table : (p : BaseParts) → HaveAnswers (answers_for p.clients ∷ []) p
one_table p client = append-nil (rows_of client (answers_for p.clients))

all_have : (tables : List Table) (p : BaseParts) (later : List BaseParts) → HaveAnswers tables p → AllKeepAnswers p later → HaveAnswers (tables ++ tables_since p.number later) (last_base p later)
all_have tables p [] have k = λ client. ap (flat_map (rows_of client)) (append-nil tables) ∙ have client
all_have tables p (q ∷ later) have k =
    let table = answers_for (parts_above p.number q).clients in
    let grown = tables_grow tables (table ∷ []) p q k.0 k.1 have (one_table (parts_above p.number q)) in
    let all = all_have (tables ++ table ∷ []) q later grown k.2 in
    λ client. ap (flat_map (rows_of client)) (sym (append_assoc tables (table ∷ []) (tables_since q.number later))) ∙ all client

last_is_base : (p : BaseParts) (later : List BaseParts) → IsBase p → AllKeepAnswers p later → IsBase (last_base p later)
last_is_base p [] h k = h
last_is_base p (q ∷ later) h k = last_is_base q later k.0 k.2

pub written_tables_make_base : (first : BaseParts) (later : List BaseParts) → WrittenTablesMakeBase first later
written_tables_make_base first later h k = tables_make_base (tables_since 0 (first ∷ later)) (last_base first later) (last_is_base first later h k) (all_have (table ∷ []) first later begun k) where
  table : Table
  table = answers_for (parts_above 0 first).clients

  begun : HaveAnswers (table ∷ []) first
  begun client =
      append-nil (rows_of client table)
      ∙ found_in (rows_above 0) refl first h client
      ∙ above_all 0 0 (rows_of client (answers_for first.clients)) (omega arith) (answers_rise first h client)
