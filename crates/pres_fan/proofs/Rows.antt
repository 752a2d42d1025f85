-- The rows of those whom writes touch: how they are made, and what they tell.
use Rattle.std.proofs.Common.{refl, sym, ◌∙◌, ap, subst, ◌≡◌, ℕ, ◌<◌, ◌-◌, arith, List, [], ◌∷◌, ◌++◌, append_assoc, append-nil, length, map, filter, Bool, true, false, not, cond, ◌||◌, true≢false, T, Some, None, Less, is_gt, is_lt}
use Rattle.std.specs.Prelude.{slice_index_or, slice_set}
use Rattle.std.specs.List.{list_any, AllByRecursion}
use Rattle.std.specs.List.Sorted.{IsStrictlySortedBy}
use Rattle.std.specs.FinMap.Entries.{find, is_sorted, below_all}
use Rattle.std.proofs.lemmas.Bool.{not-true, and_from}
use Rattle.std.proofs.lemmas.List.{length_push, get_or_push, set_at, set-get_or}
use Rattle.std.proofs.lemmas.List.Kept.{IsStrictlySortedBy-filter}
use Rattle.std.proofs.lemmas.Map.Keys.{sorted_tail}
use Rattle.pres_tree.specs.Paths.{Path, path_cmp}
use Rattle.pres_write.specs.Basics.{BasicWrite}
use Rattle.pres_ids.specs.Ids.{same_session}
use Rattle.pres_ids.specs.declared.id.SessionId.{SessionId}
use Rattle.pres_fan.specs.declared.listeners.Listener.{Listener}
use Rattle.pres_fan.specs.Listeners.{session_cmp, listener_cmp, paths_of, IsListeners, without_session, is_touched, touched_of, sessions, by_session, touched}
use Rattle.pres_fan.specs.Laws.{some_paths}
use Rattle.pres_fan.proofs.Orders.{session_same, session_itself, same_by_cmp}
use Rattle.pres_fan.proofs.Lists.{filter_map_later, all_filtered, passes, all_then, filter_all, any_under, all_both}
use Rattle.pres_fan.proofs.Places.{From, less_apart, flip, all_from, from_apart, all_later, none_later, without_session_step, paths_rise}

abbrev pub Row : Type 0
Row = SessionId × List Path

-- ---- a row at the end

-- one listener more: in the last row where that is its session's, and else in a row of its own
abbrev row_added : Listener → List Row → List Row
row_added l [] = (l.session, l.path ∷ []) ∷ []
row_added l (row ∷ []) = cond (same_session row.0 l.session) ((row.0, row.1 ++ l.path ∷ []) ∷ []) (row ∷ (l.session, l.path ∷ []) ∷ [])
row_added l (row ∷ next ∷ rows) = row ∷ row_added l (next ∷ rows)

pub added_last : (l : Listener) (rows : List Row) (row : Row) → row_added l (rows ++ row ∷ []) ≡ rows ++ row_added l (row ∷ [])
added_last l [] row = refl
added_last l (r ∷ []) row = refl
added_last l (r ∷ q ∷ rows) row = ap (λ rs. r ∷ rs) (added_last l (q ∷ rows) row)

-- a list that is not empty, and its last item
record Ended {A : Type 0} (xs : List A) : Type 0 where
  before : List A
  last : A
  is : xs ≡ before ++ last ∷ []

ended : {A : Type 0} (xs : List A) → 0 < length xs → Ended xs
ended [] some = absurd (omega arith)
ended (x ∷ []) some = record { before = []; last = x; is = refl }
ended (x ∷ y ∷ xs) some = let e = ended (y ∷ xs) (omega arith) in record { before = x ∷ e.before; last = e.last; is = ap (λ l. x ∷ l) e.is }

ending : {A : Type 0} (xs ys : List A) (y : A) → xs ≡ ys ++ y ∷ [] → length xs - 1 ≡ length ys
ending xs ys y e = omega (arith, ap length e ∙ length_push ys y)

at_end : {A : Type 0} (xs ys : List A) (y x : A) → xs ≡ ys ++ y ∷ [] → x ≡ slice_index_or xs (length xs - 1) x → x ≡ y
at_end xs ys y x e x_is = x_is ∙ (λ i. slice_index_or (e i) (ending xs ys y e i) x) ∙ get_or_push ys y x (length ys) refl

added_ended : (l : Listener) (rows before : List Row) (last row : Row) (b : Bool) → rows ≡ before ++ last ∷ [] → row ≡ last → same_session row.0 l.session ≡ b →
    row_added l rows ≡ before ++ cond b ((row.0, row.1 ++ l.path ∷ []) ∷ []) (row ∷ (l.session, l.path ∷ []) ∷ [])
added_ended l rows before last row b is row_is e =
    ap (row_added l) (is ∙ ap (λ r. before ++ r ∷ []) (sym row_is)) ∙ added_last l before row
    ∙ ap (λ c. before ++ cond c ((row.0, row.1 ++ l.path ∷ []) ∷ []) (row ∷ (l.session, l.path ∷ []) ∷ [])) e

-- the last row is of the session
pub to_last : (l : Listener) (rows : List Row) (n : ℕ) (row new : Row) → n ≡ length rows → 0 < n → row ≡ slice_index_or rows (n - 1) row → same_session row.0 l.session ≡ true → new ≡ (row.0, row.1 ++ l.path ∷ []) →
    slice_set rows (n - 1) new ≡ row_added l rows
to_last l rows n row new count some row_is same new_is =
    let e = ended rows (subst (λ m. 0 < m) count some) in
    let last = at_end rows e.before e.last row e.is (row_is ∙ ap (λ m. slice_index_or rows (m - 1) row) count) in
    ap (λ m. slice_set rows (m - 1) new) count
    ∙ (λ i. slice_set (e.is i) (ending rows e.before e.last e.is i) new)
    ∙ set_at e.before e.last [] new (length e.before) refl
    ∙ ap (λ r. e.before ++ r ∷ []) new_is
    ∙ sym (added_ended l rows e.before e.last row true e.is last same)

-- it is of another session; old has it in its place
pub behind_last : (l : Listener) (rows old : List Row) (n : ℕ) (row : Row) → n ≡ length rows → 0 < n → row ≡ slice_index_or rows (n - 1) row → same_session row.0 l.session ≡ false → old ≡ slice_set rows (n - 1) row →
    old ++ (l.session, l.path ∷ []) ∷ [] ≡ row_added l rows
behind_last l rows old n row count some row_is same old_is =
    let e = ended rows (subst (λ m. 0 < m) count some) in
    let last = at_end rows e.before e.last row e.is (row_is ∙ ap (λ m. slice_index_or rows (m - 1) row) count) in
    ap (λ rs. rs ++ (l.session, l.path ∷ []) ∷ [])
    (old_is ∙ ap (slice_set rows (n - 1)) row_is ∙ set-get_or rows (n - 1) row ∙ e.is ∙ ap (λ r. e.before ++ r ∷ []) (sym last))
    ∙ append_assoc e.before (row ∷ []) ((l.session, l.path ∷ []) ∷ [])
    ∙ sym (added_ended l rows e.before e.last row false e.is last same)

-- there is none
pub behind_none : (l : Listener) (rows old : List Row) (n : ℕ) → n ≡ length rows → (0 < n → false ≡ true) → old ≡ rows → old ++ (l.session, l.path ∷ []) ∷ [] ≡ row_added l rows
behind_none l [] old n count none old_is = ap (λ rs. rs ++ (l.session, l.path ∷ []) ∷ []) old_is
behind_none l (row ∷ rows) old n count none old_is = absurd (true≢false (sym (none (omega arith))))

-- the listeners in turn
abbrev added : List Row → List Listener → List Row
added rows [] = rows
added rows (l ∷ ls) = added (row_added l rows) ls

added_later : (rows : List Row) (ls : List Listener) (l : Listener) → added rows (ls ++ l ∷ []) ≡ row_added l (added rows ls)
added_later rows [] l = refl
added_later rows (m ∷ ls) l = added_later (row_added m rows) ls l

-- ---- by session, the first one first

sessions_without : (s : SessionId) (ls : List Listener) → filter (λ t. not (same_session s t)) (sessions ls) ≡ sessions (without_session s ls)
sessions_without s [] = refl
sessions_without s (l ∷ ls) = by (same_session s l.session) refl (sessions_without s ls) where
  F : SessionId → List SessionId → List SessionId
  F t = filter (λ u. not (same_session t u))

  twice : (xs : List SessionId) → F s (F s xs) ≡ F s xs
  twice xs = filter_all (λ u. not (same_session s u)) (F s xs) (passes (λ u. not (same_session s u)) xs)

  by : (b : Bool) → same_session s l.session ≡ b → F s (sessions ls) ≡ sessions (without_session s ls) → F s (l.session ∷ F l.session (sessions ls)) ≡ sessions (without_session s (l ∷ ls))
  by true e h =
      ap (λ b. cond (not b) (l.session ∷ F s (F l.session (sessions ls))) (F s (F l.session (sessions ls)))) e
      ∙ ap (λ t. F s (F t (sessions ls))) (sym (session_same s l.session e))
      ∙ twice (sessions ls) ∙ h
      ∙ sym (ap (λ b. sessions (cond (not b) (l ∷ without_session s ls) (without_session s ls))) e)
  by false e h =
      ap (λ b. cond (not b) (l.session ∷ F s (F l.session (sessions ls))) (F s (F l.session (sessions ls)))) e
      ∙ ap (λ xs. l.session ∷ xs) (swapped (sessions ls) ∙ ap (F l.session) h)
      ∙ sym (ap (λ b. sessions (cond (not b) (l ∷ without_session s ls) (without_session s ls))) e) where
        swapped : (xs : List SessionId) → F s (F l.session xs) ≡ F l.session (F s xs)
        swapped [] = refl
        swapped (x ∷ xs) = both (same_session s x) refl (same_session l.session x) refl (swapped xs) where
          both : (a : Bool) → same_session s x ≡ a → (b : Bool) → same_session l.session x ≡ b → F s (F l.session xs) ≡ F l.session (F s xs) → F s (F l.session (x ∷ xs)) ≡ F l.session (F s (x ∷ xs))
          both a e b f h =
              ap (λ c. F s (cond (not c) (x ∷ F l.session xs) (F l.session xs))) f
              ∙ step a e b f h
              ∙ sym (ap (λ c. F l.session (cond (not c) (x ∷ F s xs) (F s xs))) e) where
                step : (a : Bool) → same_session s x ≡ a → (b : Bool) → same_session l.session x ≡ b → F s (F l.session xs) ≡ F l.session (F s xs) → F s (cond (not b) (x ∷ F l.session xs) (F l.session xs)) ≡ F l.session (cond (not a) (x ∷ F s xs) (F s xs))
                step true e true f h = h
                step true e false f h = ap (λ c. cond (not c) (x ∷ F s (F l.session xs)) (F s (F l.session xs))) e ∙ h
                step false e true f h = h ∙ sym (ap (λ c. cond (not c) (x ∷ F l.session (F s xs)) (F l.session (F s xs))) f)
                step false e false f h =
                    ap (λ c. cond (not c) (x ∷ F s (F l.session xs)) (F s (F l.session xs))) e ∙ ap (λ ys. x ∷ ys) h
                    ∙ sym (ap (λ c. cond (not c) (x ∷ F l.session (F s xs)) (F l.session (F s xs))) f)

map_agree : (f g : SessionId → Row) (xs : List SessionId) → AllByRecursion (λ t. f t ≡ g t) xs → map f xs ≡ map g xs
map_agree f g [] a = refl
map_agree f g (x ∷ xs) a = λ i. a.0 i ∷ map_agree f g xs a.1 i

by_first : (l : Listener) (ls : List Listener) → by_session (l ∷ ls) ≡ (l.session, l.path ∷ paths_of l.session ls) ∷ by_session (without_session l.session ls)
by_first l ls = λ i. (l.session, own i) ∷ rest i where
  own : paths_of l.session (l ∷ ls) ≡ l.path ∷ paths_of l.session ls
  own = ap (λ b. map (λ m. m.path) (cond b (l ∷ filter (λ m. same_session l.session m.session) ls) (filter (λ m. same_session l.session m.session) ls))) (session_itself l.session)

  before : SessionId → Row
  before t = (t, paths_of t (l ∷ ls))

  after : SessionId → Row
  after t = (t, paths_of t (without_session l.session ls))

  same : (t : SessionId) → not (same_session l.session t) ≡ true → before t ≡ after t
  same t e =
      let far = flip l.session t (not-true _ e) in
      ap (λ ps. (t, ps))
      (ap (λ b. map (λ m. m.path) (cond b (l ∷ filter (λ m. same_session t m.session) ls) (filter (λ m. same_session t m.session) ls))) far
      ∙ sym (without_session_step l.session t ls ∙ ap (λ b. cond b [] (paths_of t ls)) far))

  rest : map before (filter (λ t. not (same_session l.session t)) (sessions ls)) ≡ by_session (without_session l.session ls)
  rest =
      map_agree before after (filter (λ t. not (same_session l.session t)) (sessions ls))
      (all_then (λ t. not (same_session l.session t) ≡ true) (λ t. before t ≡ after t) same _ (passes (λ t. not (same_session l.session t)) (sessions ls)))
      ∙ ap (map after) (sessions_without l.session ls)

-- ---- the rows of listeners in order

-- the last row takes the places of its session, and the others come after it
added_behind : (rows : List Row) (s : SessionId) (ps : List Path) (ls : List Listener) → IsStrictlySortedBy listener_cmp ls → AllByRecursion (From s) ls →
    added (rows ++ (s, ps) ∷ []) ls ≡ rows ++ (s, ps ++ paths_of s ls) ∷ by_session (without_session s ls)
added_behind rows s ps [] sorted from = ap (λ qs. rows ++ (s, qs) ∷ []) (sym (append-nil ps))
added_behind rows s ps (l ∷ ls) sorted from =
    ap (λ rs. added rs ls) (added_last l rows (s, ps))
    ∙ by (same_session s l.session) refl (λ rs t qs. added_behind rs t qs ls (sorted_tail listener_cmp l ls sorted)) where
      by : (b : Bool) → same_session s l.session ≡ b →
          ((rs : List Row) (t : SessionId) (qs : List Path) → AllByRecursion (From t) ls → added (rs ++ (t, qs) ∷ []) ls ≡ rs ++ (t, qs ++ paths_of t ls) ∷ by_session (without_session t ls)) →
          added (rows ++ row_added l ((s, ps) ∷ [])) ls ≡ rows ++ (s, ps ++ paths_of s (l ∷ ls)) ∷ by_session (without_session s (l ∷ ls))
      by true e h =
          ap (λ b. added (rows ++ cond b ((s, ps ++ l.path ∷ []) ∷ []) ((s, ps) ∷ (l.session, l.path ∷ []) ∷ [])) ls) e
          ∙ h rows s (ps ++ l.path ∷ []) from.1
          ∙ ap (λ qs. rows ++ (s, qs) ∷ by_session (without_session s ls))
          (append_assoc ps (l.path ∷ []) (paths_of s ls)
          ∙ sym (ap (λ b. ps ++ map (λ m. m.path) (cond b (l ∷ filter (λ m. same_session s m.session) ls) (filter (λ m. same_session s m.session) ls))) e))
          ∙ sym (ap (λ b. rows ++ (s, ps ++ paths_of s (l ∷ ls)) ∷ by_session (cond (not b) (l ∷ without_session s ls) (without_session s ls))) e)
      by false e h =
          let later = all_later s l ls sorted (from_apart s l.session from.0 e) in
          let apart = all_then (λ y. session_cmp s y.session ≡ Less) (λ y. not (same_session s y.session) ≡ true) (λ y k. ap not (less_apart s y.session k)) (l ∷ ls) later in
          ap (λ b. added (rows ++ cond b ((s, ps ++ l.path ∷ []) ∷ []) ((s, ps) ∷ (l.session, l.path ∷ []) ∷ [])) ls) e
          ∙ ap (λ rs. added rs ls) (sym (append_assoc rows ((s, ps) ∷ []) ((l.session, l.path ∷ []) ∷ [])))
          ∙ h (rows ++ (s, ps) ∷ []) l.session (l.path ∷ []) (all_from l ls sorted)
          ∙ append_assoc rows ((s, ps) ∷ []) ((l.session, l.path ∷ paths_of l.session ls) ∷ by_session (without_session l.session ls))
          ∙ ap (λ rs. rows ++ (s, ps) ∷ rs) (sym (by_first l ls))
          ∙ ap (λ qs. rows ++ (s, qs) ∷ by_session (l ∷ ls)) (sym (ap (λ qs. ps ++ qs) (none_later s (l ∷ ls) later) ∙ append-nil ps))
          ∙ ap (λ ms. rows ++ (s, ps ++ paths_of s (l ∷ ls)) ∷ by_session ms) (sym (filter_all (λ m. not (same_session s m.session)) (l ∷ ls) apart))

rows_of : (ls : List Listener) → IsStrictlySortedBy listener_cmp ls → added [] ls ≡ by_session ls
rows_of [] sorted = refl
rows_of (l ∷ ls) sorted = added_behind [] l.session (l.path ∷ []) ls (sorted_tail listener_cmp l ls sorted) (all_from l ls sorted) ∙ sym (by_first l ls)

all_before : {A : Type 0} (P : A → Type 0) (xs ys : List A) → AllByRecursion P (xs ++ ys) → AllByRecursion P xs
all_before P [] ys a = tt
all_before P (x ∷ xs) ys a = (a.0, all_before P xs ys a.1)

pub sorted_before : (xs ys : List Listener) → IsStrictlySortedBy listener_cmp (xs ++ ys) → IsStrictlySortedBy listener_cmp xs
unfolding IsStrictlySortedBy
sorted_before [] ys sorted = tt
sorted_before (x ∷ xs) ys sorted = (all_before (λ y. listener_cmp x y ≡ Less) xs ys sorted.0, sorted_before xs ys sorted.1)

-- the rows with one listener more are those of one listener more
pub one_more_row : (l : Listener) (rows new : List Row) → new ≡ row_added l rows → (before : List Listener) → IsStrictlySortedBy listener_cmp (before ++ l ∷ []) → rows ≡ by_session before → new ≡ by_session (before ++ l ∷ [])
one_more_row l rows new is before sorted e =
    is
    ∙ ap (row_added l) (e ∙ sym (rows_of before (sorted_before before (l ∷ []) sorted)))
    ∙ sym (added_later [] before l)
    ∙ rows_of (before ++ l ∷ []) sorted

-- ---- the rows of some first listeners of a list

pub record Made (whole : List Listener) (rows : List Row) (rest : List Listener) : Type 0 where
  pub done : List Listener
  pub whole_is : whole ≡ done ++ rest
  pub rows_are : rows ≡ by_session done

pub made_none : (whole : List Listener) → Made whole [] whole
made_none whole = record { done = []; whole_is = refl; rows_are = refl }

pub made_more : (whole : List Listener) (rows new : List Row) (l : Listener) (rest : List Listener) → IsStrictlySortedBy listener_cmp whole →
    ((before : List Listener) → IsStrictlySortedBy listener_cmp (before ++ l ∷ []) → rows ≡ by_session before → new ≡ by_session (before ++ l ∷ [])) →
    Made whole rows (l ∷ rest) → Made whole new rest
made_more whole rows new l rest ordered more made =
    let whole_is : whole ≡ (made.done ++ l ∷ []) ++ rest = made.whole_is ∙ sym (append_assoc made.done (l ∷ []) rest) in
    record {
      done = made.done ++ l ∷ [];
      whole_is = whole_is;
      rows_are = more made.done (sorted_before (made.done ++ l ∷ []) rest (subst (IsStrictlySortedBy listener_cmp) whole_is ordered)) made.rows_are;
    }

pub made_all : (whole : List Listener) (rows : List Row) → Made whole rows [] → rows ≡ by_session whole
made_all whole rows made = made.rows_are ∙ ap by_session (sym (made.whole_is ∙ append-nil made.done))

-- ---- what the rows tell

all_sessions : (P : SessionId → Type 0) (ls : List Listener) → AllByRecursion (λ l. P l.session) ls → AllByRecursion P (sessions ls)
all_sessions P [] a = tt
all_sessions P (l ∷ ls) a = (a.0, all_filtered P (λ t. not (same_session l.session t)) (sessions ls) (all_sessions P ls a.1))

sessions_rise : (ls : List Listener) → IsStrictlySortedBy listener_cmp ls → IsStrictlySortedBy session_cmp (sessions ls)
unfolding IsStrictlySortedBy
sessions_rise [] sorted = tt
sessions_rise (l ∷ ls) sorted = (above, IsStrictlySortedBy-filter session_cmp (λ t. not (same_session l.session t)) (sessions ls) (sessions_rise ls (sorted_tail listener_cmp l ls sorted))) where
  from : AllByRecursion (λ t. is_gt (session_cmp l.session t) ≡ false) (sessions ls)
  from = all_sessions (λ t. is_gt (session_cmp l.session t) ≡ false) ls (all_from l ls sorted)

  above : AllByRecursion (λ t. session_cmp l.session t ≡ Less) (filter (λ t. not (same_session l.session t)) (sessions ls))
  above =
      all_both (λ t. is_gt (session_cmp l.session t) ≡ false) (λ t. not (same_session l.session t) ≡ true) (λ t. session_cmp l.session t ≡ Less)
      (λ t f k. from_apart l.session t f (not-true _ k)) _
      (all_filtered (λ t. is_gt (session_cmp l.session t) ≡ false) (λ t. not (same_session l.session t)) (sessions ls) from)
      (passes (λ t. not (same_session l.session t)) (sessions ls))

sorted_rows : (f : SessionId → List Path) (ts : List SessionId) → IsStrictlySortedBy session_cmp ts → is_sorted session_cmp (map (λ t. (t, f t)) ts) ≡ true
unfolding IsStrictlySortedBy
sorted_rows f [] sorted = refl
sorted_rows f (t ∷ ts) sorted = and_from _ _ (below ts sorted.0) (sorted_rows f ts sorted.1) where
  below : (us : List SessionId) → AllByRecursion (λ u. session_cmp t u ≡ Less) us → below_all session_cmp t (map (λ u. (u, f u)) us) ≡ true
  below [] a = refl
  below (u ∷ us) a = and_from _ _ (ap is_lt a.0) (below us a.1)

pub touched_rise : (writes : List BasicWrite) (ls : List Listener) → IsListeners ls → is_sorted session_cmp (touched writes ls) ≡ true
touched_rise writes ls held =
    let hits = filter (λ l. is_touched writes l.path) ls in
    sorted_rows (λ t. paths_of t hits) (sessions hits) (sessions_rise hits (IsStrictlySortedBy-filter listener_cmp (λ l. is_touched writes l.path) ls held.ordered))

pub touched_paths_rise : (writes : List BasicWrite) (s : SessionId) (ls : List Listener) → IsListeners ls → IsStrictlySortedBy path_cmp (touched_of writes s ls)
touched_paths_rise writes s ls held = IsStrictlySortedBy-filter path_cmp (is_touched writes) (paths_of s ls) (paths_rise s ls held)

pub touched_sorted : (writes : List BasicWrite) (ls : List Listener) → IsListeners ls → T (is_sorted session_cmp (touched writes ls))
touched_sorted writes ls held = subst T (sym (touched_rise writes ls held)) tt

find_row : (s : SessionId) (f : SessionId → List Path) (ts : List SessionId) → find session_cmp s (map (λ t. (t, f t)) ts) ≡ cond (list_any (same_session s) ts) (Some (f s)) None
find_row s f [] = refl
find_row s f (t ∷ ts) = ap (λ b. cond b (Some (f t)) (find session_cmp s (map (λ u. (u, f u)) ts))) (same_by_cmp s t) ∙ by (same_session s t) refl (find_row s f ts) where
  by : (b : Bool) → same_session s t ≡ b → find session_cmp s (map (λ u. (u, f u)) ts) ≡ cond (list_any (same_session s) ts) (Some (f s)) None →
      cond b (Some (f t)) (find session_cmp s (map (λ u. (u, f u)) ts)) ≡ cond (b || list_any (same_session s) ts) (Some (f s)) None
  by true e h = ap (λ u. Some (f u)) (sym (session_same s t e))
  by false e h = h

any_sessions : (s : SessionId) (ls : List Listener) → list_any (same_session s) (sessions ls) ≡ list_any (λ l. same_session s l.session) ls
any_sessions s [] = refl
any_sessions s (l ∷ ls) = by (same_session s l.session) refl (any_sessions s ls) where
  by : (b : Bool) → same_session s l.session ≡ b → list_any (same_session s) (sessions ls) ≡ list_any (λ m. same_session s m.session) ls →
      (b || list_any (same_session s) (filter (λ t. not (same_session l.session t)) (sessions ls))) ≡ (b || list_any (λ m. same_session s m.session) ls)
  by true e h = refl
  by false e h =
      any_under (same_session s) (λ t. not (same_session l.session t))
      (λ t k. ap not (ap (same_session l.session) (sym (session_same s t k)) ∙ flip s l.session e)) (sessions ls) ∙ h

some_any : (p : Listener → Bool) (ls : List Listener) → cond (list_any p ls) (Some (map (λ l. l.path) (filter p ls))) None ≡ some_paths (map (λ l. l.path) (filter p ls))
some_any p [] = refl
some_any p (l ∷ ls) = by (p l) (some_any p ls) where
  by : (b : Bool) → cond (list_any p ls) (Some (map (λ m. m.path) (filter p ls))) None ≡ some_paths (map (λ m. m.path) (filter p ls)) →
      cond (b || list_any p ls) (Some (map (λ m. m.path) (cond b (l ∷ filter p ls) (filter p ls)))) None ≡ some_paths (map (λ m. m.path) (cond b (l ∷ filter p ls) (filter p ls)))
  by true h = refl
  by false h = h

pub find_touched : (writes : List BasicWrite) (s : SessionId) (ls : List Listener) → find session_cmp s (touched writes ls) ≡ some_paths (touched_of writes s ls)
find_touched writes s ls =
    let hits = filter (λ l. is_touched writes l.path) ls in
    find_row s (λ t. paths_of t hits) (sessions hits)
    ∙ ap (λ b. cond b (Some (paths_of s hits)) None) (any_sessions s hits)
    ∙ some_any (λ l. same_session s l.session) hits
    ∙ ap some_paths (filter_map_later (λ l. l.path) (λ l. same_session s l.session) (is_touched writes) ls)
