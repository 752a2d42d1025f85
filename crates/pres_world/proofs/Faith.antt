-- What a client shows of a path is what stood there.
use Rattle.std.proofs.Common.{refl, sym, ◌∙◌, ap, subst, ◌≡◌, ◌+◌, ◌-◌, ◌<◌, ◌≤◌, ℕ, zero, suc, Bool, true, false, List, [], ◌∷◌, ◌++◌, length, take, drop, slice_get, ◌⊎◌, inl, inr, Option, Some, None, true≢false, arith, unwrap_or, append_assoc, append-nil, length-append, ◌||◌, IsTrue}
use Rattle.std.specs.List.{list_any, filter_map, last_or, cons_option, AllByRecursion}
use Rattle.std.proofs.lemmas.Bool.{and_parts, false_from_ne_true}
use Rattle.std.proofs.lemmas.List.Elements.{filter_map-append}
use Rattle.pres_ids.specs.declared.id.SessionId.{SessionId}
use Rattle.pres_ids.specs.Ids.{same_session}
use Rattle.pres_tree.specs.declared.scalar.Scalar.{Scalar}
use Rattle.pres_tree.specs.Paths.{Path, same_path}
use Rattle.pres_tree.specs.Rows.{Rows, value_at}
use Rattle.pres_tree.proofs.PathOrder.{path_itself}
use Rattle.pres_wire.specs.declared.down.Down.{Down}
use Rattle.pres_wire.specs.declared.down.Down.TheVariants as down
use Rattle.pres_wire.specs.declared.up.Up.{Up}
use Rattle.pres_wire.specs.declared.up.Up.TheVariants as up
use Rattle.pres_wire.specs.Messages.{number_in}
use Rattle.pres_wire.specs.Views.{value_told, seen, seen_in}
use Rattle.pres_log.specs.declared.entry.Entry.{Entry}
use Rattle.pres_log.specs.declared.entry.Entry.TheVariants as entry
use Rattle.pres_log.specs.Logs.{Log, entries, tree}
use Rattle.pres_history.specs.Laws.{unlistens, snap_of, ViewIsTrue}
use Rattle.pres_history.specs.LegalLog.{IsLegal, MayCome}
use Rattle.pres_server.specs.Sessions.{session_of}
use Rattle.pres_history.specs.Sessions.{opens, is_open, count}
use Rattle.pres_history.specs.Streams.{stream}
use Rattle.pres_server.proofs.Clients.{session_same, session_itself}
use Rattle.pres_history.proofs.Since.{any-append}
use Rattle.pres_history.proofs.Steps.{count_own, count_other}
use Rattle.pres_history.proofs.StreamSteps.{stream_grows}
use Rattle.pres_history.proofs.Views.{views_are_true}
use Rattle.pres_world.proofs.Stands.{none_or_some, StandsMay, stands_may}
use Rattle.pres_world.proofs.Backed.{all_dropped}
use Rattle.pres_world.proofs.Asked.{Last}
use Rattle.pres_world.proofs.Snaps.{streamed, SnapFrom}

-- the value that is seen is that at its number
abbrev pub SeenTrue : List Entry → Path → List Down → Type 0
SeenTrue es p ms = (z : ℕ) (v : Rows Scalar) → seen_in p ms ≡ Some (z, v) → (z ≤ length es) × (v ≡ value_at p (tree (take z es)))

-- what a session asked for, as the log says, stands in its client's list
abbrev pub Listed : List Entry → SessionId → List Up → Type 0
Listed es s ms =
    ((k q : ℕ) (x : Path) → slice_get es k ≡ Some (entry.Off s q x) → (j : ℕ) × (q ≡ j + 1) × (slice_get ms j ≡ Some (up.Off s q x)))
    × ((k q : ℕ) (x : Path) → slice_get es k ≡ Some (entry.On s q x) → (j : ℕ) × (q ≡ j + 1) × (slice_get ms j ≡ Some (up.On s q x)))

-- ---- lists

any_found : {A : Type 0} (f : A → Bool) (xs : List A) → list_any f xs ≡ true → (k : ℕ) × (x : A) × (slice_get xs k ≡ Some x) × (f x ≡ true)
any_found f [] h = absurd (true≢false (sym h))
any_found {A} f (x ∷ xs) h = by (f x) refl h (any_found f xs) where
  by : (b : Bool) → f x ≡ b → (b || list_any f xs) ≡ true → (list_any f xs ≡ true → (k : ℕ) × (y : A) × (slice_get xs k ≡ Some y) × (f y ≡ true)) → (k : ℕ) × (y : A) × (slice_get (x ∷ xs) k ≡ Some y) × (f y ≡ true)
  by true e k g = (0, x, refl, e)
  by false e k g = let rest = g k in (suc rest.0, rest.1, rest.2, rest.3)

get_split : {A : Type 0} (xs : List A) (y : A) (ys : List A) (k : ℕ) → slice_get (xs ++ y ∷ ys) (length xs + suc k) ≡ slice_get ys k
get_split [] y ys k = let e : 0 + suc k ≡ suc k = omega arith in ap (slice_get (y ∷ ys)) e
get_split (z ∷ xs) y ys k = let e : suc (length xs) + suc k ≡ suc (length xs + suc k) = omega arith in ap (slice_get (z ∷ (xs ++ y ∷ ys))) e ∙ get_split xs y ys k

take_split : {A : Type 0} (xs : List A) (y : A) (ys : List A) (k : ℕ) → take (length xs + suc k) (xs ++ y ∷ ys) ≡ (xs ++ y ∷ []) ++ take k ys
take_split [] y ys k = let e : 0 + suc k ≡ suc k = omega arith in ap (λ n. take n (y ∷ ys)) e
take_split (z ∷ xs) y ys k = let e : suc (length xs) + suc k ≡ suc (length xs + suc k) = omega arith in ap (λ n. take n (z ∷ (xs ++ y ∷ ys))) e ∙ ap (λ l. z ∷ l) (take_split xs y ys k)

drop_take : {A : Type 0} (xs : List A) (y : A) (ys : List A) (n : ℕ) → length xs < n → drop (length xs) (take n (xs ++ y ∷ ys)) ≡ y ∷ take (n - length xs - 1) ys
drop_take xs y ys zero h = absurd (omega (arith, h))
drop_take [] y ys (suc n) h = let e : n ≡ suc n - 0 - 1 = omega arith in ap (λ k. y ∷ take k ys) e
drop_take (x ∷ xs) y ys (suc n) h = let e : n - length xs - 1 ≡ suc n - suc (length xs) - 1 = omega arith in drop_take xs y ys n (omega (arith, h)) ∙ ap (λ k. y ∷ take k ys) e

pub shown_more : (xs : List Down) (place n : ℕ) (m : Down) → slice_get xs n ≡ Some m → place ≤ n → drop place (take (suc n) xs) ≡ drop place (take n xs) ++ m ∷ []
shown_more [] place n m get h = absurd (none_or_some m get)
shown_more (x ∷ xs) zero zero m get h = ap (λ y. y ∷ []) (down_is x m get) where
  down_is : (x y : Down) → Some x ≡ Some y → x ≡ y
  down_is x y e = grind arith
shown_more (x ∷ xs) zero (suc n) m get h = ap (λ l. x ∷ l) (shown_more xs zero n m get (omega arith))
shown_more (x ∷ xs) (suc place) zero m get h = absurd (omega (arith, h))
shown_more (x ∷ xs) (suc place) (suc n) m get h = shown_more xs place n m get (omega (arith, h))

pub first_shown : (xs : List Down) (n : ℕ) (m : Down) → slice_get xs n ≡ Some m → drop n (take (suc n) xs) ≡ m ∷ []
first_shown [] n m get = absurd (none_or_some m get)
first_shown (x ∷ xs) zero m get = ap (λ y. y ∷ []) (down_is x m get) where
  down_is : (x y : Down) → Some x ≡ Some y → x ≡ y
  down_is x y e = grind arith
first_shown (x ∷ xs) (suc n) m get = first_shown xs n m get

all_by : (P : Down → Type 0) (xs : List Down) → ((i : ℕ) (x : Down) → slice_get xs i ≡ Some x → P x) → AllByRecursion P xs
all_by P [] f = tt
all_by P (x ∷ xs) f = (f 0 x refl, all_by P xs (λ i y get. f (suc i) y get))

all_taken : (P : Down → Type 0) (n : ℕ) (xs : List Down) → AllByRecursion P xs → AllByRecursion P (take n xs)
all_taken P zero xs h = tt
all_taken P (suc n) [] h = tt
all_taken P (suc n) (x ∷ xs) h = (h.0, all_taken P n xs h.1)

-- ---- numbers of what is seen

last_small : (n : ℕ) (o : Option Down) (ms : List Down) → AllByRecursion (λ m. number_in m ≤ n) ms → ((m : Down) → o ≡ Some m → number_in m ≤ n) → (m : Down) → last_or o ms ≡ Some m → number_in m ≤ n
last_small n o [] h f m is = f m is
last_small n o (x ∷ ms) h f m is = last_small n (Some x) ms h.1 (λ y e. let y_is : x ≡ y = down_is x y e in subst (λ y. number_in y ≤ n) y_is h.0) m is where
  down_is : (x y : Down) → Some x ≡ Some y → x ≡ y
  down_is x y e = grind arith

seen_last : (a : Option Down) (b : Option (Rows Scalar)) (z : ℕ) (v : Rows Scalar) → seen a b ≡ Some (z, v) → (m : Down) × (a ≡ Some m) × (number_in m ≡ z)
seen_last None b z v h = absurd (none_or_some (z, v) h)
seen_last (Some m) None z v h = absurd (none_or_some (z, v) h)
seen_last (Some m) (Some w) z v h = (m, refl, ap (λ (o : Option (ℕ × Rows Scalar)). (unwrap_or o (z, v)).0) h)

seen_small : (p : Path) (ms : List Down) (n z : ℕ) (v : Rows Scalar) → AllByRecursion (λ m. number_in m ≤ n) ms → seen_in p ms ≡ Some (z, v) → z ≤ n
seen_small p ms n z v h is =
    let last = seen_last (last_or None ms) (last_or None (filter_map (value_told p) ms)) z v is in
    let small = last_small n None ms h (λ m e. absurd (none_or_some m e)) last.0 last.1 in
    let same = last.2 in omega (arith, small, same)

last_push : {A : Type 0} (o : Option A) (xs : List A) (x : A) → last_or o (xs ++ x ∷ []) ≡ Some x
last_push o [] x = refl
last_push o (y ∷ xs) x = last_push (Some y) xs x

-- two last messages that tell the same
pub seen_alike : (p : Path) (ms : List Down) (a b : Down) → value_told p a ≡ value_told p b → number_in a ≡ number_in b → seen_in p (ms ++ a ∷ []) ≡ seen_in p (ms ++ b ∷ [])
seen_alike p ms a b same number = one a ∙ by (last_or None (filter_map (value_told p) ms ++ cons_option (value_told p a) [])) ∙ ap (λ o. seen (Some b) (last_or None (filter_map (value_told p) ms ++ cons_option o []))) same ∙ sym (one b) where
  one : (x : Down) → seen_in p (ms ++ x ∷ []) ≡ seen (Some x) (last_or None (filter_map (value_told p) ms ++ cons_option (value_told p x) []))
  one x = ap (λ o. seen o (last_or None (filter_map (value_told p) (ms ++ x ∷ [])))) (last_push None ms x) ∙ ap (λ l. seen (Some x) (last_or None l)) (filter_map-append (value_told p) ms (x ∷ []))

  by : (o : Option (Rows Scalar)) → seen (Some a) o ≡ seen (Some b) o
  by None = refl
  by (Some v) = ap (λ n. Some (n, v)) number

-- ---- counts and lengths

count_grows : (s : SessionId) (es more : List Entry) → list_any (opens s) es ≡ true → count s es ≤ count s (es ++ more)
count_grows s es [] o = let e = ap (count s) (append-nil es) in omega (arith, e)
count_grows s es (y ∷ more) o =
    let rest = count_grows s (es ++ y ∷ []) more (any-append (opens s) es (y ∷ []) ∙ ap (λ b. b || list_any (opens s) (y ∷ [])) o) in
    let one = by (same_session s (session_of y)) refl in
    let whole = ap (count s) (append_assoc es (y ∷ []) more) in
    omega (arith, rest, one, whole) where
      by : (b : Bool) → same_session s (session_of y) ≡ b → count s es ≤ count s (es ++ y ∷ [])
      by true k = let e = count_own s es y o k in omega (arith, e)
      by false k = let e = count_other s es y o k in omega (arith, e)

pub stream_longer : (s : SessionId) (es more : List Entry) → length (stream s es) ≤ length (stream s (es ++ more))
stream_longer s es more = let grown = stream_grows s es more in let a = ap length grown.1 in let b = length-append (stream s es) grown.0 in omega (arith, a, b)

-- an entry of the session after its On has a later number
later_number : (es : List Entry) → StandsMay es → (s : SessionId) (q : ℕ) (p : Path) (before later : List Entry) → es ≡ before ++ entry.On s q p ∷ later → IsTrue (is_open s before) → q ≡ count s before + 1
    → (k k' : ℕ) (e : Entry) → slice_get later k ≡ Some e → ((old : List Entry) (m : ℕ) → MayCome old m e → k' ≡ count s old + 1) → q + 1 ≤ k'
later_number es may s q p before later is opened first k number e get next =
    let at = may (length before + suc k) e (ap (λ l. slice_get l (length before + suc k)) is ∙ get_split before (entry.On s q p) later k ∙ get) in
    let n = next (take (length before + suc k) es) at.0 at.1 in
    let shape = ap (count s) (ap (take (length before + suc k)) is ∙ take_split before (entry.On s q p) later k) in
    let o = (and_parts (list_any (opens s) before) _ opened).0 in
    let one = count_own s before (entry.On s q p) o (session_itself s) in
    let grown = count_grows s (before ++ entry.On s q p ∷ []) (take k later) (any-append (opens s) before (entry.On s q p ∷ []) ∙ ap (λ b. b || list_any (opens s) (entry.On s q p ∷ [])) o) in
    omega (arith, n, shape, one, grown, first)

-- ---- what is seen from the answer to the last On on

pub seen_true : (log : Log) → IsLegal log → (s : SessionId) (ms : List Up) → Listed (entries log) s ms → (t : SessionId) (place n q r z : ℕ) (p : Path) (v : Rows Scalar)
    → slice_get (stream s (entries log)) place ≡ Some (down.Snap t r z q p v) → place < n → Last ms p q → SeenTrue (entries log) p (drop place (take n (stream s (entries log))))
seen_true log legal s ms listed t place n q r z p v get less last y w h = (small, is) where
  es : List Entry
  es = entries log

  from : SnapFrom s es place (down.Snap t r z q p v)
  from = (streamed log legal s place (down.Snap t r z q p v) get).1

  before : List Entry
  before = from.0

  later : List Entry
  later = from.1

  parts : es ≡ before ++ entry.On s q p ∷ later
  parts = from.2

  off_found : (k : ℕ) (e : Entry) → slice_get later k ≡ Some e → unlistens s p e ≡ true → ⊥
  off_found k (entry.Open u) at f = true≢false (sym f)
  off_found k (entry.Op u i j op outcome) at f = true≢false (sym f)
  off_found k (entry.Again u i j) at f = true≢false (sym f)
  off_found k (entry.Left u i puts) at f = true≢false (sym f)
  off_found k (entry.Cancelled u i path) at f = true≢false (sym f)
  off_found k (entry.Denied u i why) at f = true≢false (sym f)
  off_found k (entry.On u i path) at f = true≢false (sym f)
  off_found k (entry.Ended u i why rows) at f = true≢false (sym f)
  off_found k (entry.Off u i x) at f =
      let both = and_parts (same_session s u) _ f in
      let mine : slice_get later k ≡ Some (entry.Off s i x) = at ∙ ap (λ y. Some (entry.Off y i x)) (sym (session_same s u both.0)) in
      let here = listed.0 (length before + suc k) i x (ap (λ l. slice_get l (length before + suc k)) parts ∙ get_split before (entry.On s q p) later k ∙ mine) in
      let number = later_number es (stands_may log legal) s q p before later parts from.4 from.5 k i (entry.Off s i x) mine (λ old m may. may.1) in
      let count = here.1 in
      true≢false (sym both.1 ∙ (last here.0 (up.Off s i x) here.2 (omega (arith, number, count))).1)

  no_off : list_any (unlistens s p) later ≡ false
  no_off = false_from_ne_true _ (λ f. let found = any_found (unlistens s p) later f in off_found found.0 found.1 found.2 found.3)

  view : ViewIsTrue s q p before later
  view = views_are_true s q p before later from.4 no_off

  k : ℕ
  k = n - length (stream s before) - 1

  shape : drop place (take n (stream s es)) ≡ snap_of s q p before ∷ take k view.rest
  shape =
      ap (λ l. drop place (take n (stream s l))) parts
      ∙ ap (λ l. drop place (take n l)) view.sent
      ∙ ap (λ i. drop i (take n (stream s before ++ snap_of s q p before ∷ view.rest))) (sym from.3)
      ∙ drop_take (stream s before) (snap_of s q p before) view.rest n (let len = from.3 in omega (arith, len, less))

  both : ◌≡◌ {A = Option (ℕ × Rows Scalar)} (Some ((view.seen k).0, value_at p (tree (take (view.seen k).0 (before ++ entry.On s q p ∷ later))))) (Some (y, w))
  both = sym (view.seen k).1 ∙ ap (seen_in p) (sym shape) ∙ h

  number : (view.seen k).0 ≡ y
  number = ap (λ (o : Option (ℕ × Rows Scalar)). (unwrap_or o (y, w)).0) both

  value : value_at p (tree (take (view.seen k).0 (before ++ entry.On s q p ∷ later))) ≡ w
  value = ap (λ (o : Option (ℕ × Rows Scalar)). (unwrap_or o (y, w)).1) both

  is : w ≡ value_at p (tree (take y es))
  is = sym value ∙ λ i. value_at p (tree (take (number i) (sym parts i)))

  small : y ≤ length es
  small = seen_small p (drop place (take n (stream s es))) (length es) y w (all_dropped (λ m. number_in m ≤ length es) (take n (stream s es)) place (all_taken (λ m. number_in m ≤ length es) n (stream s es) (all_by (λ m. number_in m ≤ length es) (stream s es) (λ i m at. (streamed log legal s i m at).0)))) h

-- of two beginnings of a list the shorter one is a beginning of the longer one
front : (xs ys us vs : List Entry) → xs ++ us ≡ ys ++ vs → length xs ≤ length ys → (rest : List Entry) × (xs ++ rest ≡ ys)
front [] ys us vs e h = (ys, refl)
front (x ∷ xs) [] us vs e h = absurd (omega (arith, h))
front (x ∷ xs) (y ∷ ys) us vs e h = let rest = front xs ys us vs (ap (drop 1) e) (omega (arith, h)) in (rest.0, λ i. head_is i ∷ rest.1 i) where
  head_is : x ≡ y
  head_is = ap (λ l. unwrap_or (slice_get l 0) x) e

-- a Snap of the path that comes after another answers a later On
pub later_snap : (log : Log) → IsLegal log → (s : SessionId) (ms : List Up) → Listed (entries log) s ms → (t t' : SessionId) (place place' q r z q' r' z' : ℕ) (p : Path) (v v' : Rows Scalar)
    → slice_get (stream s (entries log)) place ≡ Some (down.Snap t r z q p v) → slice_get (stream s (entries log)) place' ≡ Some (down.Snap t' r' z' q' p v') → place < place' → Last ms p q → ⊥
later_snap log legal s ms listed t t' place place' q r z q' r' z' p v v' get get' less last = true≢false (sym (itself p) ∙ (last here.0 (up.On s q' p) here.2 late).0) where
  es : List Entry
  es = entries log

  from : SnapFrom s es place (down.Snap t r z q p v)
  from = (streamed log legal s place (down.Snap t r z q p v) get).1

  from' : SnapFrom s es place' (down.Snap t' r' z' q' p v')
  from' = (streamed log legal s place' (down.Snap t' r' z' q' p v') get').1

  here_on : (xs : List Entry) → slice_get (xs ++ entry.On s q' p ∷ from'.1) (length xs) ≡ Some (entry.On s q' p)
  here_on [] = refl
  here_on (x ∷ xs) = here_on xs

  here : (j : ℕ) × (q' ≡ j + 1) × (slice_get ms j ≡ Some (up.On s q' p))
  here = listed.1 (length from'.0) q' p (ap (λ l. slice_get l (length from'.0)) from'.2 ∙ here_on from'.0)

  behind : length from.0 < length from'.0
  behind = by (order (length from'.0) (length from.0)) where
    order : (a b : ℕ) → (a ≤ b) ⊎ (b < a)
    order zero b = inl (omega arith)
    order (suc a) zero = inr (omega arith)
    order (suc a) (suc b) = more (order a b) where
      more : (a ≤ b) ⊎ (b < a) → (suc a ≤ suc b) ⊎ (suc b < suc a)
      more (inl h) = inl (omega (arith, h))
      more (inr h) = inr (omega (arith, h))

    by : (length from'.0 ≤ length from.0) ⊎ (length from.0 < length from'.0) → length from.0 < length from'.0
    by (inr h) = h
    by (inl h) =
        let rest = front from'.0 from.0 (entry.On s q' p ∷ from'.1) (entry.On s q p ∷ from.1) (sym from'.2 ∙ from.2) h in
        let longer = stream_longer s from'.0 rest.0 in
        let same = ap (λ l. length (stream s l)) rest.1 in
        let a = from.3 in
        let b = from'.3 in
        absurd (omega (arith, longer, same, a, b, less))

  itself : (x : Path) → same_path x x ≡ true
  itself x = path_itself x

  k : ℕ
  k = length from'.0 - length from.0 - 1

  there : slice_get from.1 k ≡ Some (entry.On s q' p)
  there =
      let b = behind in
      let count : length from.0 + suc k ≡ length from'.0 = omega (arith, b) in
      sym (get_split from.0 (entry.On s q p) from.1 k) ∙ ap (λ n. slice_get (from.0 ++ entry.On s q p ∷ from.1) n) count ∙ ap (λ l. slice_get l (length from'.0)) (sym from.2 ∙ from'.2) ∙ here_on from'.0

  late : q ≤ here.0
  late =
      let number = later_number es (stands_may log legal) s q p from.0 from.1 from.2 from.4 from.5 k q' (entry.On s q' p) there (λ old m may. may.0.1) in
      let count = here.1 in
      omega (arith, number, count)
