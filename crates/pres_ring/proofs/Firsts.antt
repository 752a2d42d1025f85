-- The first line that is slow, and the first that is marked.
use Rattle.std.proofs.Common.{refl, sym, ◌∙◌, ap, subst, ◌≡◌, ◌<◌, ℕ, suc, Bool, true, false, not, cond, ◌&&◌, true≢false, Less, Option, Some, None, is_some, is_eq, option_map, IfSome, List, [], ◌∷◌, filter, length, arith}
use Rattle.std.specs.Prelude.{IsSomeAnd, IfNone}
use Rattle.std.specs.Option.{option_or}
use Rattle.std.specs.Map.{keys_of, lookup, remove_entry, set_value}
use Rattle.std.specs.Map.Calls.{RetainsPairs}
use Rattle.std.specs.BTreeMap.{is_at}
use Rattle.std.specs.Cmp.{eq_by_cmp_equiv}
use Rattle.std.specs.List.Sorted.{IsStrictlySortedBy}
use Rattle.std.proofs.lemmas.Map.{lookup-none}
use Rattle.std.proofs.lemmas.Map.Entries.{none_past_head, none_below_head}
use Rattle.std.proofs.lemmas.Map.Keys.{sorted_tail, IsDistinct-from_sorted}
use Rattle.pres_ids.specs.declared.id.SessionId.{SessionId}
use Rattle.pres_ids.specs.declared.id.Why.{Why}
use Rattle.pres_ids.specs.declared.id.Why.TheVariants.{Slow}
use Rattle.pres_ids.specs.Ids.{same_session}
use Rattle.pres_fan.specs.Listeners.{session_cmp}
use Rattle.pres_fan.proofs.Orders.{session_total, session_same, session_itself, same_by_cmp}
use Rattle.pres_ring.specs.declared.session_feed.SessionFeed.{SessionFeed}
use Rattle.pres_ring.specs.Lines.{SessionLine, Lines, line_at, is_slow, marked, first_slow, first_marked, mark_first_slow, unmarked, IsFirst, IsFirstSlow, IsFirstMarked, ChangesAt}
use Rattle.pres_ring.specs.InternalFeeds.{line_of, lines_of, IsOwn}

-- ---- lines in order

abbrev InOrder : Lines → Type 0
InOrder lines = IsStrictlySortedBy session_cmp (keys_of lines)

pub lines_in_order : (es : List (SessionId × SessionFeed)) → IsStrictlySortedBy session_cmp (keys_of es) → InOrder (lines_of es)
lines_in_order es h = subst (IsStrictlySortedBy session_cmp) (sym (keys es)) h where
  keys : (xs : List (SessionId × SessionFeed)) → keys_of (lines_of xs) ≡ keys_of xs
  keys [] = refl
  keys (x ∷ xs) = ap (λ ks. x.0 ∷ ks) (keys xs)

tail_in_order : (e : SessionId × SessionLine) (lines : Lines) → InOrder (e ∷ lines) → InOrder lines
tail_in_order e lines h = sorted_tail session_cmp e.0 (keys_of lines) h

find_lookup : (s : SessionId) (lines : Lines) → line_at s lines ≡ lookup (is_at (session_cmp s)) lines
find_lookup s [] = refl
find_lookup s (e ∷ lines) = ap (cond (is_eq (session_cmp s e.0)) (Some e.1)) (find_lookup s lines)

-- the first session has no later line
none_later : (e : SessionId × SessionLine) (lines : Lines) → InOrder (e ∷ lines) → line_at e.0 lines ≡ None
none_later e lines h =
    find_lookup e.0 lines
    ∙ lookup-none (is_at (session_cmp e.0)) lines (none_past_head (eq_by_cmp_equiv session_total) e.0 e lines (IsDistinct-from_sorted session_cmp (keys_of (e ∷ lines)) h) (same_by_cmp e.0 e.0 ∙ session_itself e.0))

-- a session with a later line is another one
head_apart : (s : SessionId) (e : SessionId × SessionLine) (lines : Lines) → InOrder (e ∷ lines) → is_some (line_at s lines) ≡ true → same_session s e.0 ≡ false
head_apart s e lines h k = by (same_session s e.0) refl where
  by : (b : Bool) → same_session s e.0 ≡ b → b ≡ false
  by true q = absurd (true≢false (sym k ∙ ap is_some (ap (λ t. line_at t lines) (session_same s e.0 q) ∙ none_later e lines h)))
  by false q = refl

-- the line at the head, and those after it
head_line : (s : SessionId) (e : SessionId × SessionLine) (lines : Lines) (b : Bool) → same_session s e.0 ≡ b → line_at s (e ∷ lines) ≡ cond b (Some e.1) (line_at s lines)
head_line s e lines b h = ap (λ x. cond x (Some e.1) (line_at s lines)) (same_by_cmp s e.0 ∙ h)

-- what holds of the line of a session holds of it after a head
behind : (P : SessionLine → Type 0) (s : SessionId) (e : SessionId × SessionLine) (lines : Lines) → InOrder (e ∷ lines) → IsSomeAnd (line_at s lines) P → IsSomeAnd (line_at s (e ∷ lines)) P
behind P s e lines h k = subst (λ o. IsSomeAnd o P) (sym (head_line s e lines false (head_apart s e lines h (there (line_at s lines) k)))) k where
  there : (o : Option SessionLine) → IsSomeAnd o P → is_some o ≡ true
  there None q = absurd q
  there (Some l) q = refl

at_head : (P : SessionLine → Type 0) (e : SessionId × SessionLine) (lines : Lines) → P e.1 → IsSomeAnd (line_at e.0 (e ∷ lines)) P
at_head P e lines p = subst (λ o. IsSomeAnd o P) (sym (head_line e.0 e lines true (session_itself e.0))) p

each_behind : (P : SessionLine → Type 0) (s : SessionId) (e : SessionId × SessionLine) (lines : Lines) → P e.1 → IfSome (line_at s lines) P → IfSome (line_at s (e ∷ lines)) P
each_behind P s e lines p q = subst (λ o. IfSome o P) (sym (head_line s e lines (same_session s e.0) refl)) (by (same_session s e.0)) where
  by : (b : Bool) → IfSome (cond b (Some e.1) (line_at s lines)) P
  by true = p
  by false = q

-- a session before the first one in order has no line
none_below : (t : SessionId) (e : SessionId × SessionLine) (lines : Lines) → InOrder (e ∷ lines) → session_cmp t e.0 ≡ Less → line_at t (e ∷ lines) ≡ None
none_below t e lines h less = find_lookup t (e ∷ lines) ∙ lookup-none (is_at (session_cmp t)) (e ∷ lines) (none_below_head session_total t e lines h less)

-- ---- the first that is such a one

abbrev first_such : (SessionLine → Bool) → Lines → Option SessionId
first_such such [] = None
first_such such (e ∷ lines) = cond (such e.1) (Some e.0) (first_such such lines)

such_is_first : (such : SessionLine → Bool) (lines : Lines) → InOrder lines → IfSome (first_such such lines) (λ s. IsFirst such s lines)
such_is_first such [] h = tt
such_is_first such (e ∷ lines) h = by (such e.1) refl (such_is_first such lines (tail_in_order e lines h)) where
  by : (b : Bool) → such e.1 ≡ b → IfSome (first_such such lines) (λ s. IsFirst such s lines) → IfSome (cond b (Some e.0) (first_such such lines)) (λ s. IsFirst such s (e ∷ lines))
  by true k r = record {
    is = at_head (λ l. such l ≡ true) e lines k;
    none_before = λ t less. subst (λ o. IfSome o (λ l. such l ≡ false)) (sym (none_below t e lines h less)) tt;
  }
  by false k r = on (first_such such lines) r where
    on : (o : Option SessionId) → IfSome o (λ s. IsFirst such s lines) → IfSome o (λ s. IsFirst such s (e ∷ lines))
    on None q = tt
    on (Some s) q = record {
      is = behind (λ l. such l ≡ true) s e lines h q.is;
      none_before = λ t less. each_behind (λ l. such l ≡ false) t e lines k (q.none_before t less);
    }

-- ---- the first that is slow

pub slow_is_first : (lines : Lines) → InOrder lines → IfSome (first_slow lines) (λ s. IsFirstSlow s lines)
slow_is_first lines h = subst (λ o. IfSome o (λ s. IsFirstSlow s lines)) (sym (same lines)) (such_is_first is_slow lines h) where
  same : (ls : Lines) → first_slow ls ≡ first_such is_slow ls
  same [] = refl
  same (e ∷ ls) = ap (cond (is_slow e.1) (Some e.0)) (same ls)

pub slow_line : (lines : Lines) → InOrder lines → IfSome (first_slow lines) (λ s. IsSomeAnd (line_at s lines) (λ l. is_slow l ≡ true))
slow_line [] h = tt
slow_line (e ∷ lines) h = by (is_slow e.1) refl (slow_line lines (tail_in_order e lines h)) where
  by : (b : Bool) → is_slow e.1 ≡ b → IfSome (first_slow lines) (λ s. IsSomeAnd (line_at s lines) (λ l. is_slow l ≡ true))
      → IfSome (cond b (Some e.0) (first_slow lines)) (λ s. IsSomeAnd (line_at s (e ∷ lines)) (λ l. is_slow l ≡ true))
  by true k r = at_head (λ l. is_slow l ≡ true) e lines k
  by false k r = on (first_slow lines) r where
    on : (o : Option SessionId) → IfSome o (λ s. IsSomeAnd (line_at s lines) (λ l. is_slow l ≡ true)) → IfSome o (λ s. IsSomeAnd (line_at s (e ∷ lines)) (λ l. is_slow l ≡ true))
    on None q = tt
    on (Some s) q = behind (λ l. is_slow l ≡ true) s e lines h q

pub none_slow : (lines : Lines) → is_some (first_slow lines) ≡ false → (s : SessionId) → IfSome (line_at s lines) (λ l. is_slow l ≡ false)
none_slow [] h s = tt
none_slow (e ∷ lines) h s = by (is_slow e.1) refl h (λ k. none_slow lines k s) where
  by : (b : Bool) → is_slow e.1 ≡ b → is_some (cond b (Some e.0) (first_slow lines)) ≡ false → (is_some (first_slow lines) ≡ false → IfSome (line_at s lines) (λ l. is_slow l ≡ false))
      → IfSome (line_at s (e ∷ lines)) (λ l. is_slow l ≡ false)
  by true k q r = absurd (true≢false q)
  by false k q r = each_behind (λ l. is_slow l ≡ false) s e lines k (r q)

-- where there is none, neither the first line is slow nor one after it
none_each : (b : Bool) (s : SessionId) (o : Option SessionId) → cond b (Some s) o ≡ None → (b ≡ false) × (o ≡ None)
none_each true s o h = absurd (true≢false (ap is_some h))
none_each false s o h = (refl, h)

none_both : (b : Bool) (s : SessionId) (o : Option SessionId) → b ≡ false → o ≡ None → cond b (Some s) o ≡ None
none_both b s o k h = ap (λ x. cond x (Some s) o) k ∙ h

pub none_of : {X : Type 0} (o : Option X) → is_some o ≡ false → o ≡ None
none_of None h = refl
none_of (Some x) h = absurd (true≢false h)

-- there is none either where a line leaves
pub none_removed : (test : SessionId → Bool) (es : List (SessionId × SessionFeed)) → first_slow (lines_of es) ≡ None → first_slow (lines_of (remove_entry test es)) ≡ None
none_removed test [] h = h
none_removed test (e ∷ es) h =
    let each = none_each (is_slow (line_of e.1)) e.0 (first_slow (lines_of es)) h in
    elim (test e.0) as (λ b. first_slow (lines_of (cond b es (e ∷ remove_entry test es))) ≡ None) [
      | true ↦ each.1
      | false ↦ none_both (is_slow (line_of e.1)) e.0 (first_slow (lines_of (remove_entry test es))) each.0 (none_removed test es each.1)
    ]

-- nor where one changes into one that isn't slow
pub none_changed : (test : SessionId → Bool) (es : List (SessionId × SessionFeed)) (w : SessionFeed) → is_slow (line_of w) ≡ false → first_slow (lines_of es) ≡ None → first_slow (lines_of (set_value test es w)) ≡ None
none_changed test [] w k h = h
none_changed test (e ∷ es) w k h =
    let each = none_each (is_slow (line_of e.1)) e.0 (first_slow (lines_of es)) h in
    elim (test e.0) as (λ b. first_slow (lines_of (cond b ((e.0, w) ∷ es) (e ∷ set_value test es w))) ≡ None) [
      | true ↦ none_both (is_slow (line_of w)) e.0 (first_slow (lines_of es)) k each.1
      | false ↦ none_both (is_slow (line_of e.1)) e.0 (first_slow (lines_of (set_value test es w))) each.0 (none_changed test es w k each.1)
    ]

some_there : (P : SessionLine → Type 0) (o : Option SessionLine) → IsSomeAnd o P → is_some o ≡ true
some_there P None q = absurd q
some_there P (Some l) q = refl

pub slow_marked : (lines : Lines) → InOrder lines → IfSome (first_slow lines) (λ s. ChangesAt s (option_map (marked Slow)) lines (mark_first_slow lines))
slow_marked [] h = tt
slow_marked (e ∷ lines) h = by (is_slow e.1) (slow_marked lines (tail_in_order e lines h)) (slow_line lines (tail_in_order e lines h)) where
  change : Option SessionLine → Option SessionLine
  change = option_map (marked Slow)

  here : (t : SessionId) (b : Bool) → same_session t e.0 ≡ b → line_at t ((e.0, marked Slow e.1) ∷ lines) ≡ cond b (change (line_at t (e ∷ lines))) (line_at t (e ∷ lines))
  here t true k = head_line t (e.0, marked Slow e.1) lines true k ∙ ap change (sym (head_line t e lines true k))
  here t false k = head_line t (e.0, marked Slow e.1) lines false k ∙ sym (head_line t e lines false k)

  there : (s t : SessionId) (a b : Bool) → same_session t e.0 ≡ a → same_session t s ≡ b → same_session s e.0 ≡ false
      → line_at t (mark_first_slow lines) ≡ cond b (change (line_at t lines)) (line_at t lines)
      → line_at t (e ∷ mark_first_slow lines) ≡ cond b (change (line_at t (e ∷ lines))) (line_at t (e ∷ lines))
  there s t true true k q d r = absurd (true≢false (sym k ∙ ap (λ u. same_session u e.0) (session_same t s q) ∙ d))
  there s t true false k q d r = head_line t (e.0, e.1) (mark_first_slow lines) true k ∙ sym (head_line t e lines true k)
  there s t false true k q d r = head_line t (e.0, e.1) (mark_first_slow lines) false k ∙ r ∙ ap change (sym (head_line t e lines false k))
  there s t false false k q d r = head_line t (e.0, e.1) (mark_first_slow lines) false k ∙ r ∙ sym (head_line t e lines false k)

  by : (b : Bool) → IfSome (first_slow lines) (λ s. ChangesAt s change lines (mark_first_slow lines)) → IfSome (first_slow lines) (λ s. IsSomeAnd (line_at s lines) (λ l. is_slow l ≡ true))
      → IfSome (cond b (Some e.0) (first_slow lines)) (λ s. ChangesAt s change (e ∷ lines) (cond b ((e.0, marked Slow e.1) ∷ lines) (e ∷ mark_first_slow lines)))
  by true r q = λ t. here t (same_session t e.0) refl
  by false r q = on (first_slow lines) r q where
    on : (o : Option SessionId) → IfSome o (λ s. ChangesAt s change lines (mark_first_slow lines)) → IfSome o (λ s. IsSomeAnd (line_at s lines) (λ l. is_slow l ≡ true)) → IfSome o (λ s. ChangesAt s change (e ∷ lines) (e ∷ mark_first_slow lines))
    on None x y = tt
    on (Some s) x y = λ t. there s t (same_session t e.0) (same_session t s) refl refl (head_apart s e lines h (some_there (λ l. is_slow l ≡ true) (line_at s lines) y)) (x t)

one_less : (a b : ℕ) → a < b → suc a < suc b
one_less a b h = omega (arith, h)

next_one : (a : ℕ) → a < suc a
next_one a = omega arith

-- then one line fewer has no mark
pub slow_fewer : (lines : Lines) → is_some (first_slow lines) ≡ true → unmarked (mark_first_slow lines) < unmarked lines
slow_fewer [] h = absurd (true≢false (sym h))
slow_fewer (e ∷ lines) h = by (is_slow e.1) refl h (slow_fewer lines) where
  bare : Lines → Lines
  bare ls = filter (λ x. not (is_some x.1.mark)) ls

  unmarked_slow : (a b : Bool) → (not a && not b) ≡ true → not b ≡ true
  unmarked_slow true b k = absurd (true≢false (sym k))
  unmarked_slow false b k = k

  more : (m : Bool) → unmarked (mark_first_slow lines) < unmarked lines → length (cond m (e ∷ bare (mark_first_slow lines)) (bare (mark_first_slow lines))) < length (cond m (e ∷ bare lines) (bare lines))
  more true k = one_less (unmarked (mark_first_slow lines)) (unmarked lines) k
  more false k = k

  by : (b : Bool) → is_slow e.1 ≡ b → is_some (cond b (Some e.0) (first_slow lines)) ≡ true → (is_some (first_slow lines) ≡ true → unmarked (mark_first_slow lines) < unmarked lines)
      → unmarked (cond b ((e.0, marked Slow e.1) ∷ lines) (e ∷ mark_first_slow lines)) < unmarked (e ∷ lines)
  by true k q r = subst (λ m. unmarked lines < length (cond m (e ∷ bare lines) (bare lines))) (sym (unmarked_slow (is_some e.1.sent) (is_some e.1.mark) k)) (next_one (unmarked lines))
  by false k q r = more (not (is_some e.1.mark)) (r q)

-- ---- the first that is marked

pub marked_line : (lines : Lines) → InOrder lines → IfSome (first_marked lines) (λ x. IsSomeAnd (line_at x.0 lines) (λ l. l.mark ≡ Some x.1))
marked_line [] h = tt
marked_line (e ∷ lines) h = by e.1.mark refl (marked_line lines (tail_in_order e lines h)) where
  by : (o : Option Why) → e.1.mark ≡ o → IfSome (first_marked lines) (λ x. IsSomeAnd (line_at x.0 lines) (λ l. l.mark ≡ Some x.1))
      → IfSome (option_or (option_map (λ w. (e.0, w)) o) (first_marked lines)) (λ x. IsSomeAnd (line_at x.0 (e ∷ lines)) (λ l. l.mark ≡ Some x.1))
  by (Some w) k r = at_head (λ l. l.mark ≡ Some w) e lines k
  by None k r = on (first_marked lines) r where
    on : (o : Option (SessionId × Why)) → IfSome o (λ x. IsSomeAnd (line_at x.0 lines) (λ l. l.mark ≡ Some x.1)) → IfSome o (λ x. IsSomeAnd (line_at x.0 (e ∷ lines)) (λ l. l.mark ≡ Some x.1))
    on None q = tt
    on (Some x) q = behind (λ l. l.mark ≡ Some x.1) x.0 e lines h q

pub marked_is_first : (lines : Lines) → InOrder lines → IfSome (first_marked lines) (λ e. IsFirstMarked e lines)
marked_is_first lines h = on (first_marked lines) (marked_line lines h) (subst (λ o. IfSome o (λ s. IsFirst has_mark s lines)) (sym (same lines)) (such_is_first has_mark lines h)) where
  has_mark : SessionLine → Bool
  has_mark l = is_some l.mark

  same : (ls : Lines) → option_map (λ (e : SessionId × Why). e.0) (first_marked ls) ≡ first_such has_mark ls
  same [] = refl
  same (e ∷ ls) = by e.1.mark (same ls) where
    by : (o : Option Why) → option_map (λ (x : SessionId × Why). x.0) (first_marked ls) ≡ first_such has_mark ls
        → option_map (λ (x : SessionId × Why). x.0) (option_or (option_map (λ w. (e.0, w)) o) (first_marked ls)) ≡ cond (is_some o) (Some e.0) (first_such has_mark ls)
    by (Some w) r = refl
    by None r = r

  on : (o : Option (SessionId × Why)) → IfSome o (λ x. IsSomeAnd (line_at x.0 lines) (λ l. l.mark ≡ Some x.1)) → IfSome (option_map (λ (x : SessionId × Why). x.0) o) (λ s. IsFirst has_mark s lines)
      → IfSome o (λ e. IsFirstMarked e lines)
  on None why first = tt
  on (Some e) why first = record { first = first; why = why }

pub none_marked : (lines : Lines) → is_some (first_marked lines) ≡ false → (s : SessionId) → IfSome (line_at s lines) (λ l. l.mark ≡ None)
none_marked [] h s = tt
none_marked (e ∷ lines) h s = by e.1.mark refl h (λ k. none_marked lines k s) where
  by : (o : Option Why) → e.1.mark ≡ o → is_some (option_or (option_map (λ w. (e.0, w)) o) (first_marked lines)) ≡ false → (is_some (first_marked lines) ≡ false → IfSome (line_at s lines) (λ l. l.mark ≡ None))
      → IfSome (line_at s (e ∷ lines)) (λ l. l.mark ≡ None)
  by (Some w) k q r = absurd (true≢false q)
  by None k q r = each_behind (λ l. l.mark ≡ None) s e lines k (r q)

-- ---- what the pass that marks leaves

abbrev pub marked_places : Bool → List (SessionId × SessionFeed) → List (SessionId × SessionFeed)
marked_places b [] = []
marked_places b (e ∷ es) = cond (b && is_slow (line_of e.1)) ((e.0, record e.1 { mark = Some Slow }) ∷ marked_places false es) (e ∷ marked_places b es)

all_stay : (es : List (SessionId × SessionFeed)) → marked_places false es ≡ es
all_stay [] = refl
all_stay (e ∷ es) = ap (λ l. e ∷ l) (all_stay es)

pub places_marked : (es : List (SessionId × SessionFeed)) → lines_of (marked_places true es) ≡ mark_first_slow (lines_of es)
places_marked [] = refl
places_marked (e ∷ es) = by (is_slow (line_of e.1)) (places_marked es) where
  by : (b : Bool) → lines_of (marked_places true es) ≡ mark_first_slow (lines_of es)
      → lines_of (cond b ((e.0, record e.1 { mark = Some Slow }) ∷ marked_places false es) (e ∷ marked_places true es)) ≡ cond b ((e.0, marked Slow (line_of e.1)) ∷ lines_of es) ((e.0, line_of e.1) ∷ mark_first_slow (lines_of es))
  by true h = ap (λ l. (e.0, marked Slow (line_of e.1)) ∷ lines_of l) (all_stay es)
  by false h = ap (λ l. (e.0, line_of e.1) ∷ l) h

pub places_own : (b : Bool) (es : List (SessionId × SessionFeed)) (s : SessionId) → IfSome (lookup (is_at (session_cmp s)) es) (IsOwn s) → IfSome (lookup (is_at (session_cmp s)) (marked_places b es)) (IsOwn s)
places_own b [] s h = tt
places_own b (e ∷ es) s h = by (b && is_slow (line_of e.1)) (places_own false es s) (places_own b es s) where
  on : (q : Bool) (p : SessionFeed) (rest : List (SessionId × SessionFeed)) → IfSome (cond q (Some e.1) (lookup (is_at (session_cmp s)) es)) (IsOwn s) → (IsOwn s e.1 → IsOwn s p)
      → (IfSome (lookup (is_at (session_cmp s)) es) (IsOwn s) → IfSome (lookup (is_at (session_cmp s)) rest) (IsOwn s))
      → IfSome (cond q (Some p) (lookup (is_at (session_cmp s)) rest)) (IsOwn s)
  on true p rest k i f = i k
  on false p rest k i f = f k

  by : (m : Bool) → (IfSome (lookup (is_at (session_cmp s)) es) (IsOwn s) → IfSome (lookup (is_at (session_cmp s)) (marked_places false es)) (IsOwn s))
      → (IfSome (lookup (is_at (session_cmp s)) es) (IsOwn s) → IfSome (lookup (is_at (session_cmp s)) (marked_places b es)) (IsOwn s))
      → IfSome (lookup (is_at (session_cmp s)) (cond m ((e.0, record e.1 { mark = Some Slow }) ∷ marked_places false es) (e ∷ marked_places b es))) (IsOwn s)
  by true f g = on (is_eq (session_cmp s e.0)) (record e.1 { mark = Some Slow }) (marked_places false es) h (λ x. x) f
  by false f g = on (is_eq (session_cmp s e.0)) e.1 (marked_places b es) h (λ x. x) g

pub from_retain : {F : Type 0} (T : F → SessionId → SessionFeed → Bool → SessionFeed → F → Type 0) (due : F → Bool)
    → ((f : F) (k : SessionId) (v : SessionFeed) (b : Bool) (w : SessionFeed) (g : F) → T f k v b w g
    → (b ≡ true) × (w ≡ cond (due f && is_slow (line_of v)) (record v { mark = Some Slow }) v) × (due g ≡ cond (due f && is_slow (line_of v)) false (due f)))
    → (f : F) (es kept : List (SessionId × SessionFeed)) → RetainsPairs T f es kept → kept ≡ marked_places (due f) es
from_retain T due says f [] kept h = h
from_retain T due says f (e ∷ es) kept h =
    let b = h.0 in
    let w = h.1 in
    let g = h.2 in
    let rest = h.3 in
    let told = says f e.0 e.1 b w g h.4 in
    h.6 ∙ ap (λ x. cond x ((e.0, w) ∷ rest) rest) told.0
    ∙ ap (λ l. (e.0, w) ∷ l) (from_retain T due says g es rest h.5 ∙ ap (λ d. marked_places d es) told.2)
    ∙ ap (λ p. (e.0, p) ∷ marked_places (cond (due f && is_slow (line_of e.1)) false (due f)) es) told.1
    ∙ by (due f && is_slow (line_of e.1)) where
      by : (m : Bool) → (e.0, cond m (record e.1 { mark = Some Slow }) e.1) ∷ marked_places (cond m false (due f)) es ≡ cond m ((e.0, record e.1 { mark = Some Slow }) ∷ marked_places false es) (e ∷ marked_places (due f) es)
      by true = refl
      by false = refl

-- ---- what holds in any case

pub if_some : {X : Type 0} (o : Option X) (P : Type 0) → P → IfSome o (λ x. P)
if_some None P p = tt
if_some (Some x) P p = p

pub if_none : {X : Type 0} (o : Option X) (P : Type 0) → P → IfNone o P
if_none None P p = p
if_none (Some x) P p = tt
