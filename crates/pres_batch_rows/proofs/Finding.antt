-- How the tables are found.
use Rattle.std.proofs.Common.{◌≡◌, ◌≢◌, length, length-append, inl, inr, ℕ, zero, suc, ◌+◌, ◌<◌, ◌≤◌, ◌^◌, max, ℤ, negsuc, IfSome, List, [], ◌∷◌, ◌++◌, map, Option, Some, None, unwrap_or, Result, Ok, Err, IfOk, OnOk, pos, refl, sym, ap, subst, ◌∙◌, arith, Less}
use Rattle.std.specs.List.{AllByRecursion}
use Rattle.std.proofs.lemmas.Bool.{cases_lt}
use Rattle.sqlite.specs.Store.{Ghosts}
use Rattle.sqlite.specs.Order.{Row, column, value_cmp}
use Rattle.sqlite.specs.declared.types.Value.{Value}
use Rattle.sqlite.specs.declared.types.Value.TheVariants.{Int}
use Rattle.sqlite.specs.Tree.{IsTable}
use Rattle.sqlite.specs.Effect.{Database}
use Rattle.sqlite.specs.State.{State, IsUnchanged}
use Rattle.sqlite.specs.Held.{Held, state}
use Rattle.sqlite.specs.Given.{HasGiven, HasBegun, Advances}
use Rattle.sqlite_value.proofs.OrderLemmas.{value_cmp_total, value_cmp-Int}
use Rattle.sqlite_keyed.proofs.KeyedLemmas.{Less-from_lt}
use Rattle.std.proofs.lemmas.Int.{ints}
use Rattle.sqlite_keyed.proofs.ListLemmas.{all_unmap}
use Rattle.sqlite.proofs.Callers.{unchanged_then}
use Rattle.pres_batch_rows.specs.TableStates.{HasOurTables, HoldsBatches, IsLeft}
use Rattle.pres_batch_rows.specs.RowContents.{rows_in, shown_row, shown_rows, shown_base, whole_of, AreBelow}
use Rattle.pres_batch_rows.specs.TableOpening.{greatest_in, last_of, last_in}
use Rattle.pres_batch_rows.proofs.Statements.{select_text}
use Rattle.pres_batch_rows.proofs.Plain.{rows_are_read, begun_same}
use Rattle.pres_batch_rows.proofs.Inserting.{below}
use Rattle.pres_batch_rows.proofs.Loading.{loads}

-- ---- the last number

abbrev pub number_of : Row → ℕ
number_of row = unwrap_or (whole_of (column row 0)) 0

pub greatest_push : (given : List Row) (row : Row) → greatest_in (given ++ row ∷ []) ≡ max (greatest_in given) (number_of row)
greatest_push [] row = omega arith
greatest_push (r ∷ given) row = let later = greatest_push given row in omega (arith, later)

abbrev pub Below : ℕ → List Row → Type 0
Below k = AllByRecursion (λ row. value_cmp (column row 0) (Int (pos k)) ≡ Less)

below_weaker : (v : Value) (a b : ℕ) → a ≤ b → value_cmp v (Int (pos a)) ≡ Less → value_cmp v (Int (pos b)) ≡ Less
below_weaker v a b h less = elim (cases_lt a b) [
  | inl lower ↦ value_cmp_total.trans v (Int (pos a)) (Int (pos b)) less (below a b lower)
  | inr past ↦ let same : a ≡ b = omega arith in rw (← same) less
]

all_push : (a b : ℕ) (given : List Row) (row : Row) → a ≤ b → Below a given → value_cmp (column row 0) (Int (pos b)) ≡ Less → Below b (given ++ row ∷ [])
all_push a b [] row up h less = (less, tt)
all_push a b (r ∷ given) row up h less = (below_weaker (column r 0) a b up h.0, all_push a b given row up h.1 less)

last_by : (given : List Row) (count last : ℕ) → count ≡ length given → last ≡ greatest_in given
    → (count ≡ 0 → last_of given ≡ None) × (count ≢ 0 → last_of given ≡ Some last) × (count ≡ 0 → last ≡ 0)
last_by [] count last many is = ((λ none. refl), (λ some. absurd (some many)), (λ none. is))
last_by (row ∷ given) count last many is = ((λ none. absurd (omega (arith, many, none))), (λ some. ap Some (sym is)), (λ none. absurd (omega (arith, many, none))))

-- the query has given so many rows, and this is the greatest of their numbers
pub record Counting {S : Type 0} (g : Ghosts S) (first held : Held S) (count last : ℕ) : Type 0 where
  pub given : List Row
  pub has : HasGiven g select_text [] held given
  pub same : IsUnchanged (state g first) (state g held)
  pub counted : count ≡ length given
  pub greatest : last ≡ greatest_in given
  pub lower : Below (last + 1) given

module _ {S : Type 0} (g : Ghosts S) (first : Held S) (ours : HoldsBatches (state g first)) where
  pub counting_begins : (held : Held S) → HasBegun g select_text [] first held → Counting g first held 0 0
  counting_begins held begun =
      let it = begun_same select_text rows_are_read g first held begun in
      record { given = []; has = it.0; same = it.1; counted = refl; greatest = refl; lower = tt }

  module _ (held : Held S) (count last : ℕ) (p : Counting g first held count last) (new : Held S) where
    pub counting_more : (row : Row) (n : ℕ) → Advances g held new (Some row) → IsUnchanged (state g held) (state g new) → n ≡ number_of row → value_cmp (column row 0) (Int (pos (n + 1))) ≡ Less
        → Counting g first new (count + 1) (max last n)
    counting_more row n moved same is less = record {
      given = p.given ++ row ∷ [];
      has = moved select_text [] p.given p.has;
      same = unchanged_then (state g first) (state g held) (state g new) p.same same;
      counted = omega (arith, p.counted, length-append p.given (row ∷ []));
      greatest = omega (arith, greatest_push p.given row, p.greatest, is);
      lower = all_push (last + 1) (max last n + 1) p.given row (omega arith) p.lower (below_weaker (column row 0) (n + 1) (max last n + 1) (omega arith) less);
    }

    -- the last number, if there are rows
    pub counted : Advances g held new None
        → ((count ≡ 0 → last_of (shown_rows (state g first)) ≡ None) × (count ≢ 0 → last_of (shown_rows (state g first)) ≡ Some last)) × AreBelow (last + 1) (rows_in (state g first)) × (count ≡ 0 → last ≡ 0)
    counted moved =
        let now = p.same.0.now_is in
        let later : HoldsBatches (state g held) = record { schema = subst (λ (d : Database). HasOurTables d.schema) (sym now) ours.schema; rising = subst (λ (d : Database). IsTable (d.trees 2)) (sym now) ours.rising } in
        let all : p.given ≡ shown_rows (state g first) = loads (state g held) (state g new) p.given later (moved select_text [] p.given p.has) ∙ ap (λ (d : Database). map shown_row (d.trees 2)) now in
        let found = last_by p.given count last p.counted p.greatest in (
          (λ none. ap last_of (sym all) ∙ found.0 none, λ some. ap last_of (sym all) ∙ found.1 some),
          all_unmap (λ row. value_cmp (column row 0) (Int (pos (last + 1))) ≡ Less) shown_row (rows_in (state g first)) (subst (Below (last + 1)) all p.lower),
          found.2,
        )

pub left_after : (old mid new : State) → IsUnchanged old mid → IsLeft mid new → IsLeft old new
left_after old mid new same left = record {
  mode = left.mode;
  same = λ live. record { was_open = same.0.was_open; now = (left.same live).now ∙ same.0.now_is; committed = (left.same live).committed ∙ same.0.committed_is };
}

-- ---- the number, if there are rows

pub chosen : (count last : ℕ) (r o : Option ℕ) → (count ≡ 0 → r ≡ None) → (count ≢ 0 → r ≡ Some last) → (count ≡ 0 → o ≡ None) → (count ≢ 0 → o ≡ Some last) → (count ≡ 0 → last ≡ 0)
    → (r ≡ o) × (unwrap_or r 0 ≡ last)
chosen zero last r o rn rs on os is = (rn refl ∙ sym (on refl), ap (λ x. unwrap_or x 0) (rn refl) ∙ sym (is refl))
chosen (suc n) last r o rn rs on os is =
    let some : suc n ≢ 0 = λ e. omega (arith, e) in
    (rs some ∙ sym (os some), ap (λ x. unwrap_or x 0) (rs some))

pub chosen_low : (count last : ℕ) (r : Option ℕ) → (count ≡ 0 → r ≡ None) → (count ≢ 0 → r ≡ Some last) → last < 2 ^ 63 → unwrap_or r 0 < 2 ^ 63
chosen_low zero last r rn rs low = subst (λ x. unwrap_or x 0 < 2 ^ 63) (sym (rn refl)) (omega arith)
chosen_low (suc n) last r rn rs low = subst (λ x. unwrap_or x 0 < 2 ^ 63) (sym (rs (λ e. omega (arith, e)))) low

-- ---- where there are no rows

none_below : (k : ℕ) (rows : List Row) → last_of (map shown_row rows) ≡ None → AreBelow k rows
none_below k [] none = tt
none_below k (row ∷ rows) none = absurd (cc)

pub last_found : (s : State) (n : ℕ) → last_of (shown_rows s) ≡ Some n → AreBelow (n + 1) (rows_in s) → (n ≡ last_in (shown_base s) (shown_rows s)) × AreBelow (n + 1) (rows_in s)
last_found s n found below = (ap (λ o. unwrap_or o (greatest_in (shown_base s))) (sym found), below)

pub last_missing : (s : State) (n : ℕ) → last_of (shown_rows s) ≡ None → n ≡ greatest_in (shown_base s) → (n ≡ last_in (shown_base s) (shown_rows s)) × AreBelow (n + 1) (rows_in s)
last_missing s n none is = (is ∙ ap (λ o. unwrap_or o (greatest_in (shown_base s))) (sym none), none_below (n + 1) (rows_in s) none)

-- ---- one number

pub number_facts : (z : ℤ) (v : Value) (n : ℕ) → Int z ≡ v → n ≡ unwrap_or (whole_of (Int z)) 0 → (n ≡ unwrap_or (whole_of v) 0) × (value_cmp v (Int (pos (n + 1))) ≡ Less)
number_facts (pos m) v n is value = (value ∙ ap (λ w. unwrap_or (whole_of w) 0) is, rw (← is) (below m (n + 1) (omega (arith, value))))
number_facts (negsuc m) v n is value =
    (value ∙ ap (λ w. unwrap_or (whole_of w) 0) is, rw (← is) (value_cmp-Int (negsuc m) (pos (n + 1)) ∙ Less-from_lt (negsuc m) (pos (n + 1)) (omega (arith, ints))))

pub number_bound : (o : Option ℕ) → IfSome o (λ m. m < 2 ^ 63) → unwrap_or o 0 < 2 ^ 63
number_bound None h = omega arith
number_bound (Some m) h = h

pub both_ok : {A E : Type 0} (r : Result A E) (P : A → Type 0) (Q : Type 0) (R : A → Type 0) → ((a : A) → P a → Q → R a) → IfOk r P → OnOk r Q → IfOk r R
both_ok (Ok a) P Q R f p q = f a p q
both_ok (Err e) P Q R f p q = tt

pub any_ok : {A E : Type 0} (r : Result A E) (P : Type 0) → P → OnOk r P
any_ok (Ok a) P p = p
any_ok (Err e) P p = tt
