-- What a place of the tree holds, as code and as definitions tell it.
use Rattle.std.proofs.Common.{◌≡◌, ℕ, [], ◌∷◌, Bool, true, false, cond, Option, Some, None, refl, sym, ap, ◌∙◌, true≢false}
use Rattle.std.specs.Option.{unwrap_or}
use Rattle.std.specs.Prelude.{MatchOption, IsTrue, ◌↔◌, option_map}
use Rattle.pres_tree.specs.declared.scalar.Scalar.{Scalar}
use Rattle.pres_tree.specs.Rows.{Rows, IsValue, is_null, option_of, rows_in, value_at}
use Rattle.pres_tree.proofs.SameRows.{same_by}
use Rattle.pres_write.specs.declared.outcome.Outcome.TheVariants.{Wrote, Stale}
use Rattle.pres_write.specs.Settling.{settled_write}
use Rattle.pres_write.specs.Outcomes.{compared}
use Rattle.pres_write.specs.Transactions.{Comparison}

pub rows_of_option : {A : Type 0} (v : Rows A) → rows_in (option_of v) ≡ v
rows_of_option [] = refl
rows_of_option (r ∷ v) = refl

pub option_of_none : {A : Type 0} (v : Rows A) → is_null v ≡ true → option_of v ≡ None
option_of_none [] h = refl
option_of_none (r ∷ v) h = absurd (true≢false (sym h))

pub option_of_some : {A : Type 0} (v : Rows A) → is_null v ≡ false → option_of v ≡ Some v
option_of_some [] h = absurd (true≢false h)
option_of_some (r ∷ v) h = refl

-- null has one form, also where it is made so a second time
pub one_form : {A : Type 0} (o : Option (Rows A)) (v : Rows A) → o ≡ option_of v → o ≡ option_of (rows_in o)
one_form o v e = e ∙ ap option_of (sym (rows_of_option v) ∙ ap rows_in (sym e))

-- what was found is none of null
pub held_is : {B : Type 0} (rows : B → Rows Scalar) (o : Option B) (v : Rows Scalar) → MatchOption o (v ≡ []) (λ t. (is_null (rows t) ≡ false) × IsValue (rows t) × (v ≡ rows t)) → option_map rows o ≡ option_of v
held_is rows None v h = sym (ap option_of h)
held_is rows (Some t) v h = sym (option_of_some (rows t) h.0) ∙ ap option_of (sym h.2)

-- the outcome by the test
pub compared_as : (tree : Rows Scalar) (moment : ℕ) (t : Comparison) (r : Bool) → IsTrue r ↔ (value_at t.path tree ≡ t.expect) → compared tree moment t ≡ cond r (Wrote (settled_write tree moment (t.path, t.new) ∷ [])) (Stale (option_of (value_at t.path tree)))
compared_as tree moment t r h = ap (λ b. cond b (Wrote (settled_write tree moment (t.path, t.new) ∷ [])) (Stale (option_of (value_at t.path tree)))) (sym (same_by r (value_at t.path tree) t.expect h))

pub rows_unwrapped : {A : Type 0} (o : Option (Rows A)) (d : Rows A) → d ≡ [] → unwrap_or o d ≡ rows_in o
rows_unwrapped None d h = h
rows_unwrapped (Some v) d h = refl
