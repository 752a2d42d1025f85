-- The fault that comes first, of several at keys.
use Rattle.std.proofs.Common.{◌≡◌, true, false, cond, Some, None, refl, sym, ap, ◌∙◌}
use Rattle.std.specs.declared.cmp.Ordering.{Ordering}
use Rattle.std.specs.declared.cmp.Ordering.TheVariants.{Less, Equal, Greater}
use Rattle.std.specs.Ordering.{is_lt, is_gt, ordering_reverse}
use Rattle.std.specs.Cmp.{upto}
use Rattle.std.specs.Cmp.Lexicographic.{nat_list_cmp_total}
use Rattle.pres_tree.specs.Keys.{Key, key_cmp}
use Rattle.pres_tree.specs.declared.fault.TreeFault.{TreeFault}
use Rattle.pres_tree.specs.JsonReading.{KeyedFault, first_of}

less_of : (o : Ordering) → is_lt o ≡ true → o ≡ Less
less_of Less h = refl
less_of Equal h = absurd cc
less_of Greater h = absurd cc

turned : (o : Ordering) → is_lt (ordering_reverse o) ≡ is_gt o
turned Less = refl
turned Equal = refl
turned Greater = refl

before_after : (k l : Key) → is_lt (key_cmp k l) ≡ is_gt (key_cmp l k)
before_after k l = ap is_lt (nat_list_cmp_total.antisymm k l) ∙ turned (key_cmp l k)

before_chain : (k l m : Key) → is_lt (key_cmp k l) ≡ true → is_lt (key_cmp l m) ≡ true → is_lt (key_cmp k m) ≡ true
before_chain k l m h g = ap is_lt (nat_list_cmp_total.trans k l m (less_of (key_cmp k l) h) (less_of (key_cmp l m) g))

after_chain : (k l m : Key) → is_lt (key_cmp l k) ≡ false → is_lt (key_cmp m l) ≡ false → is_lt (key_cmp m k) ≡ false
after_chain k l m h g = before_after m k ∙ upto nat_list_cmp_total k l m (sym (before_after l k) ∙ h) (sym (before_after m l) ∙ g)

-- the first of three faults, whichever two are compared first
first_of_three : (p q r : Key × TreeFault) → first_of (first_of (Some p) (Some q)) (Some r) ≡ first_of (Some p) (first_of (Some q) (Some r))
first_of_three p q r =
    elim (is_lt (key_cmp q.0 p.0)) as (λ a. is_lt (key_cmp q.0 p.0) ≡ a → first_of (cond a (Some q) (Some p)) (Some r) ≡ first_of (Some p) (first_of (Some q) (Some r))) [
      | true ↦ λ h. elim (is_lt (key_cmp r.0 q.0)) as (λ b. is_lt (key_cmp r.0 q.0) ≡ b → cond b (Some r) (Some q) ≡ first_of (Some p) (cond b (Some r) (Some q))) [
        | true ↦ λ g. sym (ap (λ b. cond b (Some r) (Some p)) (before_chain r.0 q.0 p.0 g h))
        | false ↦ λ g. sym (ap (λ b. cond b (Some q) (Some p)) h)
      ] refl
      | false ↦ λ h. elim (is_lt (key_cmp r.0 q.0)) as (λ b. is_lt (key_cmp r.0 q.0) ≡ b → cond (is_lt (key_cmp r.0 p.0)) (Some r) (Some p) ≡ first_of (Some p) (cond b (Some r) (Some q))) [
        | true ↦ λ g. refl
        | false ↦ λ g. ap (λ b. cond b (Some r) (Some p)) (after_chain p.0 q.0 r.0 h g) ∙ sym (ap (λ b. cond b (Some q) (Some p)) h)
      ] refl
    ] refl

pub first_of-assoc : (a b c : KeyedFault) → first_of (first_of a b) c ≡ first_of a (first_of b c)
first_of-assoc None b c = refl
first_of-assoc (Some p) None c = refl
first_of-assoc (Some p) (Some q) None = by_none (first_of (Some p) (Some q))
  where
    by_none : (a : KeyedFault) → first_of a None ≡ a
    by_none None = refl
    by_none (Some p) = refl
first_of-assoc (Some p) (Some q) (Some r) = first_of_three p q r
