-- Steps of the state and of the output.
use Rattle.std.proofs.Common.{◌≡◌, ◌≤◌, ◌+◌, ℕ, Bool, List, ◌∷◌, ◌++◌, length, ap, ◌∙◌, append_assoc, length-append, arith}
use Rattle.pres_write.specs.declared.op.Op.{Op}
use Rattle.pres_log.specs.Plains.{PlainState, state_after}
use Rattle.pres_apply.specs.declared.faults.RunFault.{RunFault}
use Rattle.pres_apply.specs.declared.faults.RunFault.TheVariants.{Memory, Spent, Read, Write, Endless}
use Rattle.pres_apply.specs.Faults.{EndsAt}
use Rattle.pres_apply.specs.Replies.{ApplyState, carry_out}

abbrev state : PlainState → Bool → ApplyState
state log refused = record { log = log; refused = refused }

pub carried : (log after : PlainState) (refused : Bool) (s : ApplyState) (op : Op) (now : ℕ)
    → state log refused ≡ s → after ≡ state_after log op now
    → state after refused ≡ (carry_out s op now).1
carried log after refused s op now v e = ap (λ l. state l refused) e ∙ ap (λ (x : ApplyState). (carry_out x op now).1) v

pub joined : (out a b c x y z : List ℕ) → a ≡ out ++ x → b ≡ a ++ y → c ≡ b ++ z → c ≡ out ++ (x ++ (y ++ z))
joined out a b c x y z h k l =
    l ∙ ap (λ q. q ++ z) (k ∙ ap (λ q. q ++ y) h ∙ append_assoc out x y) ∙ append_assoc out (x ++ y) z ∙ ap (λ q. out ++ q) (append_assoc x y z)

-- a run that may end where the number is a may end where it is more
pub ends_later : (a b : ℕ) (e : RunFault) → a ≤ b → EndsAt a e → EndsAt b e
ends_later a b Memory h k = tt
ends_later a b Spent h k = omega arith
ends_later a b Read h k = k
ends_later a b Write h k = k
ends_later a b Endless h k = k

-- each line that ends takes a byte
pub counts_line : (start all number number' : ℕ) (rest head tail : List ℕ)
    → number + length rest ≤ start + all → number' ≤ number + 1 → rest ≡ head ++ 10 ∷ tail
    → number' + length tail ≤ start + all
counts_line start all number number' rest head tail h k e =
    omega (arith, ap length e, length-append head (10 ∷ tail))
