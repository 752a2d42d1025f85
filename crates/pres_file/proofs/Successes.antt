-- What follows from facts of a success, or of a refusal.
use Rattle.std.proofs.Common.{IfOk, IfErr, Result, Ok, Err}

pub from_three : {T E : Type 0} {P Q R S : T → Type 0} (r : Result T E) → ((it : T) → P it → Q it → R it → S it) → IfOk r P → IfOk r Q → IfOk r R → IfOk r S
from_three (Ok it) f p q r = f it p q r
from_three (Err e) f p q r = tt

pub from_one : {T E : Type 0} {P Q : T → Type 0} (r : Result T E) → ((it : T) → P it → Q it) → IfOk r P → IfOk r Q
from_one (Ok it) f p = f it p
from_one (Err e) f p = tt

pub from_refusal : {T E : Type 0} {P Q : E → Type 0} (r : Result T E) → ((e : E) → P e → Q e) → IfErr r P → IfErr r Q
from_refusal (Ok it) f p = tt
from_refusal (Err e) f p = f e p
