-- What a replay adds and refuses.
use Rattle.std.proofs.Common.{refl, sym, ◌∙◌, ap, subst, ◌≡◌, ℕ, ◌+◌, ◌<◌, suc, List, [], ◌∷◌, ◌++◌, length, get_or, take, drop, arith}
use Rattle.std.proofs.Math.Seq.{drop-cons}
use Rattle.std.proofs.lemmas.List.{take-append-drop, take_more}
use Rattle.pres_log.specs.declared.entry.Batch.{Batch}
use Rattle.pres_log.specs.Logs.{Log}
use Rattle.pres_server.specs.declared.replay.ReplayFault.{ReplayFault}
use Rattle.pres_server.specs.declared.replay.ReplayFault.TheVariants.{Memory, NotLegal}
use Rattle.pres_server.specs.Sums.{Sum, nothing, sum_with, sum_from}
use Rattle.pres_server.specs.SumTurns.{FollowsSum, FollowAll}
use Rattle.pres_server.specs.Replays.{IsNotAdded, IsNoLog}

-- ---- one batch more

pub sum_push : (sum : Sum) (log : Log) (b : Batch) → sum_from sum (log ++ b ∷ []) ≡ sum_with (sum_from sum log) b
sum_push sum [] b = refl
sum_push sum (a ∷ log) b = sum_push (sum_with sum a) log b

pub follow_more : (log : Log) (sum : Sum) (b : Batch) → FollowAll sum log → FollowsSum (sum_from sum log) b → FollowAll sum (log ++ b ∷ [])
follow_more [] sum b f g = (g, tt)
follow_more (a ∷ log) sum b f g = (f.0, follow_more log (sum_with sum a) b f.1 g)

pub batches_from : (sum : Sum) (log : Log) → (sum_from sum log).batches ≡ sum.batches + length log
batches_from sum [] = let none : sum.batches ≡ sum.batches + 0 = omega arith in none
batches_from sum (a ∷ log) = let rest = batches_from (sum_with sum a) log in omega arith

-- ---- the batches before the next one, and those up to it

begun : (bs : List Batch) (i : ℕ) (b : Batch) → i < length bs → b ≡ get_or bs i b → bs ≡ take i bs ++ b ∷ drop (suc i) bs
begun bs i b h e = sym (take-append-drop i bs) ∙ ap (λ l. take i bs ++ l) (drop-cons bs i b h ∙ ap (λ x. x ∷ drop (suc i) bs) (sym e))

one_further : (bs : List Batch) (i : ℕ) (b : Batch) → i < length bs → b ≡ get_or bs i b → take (i + 1) bs ≡ take i bs ++ b ∷ []
one_further bs i b h e = take_more bs i b h ∙ ap (λ x. take i bs ++ x ∷ []) (sym e)

pub summed_further : (bs : List Batch) (i : ℕ) (b : Batch) → i < length bs → b ≡ get_or bs i b → sum_from nothing (take (i + 1) bs) ≡ sum_with (sum_from nothing (take i bs)) b
summed_further bs i b h e = ap (sum_from nothing) (one_further bs i b h e) ∙ sum_push nothing (take i bs) b

pub follow_further : (bs : List Batch) (i : ℕ) (b : Batch) → i < length bs → b ≡ get_or bs i b → FollowAll nothing (take i bs) → FollowsSum (sum_from nothing (take i bs)) b → FollowAll nothing (take (i + 1) bs)
follow_further bs i b h e all f = subst (FollowAll nothing) (sym (one_further bs i b h e)) (follow_more (take i bs) nothing b all f)

-- a batch that isn't added is the first that may not follow
pub not_added : (bs : List Batch) (i : ℕ) (b : Batch) (fault : ReplayFault) → i < length bs → b ≡ get_or bs i b → FollowAll nothing (take i bs) → IsNotAdded (sum_from nothing (take i bs)) b fault → IsNoLog bs fault
not_added bs i b Memory h e all r = tt
not_added bs i b (NotLegal k) h e all r =
    let counted = batches_from nothing (take i bs) in
    let due = r.1 in
    record { before = take i bs; batch = b; later = drop (suc i) bs; parts = begun bs i b h e; number = omega arith; legal = all; refused = r.0 }
