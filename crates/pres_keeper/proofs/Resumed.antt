-- Batches that are replayed after a base.
use Rattle.std.proofs.Common.{refl, sym, ◌∙◌, ap, subst, ◌≡◌, ℕ, ◌+◌, ◌<◌, suc, List, [], ◌∷◌, ◌++◌, length, get_or, take, drop, inl, arith}
use Rattle.std.proofs.Math.Seq.{drop-cons}
use Rattle.std.proofs.lemmas.List.{take-append-drop, take_more}
use Rattle.pres_log.specs.declared.entry.Batch.{Batch}
use Rattle.pres_server.specs.declared.replay.ReplayFault.{ReplayFault}
use Rattle.pres_server.specs.declared.replay.ReplayFault.TheVariants.{Memory, NotLegal}
use Rattle.pres_server.specs.Sums.{Sum, sum_with, sum_from}
use Rattle.pres_server.specs.SumTurns.{FollowsSum, FollowAll}
use Rattle.pres_server.specs.Replays.{IsNotAdded}
use Rattle.pres_server.specs.Histories.{History}
use Rattle.pres_server.proofs.Replayed.{sum_push, follow_more, batches_from}
use Rattle.pres_keeper.specs.Keepers.{IsNoLogAfter, IsNoServer, whole, bad_batch}

-- ---- the batches before the next one, and those up to it

parted : (bs : List Batch) (i : ℕ) (b : Batch) → i < length bs → b ≡ get_or bs i b → bs ≡ take i bs ++ b ∷ drop (suc i) bs
parted bs i b h e = sym (take-append-drop i bs) ∙ ap (λ l. take i bs ++ l) (drop-cons bs i b h ∙ ap (λ x. x ∷ drop (suc i) bs) (sym e))

one_further : (bs : List Batch) (i : ℕ) (b : Batch) → i < length bs → b ≡ get_or bs i b → take (i + 1) bs ≡ take i bs ++ b ∷ []
one_further bs i b h e = take_more bs i b h ∙ ap (λ x. take i bs ++ x ∷ []) (sym e)

pub summed_further : (base : Sum) (bs : List Batch) (i : ℕ) (b : Batch) → i < length bs → b ≡ get_or bs i b → sum_from base (take (i + 1) bs) ≡ sum_with (sum_from base (take i bs)) b
summed_further base bs i b h e = ap (sum_from base) (one_further bs i b h e) ∙ sum_push base (take i bs) b

pub follow_further : (base : Sum) (bs : List Batch) (i : ℕ) (b : Batch) → i < length bs → b ≡ get_or bs i b → FollowAll base (take i bs) → FollowsSum (sum_from base (take i bs)) b → FollowAll base (take (i + 1) bs)
follow_further base bs i b h e all f = subst (FollowAll base) (sym (one_further bs i b h e)) (follow_more (take i bs) base b all f)

-- ---- why no server is made

-- a batch that isn't added is the first that may not follow
pub not_added : (base : Sum) (bs : List Batch) (i : ℕ) (b : Batch) (fault : ReplayFault) → i < length bs → b ≡ get_or bs i b → FollowAll base (take i bs) → IsNotAdded (sum_from base (take i bs)) b fault → IsNoLogAfter base bs fault
not_added base bs i b Memory h e all r = tt
not_added base bs i b (NotLegal k) h e all r =
    let counted = batches_from base (take i bs) in
    let due = r.1 in
    record { before = take i bs; batch = b; later = drop (suc i) bs; parts = parted bs i b h e; number = omega arith; legal = all; refused = r.0 }

-- of a history that is read to its end
pub no_server : (history : History) (fault : ReplayFault) → IsNoLogAfter history.base history.log fault → IsNoServer (whole history) (bad_batch fault)
no_server history Memory refused = inl refl
no_server history (NotLegal k) refused = inl refused
