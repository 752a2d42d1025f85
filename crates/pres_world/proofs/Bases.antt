-- The base that is kept of a legal history, and the batches after it.
use Rattle.std.proofs.Common.{refl, sym, ◌∙◌, ap, subst, ◌≡◌, ℕ, ◌+◌, ◌<◌, ◌≤◌, [], ◌∷◌, ◌++◌, length, get_or, take, drop, arith}
use Rattle.std.proofs.lemmas.List.{length-take, take-append-drop, take-append-le, take_all, drop_more, drop_all}
use Rattle.pres_log.specs.declared.entry.Batch.{Batch}
use Rattle.pres_log.specs.Logs.{Log}
use Rattle.pres_history.specs.LegalLog.{IsLegal}
use Rattle.pres_history.specs.Replays.{made_from}
use Rattle.pres_server.specs.Replays.{resumed}
use Rattle.pres_server.specs.Sums.{Sum, nothing, sum_with, sum_from, sum_of}
use Rattle.pres_server.specs.SumStates.{SumState}
use Rattle.pres_server.specs.SumTurns.{FollowsSum, FollowAll}
use Rattle.pres_server.proofs.Replayed.{batches_from}
use Rattle.pres_history.proofs.Whole.{legal_by_the_sum, heard_same}
use Rattle.pres_world.specs.ServerSides.{ServerSideState, ServerSideInvariant, HasLog, IsBaseIn, resumed_in, ResumesItsHistory}

-- ---- batches before others, and after them

sum_behind : (before later : Log) (sum : Sum) → sum_from sum (before ++ later) ≡ sum_from (sum_from sum before) later
sum_behind [] later sum = refl
sum_behind (b ∷ before) later sum = sum_behind before later (sum_with sum b)

follow_behind : (before later : Log) (sum : Sum) → FollowAll sum (before ++ later) → FollowAll (sum_from sum before) later
follow_behind [] later sum f = f
follow_behind (b ∷ before) later sum f = follow_behind before later (sum_with sum b) f.1

-- ---- the base of the first batches

-- it has no more of them than there are
pub base_within : (history : Log) (base : Sum) → IsBaseIn history base → base.batches ≤ length history
base_within history base is =
    let counted : base.batches ≡ 0 + length (take base.batches history) = ap (λ (s : Sum). s.batches) is ∙ batches_from nothing (take base.batches history) in
    let taken = length-take base.batches history in
    omega (arith, counted, taken)

-- with batches more
pub based_more : (history more : Log) (base : Sum) → IsBaseIn history base → IsBaseIn (history ++ more) base
based_more history more base is = is ∙ ap sum_of (sym (take-append-le base.batches history more (base_within history base is)))

-- that of all batches
pub based_all : (history : Log) → IsBaseIn history (sum_of history)
based_all history =
    let counted : (sum_of history).batches ≡ 0 + length history = batches_from nothing history in
    sym (ap sum_of (take_all (sum_of history).batches history (omega (arith, counted))))

-- with the batches after it the sum is that of the history
pub summed_since : (history : Log) (base : Sum) → IsBaseIn history base → sum_from base (drop base.batches history) ≡ sum_of history
summed_since history base is =
    ap (λ s. sum_from s (drop base.batches history)) is
    ∙ sym (sum_behind (take base.batches history) (drop base.batches history) nothing)
    ∙ ap sum_of (take-append-drop base.batches history)

-- these may follow, one after another
pub follow_since : (history : Log) (base : Sum) → IsLegal history → IsBaseIn history base → FollowAll base (drop base.batches history)
follow_since history base legal is =
    let later = drop base.batches history in
    let whole : FollowAll nothing (take base.batches history ++ later) = subst (FollowAll nothing) (sym (take-append-drop base.batches history)) ((legal_by_the_sum history).0 legal) in
    subst (λ s. FollowAll s later) (sym is) (follow_behind (take base.batches history) later nothing whole)

-- ---- batches that are added one after another

-- the next one, and those after it
next : (bs : Log) (i : ℕ) (item b : Batch) → i < length bs → item ≡ get_or bs i item → b ≡ item → drop i bs ≡ b ∷ drop (i + 1) bs
next bs i item b less is copied = drop_more bs i item less ∙ ap (λ x. x ∷ drop (i + 1) bs) (sym (copied ∙ is))

pub next_follows : (sum : Sum) (bs : Log) (i : ℕ) (item b : Batch) → i < length bs → item ≡ get_or bs i item → b ≡ item → FollowAll sum (drop i bs) → FollowsSum sum b
next_follows sum bs i item b less is copied f =
    let all : FollowAll sum (b ∷ drop (i + 1) bs) = subst (FollowAll sum) (next bs i item b less is copied) f in
    all.0

pub one_added : (sum new total : Sum) (bs : Log) (i : ℕ) (item b : Batch) → i < length bs → item ≡ get_or bs i item → b ≡ item → new ≡ sum_with sum b → (sum_from sum (drop i bs) ≡ total) × FollowAll sum (drop i bs)
    → (sum_from new (drop (i + 1) bs) ≡ total) × FollowAll new (drop (i + 1) bs)
one_added sum new total bs i item b less is copied added h =
    let left = next bs i item b less is copied in
    let all : FollowAll sum (b ∷ drop (i + 1) bs) = subst (FollowAll sum) left h.1 in
    let rest : sum_from (sum_with sum b) (drop (i + 1) bs) ≡ sum_from sum (drop i bs) = ap (sum_from sum) (sym left) in (
      ap (λ s. sum_from s (drop (i + 1) bs)) added ∙ rest ∙ h.0,
      subst (λ s. FollowAll s (drop (i + 1) bs)) (sym added) all.1,
    )

pub all_added : (sum total : Sum) (bs : Log) (i : ℕ) → length bs ≤ i → sum_from sum (drop i bs) ≡ total → sum ≡ total
all_added sum total bs i past h =
    let rest : sum ≡ sum_from sum (drop i bs) = ap (sum_from sum) (sym (drop_all i bs past)) in
    rest ∙ h

-- ---- a server that starts again

pub resumed_is : (log : Log) (server : SumState) → IsLegal log → server ≡ resumed (sum_of log) → HasLog server (made_from log)
resumed_is log server legal is = (legal, is ∙ ap (λ h. record { sum = sum_of log; heard = h }) (heard_same log legal))

pub resumes_its_history : (w : ServerSideState) → ResumesItsHistory w
resumes_its_history w holds = resumed_is w.history (resumed_in w) holds.legal (ap resumed (summed_since w.history w.base holds.based))

-- the kept base has no more batches than there are
pub count_within : (w : ServerSideState) (n : ℕ) → ServerSideInvariant w → n ≡ w.base.batches → n ≤ length w.history
count_within w n holds is = subst (λ k. k ≤ length w.history) (sym is) (base_within w.history w.base holds.based)

-- a replay that begins at it can be given the batches after it
pub later_follow : (w : ServerSideState) (replay : Sum) (later : Log) → ServerSideInvariant w → replay ≡ w.base → later ≡ drop w.base.batches w.history → FollowAll replay later
later_follow w replay later holds begun after = subst (λ s. FollowAll s later) (sym begun) (subst (FollowAll w.base) (sym after) (follow_since w.history w.base holds.legal holds.based))

pub later_resumed : (w : ServerSideState) (replay : Sum) (later : Log) → replay ≡ w.base → later ≡ drop w.base.batches w.history → resumed (sum_from replay later) ≡ resumed_in w
later_resumed w replay later begun after = λ i. resumed (sum_from (begun i) (after i))
