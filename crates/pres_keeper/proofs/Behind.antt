-- A history with batches more.
use Rattle.std.proofs.Common.{◌≡◌, ◌∙◌, ◌+◌, ℕ, List, [], ◌∷◌, ◌++◌, append_assoc, append-nil, sym, ap, subst, refl}
use Rattle.pres_log.specs.declared.entry.Batch.{Batch}
use Rattle.pres_log.specs.declared.entry.Entry.{Entry}
use Rattle.pres_log.specs.Logs.{Log}
use Rattle.pres_server.specs.Sums.{Sum, sum_with, sum_from}
use Rattle.pres_server.specs.SumTurns.{FollowsSum, FollowAll, batch_by}
use Rattle.pres_server.specs.Histories.{IsSum, History, LeadsTo, with_batch, begun_at, with_batches}
use Rattle.pres_server.proofs.Replayed.{sum_push, follow_more}
use Rattle.pres_keeper.specs.Keepers.{HasOneNull, FollowOn, number_in}
use Rattle.pres_keeper.proofs.Nulls.{number_made, follower_has}

-- none is no more
pub no_batches : (history : History) → with_batches history [] ≡ history
no_batches history = λ i. record { base = history.base; log = append-nil history.log i }

-- first one, and then others
pub batches_more : (history : History) (b : Batch) (bs : Log) → with_batches (with_batch history b) bs ≡ with_batches history (b ∷ bs)
batches_more history b bs = λ i. record { base = history.base; log = append_assoc history.log (b ∷ []) bs i }

pub batches_both : (history : History) (first more : Log) → with_batches (with_batches history first) more ≡ with_batches history (first ++ more)
batches_both history first more = λ i. record { base = history.base; log = append_assoc history.log first more i }

-- batches that may follow a sum one after another lead to theirs
pub leads_all : (base : Sum) (log : Log) → IsSum base → FollowAll base log → LeadsTo (record { base = base; log = log }) (sum_from base log)
leads_all base log k follow = record { base = k; legal = follow; there = refl }

-- none leads nowhere else
pub leads_begun : (sum : Sum) → IsSum sum → LeadsTo (begun_at sum) sum
leads_begun sum k = leads_all sum [] k tt

-- one that may follow leads on
pub leads_more : (history : History) (sum : Sum) (b : Batch) → LeadsTo history sum → FollowsSum sum b → LeadsTo (with_batch history b) (sum_with sum b)
leads_more history sum b made follows = record {
  base = made.base;
  legal = follow_more history.log history.base b made.legal (subst (λ s. FollowsSum s b) (sym made.there) follows);
  there = sum_push history.base history.log b ∙ ap (λ s. sum_with s b) made.there;
}

-- so does that of a turn
pub leads_turn : (history : History) (sum : Sum) (moment : ℕ) (es : List Entry) (b : Batch) → LeadsTo history sum → FollowsSum sum b → b ≡ batch_by sum moment es
    → LeadsTo (with_batch history (batch_by sum moment es)) (sum_with sum (batch_by sum moment es))
leads_turn history sum moment es b made follows is = leads_more history sum (batch_by sum moment es) made (subst (FollowsSum sum) is follows)

-- it may be committed
pub may_commit : (history : History) (sum : Sum) (b : Batch) → LeadsTo history sum → FollowsSum sum b → (b.first ≡ number_in history + 1) × HasOneNull b.entries
may_commit history sum b made follows = (follows.first ∙ ap (λ n. n + 1) (number_made history sum made), follower_has sum b follows)

-- ---- several batches

-- they lead on, one after another
pub leads_group : (history : History) (sum : Sum) (bs : Log) → LeadsTo history sum → FollowAll sum bs → LeadsTo (with_batches history bs) (sum_from sum bs)
leads_group history sum [] made follow = subst (λ h. LeadsTo h sum) (sym (no_batches history)) made
leads_group history sum (b ∷ bs) made follow =
    let next = sum_with sum b in
    subst (λ h. LeadsTo h (sum_from next bs)) (batches_more history b bs)
    (leads_group (with_batch history b) next bs (leads_more history sum b made follow.0) follow.1)

-- and may be committed together
pub may_commit_all : (history : History) (sum : Sum) (bs : Log) → LeadsTo history sum → FollowAll sum bs → FollowOn history bs
may_commit_all history sum [] made follow = tt
may_commit_all history sum (b ∷ bs) made follow =
    let may = may_commit history sum b made follow.0 in
    (may.0, may.1, may_commit_all (with_batch history b) (sum_with sum b) bs (leads_more history sum b made follow.0) follow.1)

-- two histories, of which the first leads to the base of the other
pub leads_both : (history later : History) (sum : Sum) → LeadsTo history later.base → LeadsTo later sum → LeadsTo (with_batches history later.log) sum
leads_both history later sum made then =
    subst (LeadsTo (with_batches history later.log)) then.there (leads_group history later.base later.log made then.legal)
