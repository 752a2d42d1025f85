-- A server's turn and its commit, over what holds of the server.
use Rattle.std.proofs.Common.{sym, subst, ◌≡◌, ℕ, [], ◌∷◌, ◌++◌, length, arith, length-append}
use Rattle.std.specs.BTreeMap.{IsOrdered}
use Rattle.pres_ids.specs.Ids.{client_cmp}
use Rattle.pres_log.specs.declared.entry.Batch.{Batch}
use Rattle.pres_log.specs.Logs.{Log, entries}
use Rattle.pres_log.proofs.Entries.{entries-push, last_moment-push}
use Rattle.pres_server.specs.declared.index.Index.{Index}
use Rattle.pres_server.specs.InternalSessions.{open_count}
use Rattle.pres_history.specs.LegalLog.{MayFollow}
use Rattle.pres_history.specs.InternalInvariants.{Indexed, MayTakeAll, ServerInvariant}
use Rattle.pres_history.specs.Sessions.{open_sessions}
use Rattle.pres_history.proofs.OpenList.{open_count_is}
use Rattle.pres_history.proofs.LegalLogs.{legal_is_sound, legal_after, follows_in_turn}

pub count_is : (log : Log) (moment : ℕ) (index : Index) → ServerInvariant log moment index → open_count index.places ≡ length (open_sessions (entries log))
count_is log moment index kept = open_count_is (entries log) index kept.indexed (legal_is_sound log kept.legal) kept.ordered

-- ---- the commit

pub fitting : (log : Log) (moment : ℕ) (index : Index) (b : Batch) → ServerInvariant log moment index → MayFollow log b → MayTakeAll (entries log) b.first b.moment b.entries index
fitting log moment index b kept follows =
    let room = follows.room in
    let both = length-append (entries log) b.entries in
    record {
      indexed = kept.indexed;
      sound = legal_is_sound log kept.legal;
      next = follows.first;
      in_turn = follows_in_turn (entries log) b.moment b.entries follows.allowed;
      room = omega arith;
    }

pub kept_after : (log : Log) (moment : ℕ) (index new : Index) (b : Batch) → ServerInvariant log moment index → MayFollow log b → Indexed (entries log ++ b.entries) new → IsOrdered client_cmp new.places.live → ServerInvariant (log ++ b ∷ []) b.moment new
kept_after log moment index new b kept follows ix ordered =
    let last = last_moment-push log b in
    let later = follows.not_earlier in
    record {
      legal = legal_after log b kept.legal follows;
      indexed = subst (λ es. Indexed es new) (sym (entries-push log b)) ix;
      last = omega arith;
      ordered = ordered;
    }
