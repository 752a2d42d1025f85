-- Sessions that end one after the other, when the server starts again.
use Rattle.std.proofs.Common.{refl, sym, ◌∙◌, ap, subst, ◌≡◌, ◌<◌, ◌+◌, ℕ, Bool, true, false, if◌then◌else◌, List, [], ◌∷◌, ◌++◌, length, Option, Some, None, append_assoc, true≢false, arith}
use Rattle.std.specs.Option.{option_map, is_some}
use Rattle.std.specs.FinMap.Entries.{find}
use Rattle.pres_tree.specs.declared.scalar.Scalar.{Scalar}
use Rattle.pres_tree.specs.Paths.{Path}
use Rattle.pres_tree.specs.Rows.{Rows}
use Rattle.pres_ids.specs.declared.id.SessionId.{SessionId}
use Rattle.pres_ids.specs.declared.id.Why.TheVariants as why
use Rattle.pres_ids.specs.Ids.{ClientId, client_cmp}
use Rattle.pres_log.specs.declared.entry.Batch.{Batch}
use Rattle.pres_log.specs.declared.entry.Entry.{Entry}
use Rattle.pres_log.specs.declared.fault.Fault.{Fault}
use Rattle.pres_log.specs.declared.fault.Fault.TheVariants as fault
use Rattle.pres_log.specs.Logs.{Log}
use Rattle.pres_server.specs.declared.input.Input.TheVariants as input
use Rattle.pres_server.specs.InternalFollows.{MayComeTogetherBy}
use Rattle.pres_server.specs.InternalParts.{Part, ends_of, limited_by}
use Rattle.pres_history.specs.LegalLog.{IsLegal}
use Rattle.pres_history.specs.ServerStates.{ServerState}
use Rattle.pres_server.specs.ServerStates.{first_client, heard_after_all}
use Rattle.pres_server.specs.Turns.{Decision, makes, quiet, refused}
use Rattle.pres_history.specs.Turns.{moment_of, batch_of, state_after}
use Rattle.pres_server.specs.Sums.{Sum, OpenSession, live_of, part_in, paths_in, has_open_in, sum_after, sum_after_all, sum_of}
use Rattle.pres_server.specs.SumStates.{SumState}
use Rattle.pres_server.specs.SumTurns.{FollowsSum, turn_by, moment_by, batch_by, after_commit}
use Rattle.pres_world.specs.ServerSides.{by_sum, HasLog, IsEndOf, EndsAll}
use Rattle.pres_world.proofs.Held.{turn_is, moment_is, Commits, commits}

-- one more at the front
pub ended_by : (now : ℕ) (c : ClientId) (s u t : ServerState) (old new : Log) (cs : List ClientId) → first_client s.heard ≡ Some c → IsEndOf s c now u old new → EndsAll now cs u t → EndsAll now (c ∷ cs) s t
ended_by now c s u t old new cs first end h = (end.0, first, end.1, subst (λ x. EndsAll now cs x t) end.2 h)

-- the log grew by its batch
pub log_by : (now : ℕ) (c : ClientId) (s u : ServerState) (from old new : Log) → IsEndOf s c now u old new → s.log ≡ from ++ old → u.log ≡ from ++ new
log_by now c s u from old new end is =
    let batch = batch_of s.log (moment_of s.log now) end.0 in
    ap (λ x. x.log) end.2 ∙ ap (λ l. l ++ batch ∷ []) is ∙ append_assoc from old (batch ∷ []) ∙ ap (λ l. from ++ l) (sym end.3)

-- ---- a batch makes the number greater

some_entries : (part : ClientId → Part) (paths : SessionId → List Path) (sessions : ℕ) (tree : Rows Scalar) (m : ℕ) (es : List Entry) → MayComeTogetherBy part paths sessions tree m es → 0 < length es
some_entries part paths sessions tree m [] h = absurd h
some_entries part paths sessions tree m (e ∷ es) h = omega arith

counted : (es : List Entry) (sum : Sum) → (sum_after_all es sum).number ≡ sum.number + length es
counted [] sum = let none : sum.number ≡ sum.number + 0 = omega arith in none
counted (e ∷ es) sum = let rest = counted es (sum_after e sum) in omega (arith, rest)

pub more : (s : SumState) (m : ℕ) (es : List Entry) (batch : Batch) → FollowsSum s.sum batch → batch ≡ batch_by s.sum m es → s.sum.number < (after_commit s m es).sum.number
more s m es batch f is =
    let follows : FollowsSum s.sum (batch_by s.sum m es) = subst (FollowsSum s.sum) is f in
    let some = some_entries (part_in s.sum) (paths_in s.sum) (length s.sum.sessions) s.sum.tree m es follows.allowed in
    let all = counted es s.sum in
    omega (arith, some, all)

-- ---- the end of a session

-- of a server that is its log's sum
ends_here : (s : ServerState) (c : ClientId) (now m : ℕ) (es : List Entry) (batch : Batch) (old new : Log) → IsLegal s.log → turn_by (by_sum s) (input.Restart c) now ≡ makes es → m ≡ moment_by (sum_of s.log) now
    → FollowsSum (sum_of s.log) batch → batch ≡ batch_by (sum_of s.log) m es → new ≡ old ++ batch ∷ [] → (t : ServerState) × HasLog (after_commit (by_sum s) m es) t × IsEndOf s c now t old new
ends_here s c now m es batch old new legal made at f is kept = (
  state_after s m es,
  (k.legal, ap (λ (x : Sum). record { sum = x; heard = heard_after_all m es s.heard }) k.summed),
  (
    es,
    sym (turn_is s.log (by_sum s) (input.Restart c) now legal refl) ∙ made,
    ap (λ x. state_after s x es) moment,
    kept ∙ ap (λ b. old ++ b ∷ []) (is ∙ k.batch ∙ ap (λ x. batch_of s.log x es) moment),
  ),
) where
  k : Commits s.log (by_sum s) m es
  k = commits s.log (by_sum s) m es legal refl (subst (FollowsSum (sum_of s.log)) is f)

  moment : m ≡ moment_of s.log now
  moment = at ∙ moment_is s.log (sum_of s.log) now legal refl

-- a turn ended it, and its batch was kept
pub record IsEnded (server : SumState) (c : ClientId) (now m : ℕ) (es : List Entry) (batch : Batch) : Type 0 where
  pub made : turn_by server (input.Restart c) now ≡ makes es
  pub moment : m ≡ moment_by server.sum now
  pub follows : FollowsSum server.sum batch
  pub batch_is : batch ≡ batch_by server.sum m es

pub one_ended : (server after : SumState) (c : ClientId) (now m : ℕ) (es : List Entry) (batch : Batch) (old new : Log) → IsEnded server c now m es batch → new ≡ old ++ batch ∷ [] → after ≡ after_commit server m es
    → (s : ServerState) → HasLog server s → (t : ServerState) × HasLog after t × IsEndOf s c now t old new
one_ended server after c now m es batch old new e kept done s h =
    let here : IsEnded (by_sum s) c now m es batch = subst (λ x. IsEnded x c now m es batch) h.1 e in
    let end = ends_here s c now m es batch old new h.0 here.made here.moment here.follows here.batch_is kept in
    (end.0, subst (λ x. HasLog x end.0) (sym (done ∙ ap (λ x. after_commit x m es) h.1)) end.1, end.2)

-- ---- the end of an open session is always made, or refused

abbrev is_quiet : Decision → Bool
is_quiet quiet = true
is_quiet _ = false

not_quiet : (a b : Bool) (f g : Fault) (es : List Entry) → (if a then refused f else (if b then refused g else makes es)) ≡ quiet → ⊥
not_quiet true b f g es e = true≢false (sym (ap is_quiet e))
not_quiet false true f g es e = true≢false (sym (ap is_quiet e))
not_quiet false false f g es e = true≢false (sym (ap is_quiet e))

pub never_quiet : (s : SumState) (c : ClientId) (now : ℕ) → has_open_in c s.sum ≡ true → turn_by s (input.Restart c) now ≡ quiet → ⊥
never_quiet s c now has is = by (find client_cmp c s.sum.sessions) has is where
  by : (o : Option OpenSession) → is_some o ≡ true → limited_by s.sum.number (length s.sum.sessions) (ends_of (option_map live_of o) s.sum.tree (moment_by s.sum now) why.Restart c) ≡ quiet → ⊥
  by None h e = absurd (true≢false (sym h))
  by (Some x) h e = not_quiet _ _ fault.Spent fault.Full _ e
