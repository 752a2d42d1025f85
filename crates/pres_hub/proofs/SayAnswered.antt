-- A seat's message: whether it was accepted, by the numbers before and after it.
use Rattle.std.proofs.Common.{refl, ◌∙◌, ap, subst, ◌≡◌, ◌≤◌, ◌<◌, ◌+◌, ℕ, List, [], ◌∷◌, length, false, Option, Some, None, IfSome, arith}
use Rattle.pres_wire.specs.declared.down.Down.{Down}
use Rattle.pres_wire.specs.declared.up.Up.{Up}
use Rattle.pres_wire.specs.Messages.{session_in, q_in}
use Rattle.pres_log.specs.declared.entry.Entry.{Entry}
use Rattle.pres_server.specs.declared.input.Input.TheVariants as input
use Rattle.pres_server.specs.InternalFollows.{MayComeTogetherBy}
use Rattle.pres_server.specs.Turns.{Decision, refused, quiet, makes}
use Rattle.pres_server.specs.Sums.{Sum, accepted_in, part_in, paths_in}
use Rattle.pres_server.specs.SumStates.{SumState}
use Rattle.pres_server.specs.SumTurns.{FollowsSum, turn_by, moment_by, batch_by, after_commit}
use Rattle.pres_server.specs.Histories.{IsSum}
use Rattle.pres_ring.specs.AcceptedMessages.{is_hello}
use Rattle.pres_ring.proofs.TurnsBy.{made_is_next}
use Rattle.pres_keeper.specs.Engines.{Runs}
use Rattle.pres_keeper.specs.EngineTurns.{IsDone, IsTurnDone}
use Rattle.pres_dispatch.proofs.Behind.{number_after, follows_by}
use Rattle.pres_hub.specs.CoreCalls.{accepted_by, accepted_of, HasSameCount}

some_made : (sum : Sum) (m : ℕ) (xs : List Entry) → MayComeTogetherBy (part_in sum) (paths_in sum) (length sum.sessions) sum.tree m xs → 1 ≤ length xs
some_made sum m [] t = absurd t
some_made sum m (e ∷ xs) t = omega (arith)

-- a batch that may follow has entries
pub grown : (s : SumState) (m : ℕ) (es : List Entry) → FollowsSum s.sum (batch_by s.sum m es) → s.sum.number < (after_commit s m es).sum.number
grown s m es follows =
    let some : 1 ≤ length es = some_made s.sum m es follows.allowed in
    let more : (after_commit s m es).sum.number ≡ s.sum.number + length es = number_after es s.sum in
    omega (arith, some, more)

number_of : (n : ℕ) (new : Option SumState) (state : SumState) → Runs (λ s. n ≡ s.sum.number) new → new ≡ Some state → n ≡ state.sum.number
number_of n new state counted e = subst (Runs (λ s. n ≡ s.sum.number)) e counted

-- one after whose turn the number is greater was accepted, as the next message of its session
pub was_accepted : (old new : Option SumState) (m : Up) (now q before after : ℕ) (outs : List Down) → is_hello m ≡ false → HasSameCount m q old → IsTurnDone old (input.Up m) now new outs
    → Runs (λ s. before ≡ s.sum.number) old → Runs (λ s. after ≡ s.sum.number) new → before < after → (accepted_of old m now ≡ 1) × (q_in m ≡ Some (q + 1))
was_accepted None new m now q before after outs hello abreast turned b a less = absurd turned
was_accepted (Some s) new m now q before after outs hello abreast turned b a less = by (turn_by s (input.Up m) now) refl turned where
  by : (d : Decision) → turn_by s (input.Up m) now ≡ d → IsDone d s (moment_by s.sum now) (input.Up m) new outs → (accepted_of (Some s) m now ≡ 1) × (q_in m ≡ Some (q + 1))
  by (refused f) k done = absurd done
  by quiet k done = let same : after ≡ s.sum.number = number_of after new _ a done.0 in absurd (omega (arith, same, b, less))
  by (makes es) k done =
      let next = made_is_next s m now es hello k in
      let is : next.0 ≡ q = subst (λ o. IfSome o (λ n. n ≡ q)) next.1 abreast in
      (ap accepted_by k, next.2 ∙ ap (λ n. Some (n + 1)) is)

-- one after whose turn the number is as before wasn't
pub was_none : (old new : Option SumState) (m : Up) (now before after : ℕ) (outs : List Down) → IsTurnDone old (input.Up m) now new outs → Runs (λ s. IsSum s.sum) old
    → Runs (λ s. before ≡ s.sum.number) old → Runs (λ s. after ≡ s.sum.number) new → after ≤ before → accepted_of old m now ≡ 0
was_none None new m now before after outs turned summed b a less = refl
was_none (Some s) new m now before after outs turned summed b a less = by (turn_by s (input.Up m) now) refl turned where
  by : (d : Decision) → turn_by s (input.Up m) now ≡ d → IsDone d s (moment_by s.sum now) (input.Up m) new outs → accepted_of (Some s) m now ≡ 0
  by (refused f) k done = absurd done
  by quiet k done = ap accepted_by k
  by (makes es) k done =
      let more = grown s (moment_by s.sum now) es (follows_by s summed (input.Up m) now es k) in
      let is : after ≡ (after_commit s (moment_by s.sum now) es).sum.number = number_of after new (after_commit s (moment_by s.sum now) es) a done.0 in
      absurd (omega (arith, more, is, b, less))
