-- Sessions of clients that have none open, and the ends of the others.
use Rattle.std.proofs.Common.{refl, sym, ◌∙◌, ap, subst, ◌≡◌, ◌≤◌, ◌+◌, ◌-◌, ◌^◌, ℕ, List, true, false, Option, Some, None, is_some, arith}
use Rattle.std.specs.Option.{option_map}
use Rattle.std.specs.FinMap.Entries.{find}
use Rattle.pres_ids.specs.declared.id.SessionId.{SessionId}
use Rattle.pres_ids.specs.Ids.{ClientId, client_cmp, stamp_of}
use Rattle.pres_wire.specs.declared.down.Down.{Down}
use Rattle.pres_server.specs.declared.input.Input.TheVariants as input
use Rattle.pres_server.specs.Turns.{Decision, refused, quiet, makes}
use Rattle.pres_server.specs.InternalParts.{is_live}
use Rattle.pres_server.specs.Sums.{Sum, OpenSession, live_of, is_open_in, has_open_in, sum_after_all}
use Rattle.pres_server.specs.SumStates.{SumState}
use Rattle.pres_server.specs.SumTurns.{turn_by, moment_by, after_commit}
use Rattle.pres_server.specs.Histories.{IsSum}
use Rattle.pres_ring.specs.LawsByTheSum.{EndsAtRestartBy}
use Rattle.pres_ring.proofs.TurnsBy.{restart_ends}
use Rattle.pres_keeper.specs.Engines.{Runs}
use Rattle.pres_keeper.specs.EngineTurns.{IsDone, IsTurnDone}

pub none_open : (sum : Sum) → ((c : ClientId) → has_open_in c sum ≡ false) → (t : SessionId) → is_open_in t sum ≡ false
none_open sum none t = by (find client_cmp t.client sum.sessions) (none t.client) where
  by : (o : Option OpenSession) → is_some o ≡ false → is_live (option_map live_of o) (stamp_of t) ≡ false
  by None h = refl
  by (Some session) h = absurd (cc h)

-- a session that ends takes a number, and there is one left
pub one_more : (old new : Option SumState) (c : ClientId) (now before after : ℕ) (outs : List Down) → Runs (λ s. has_open_in c s.sum ≡ true) old → IsTurnDone old (input.Restart c) now new outs
    → Runs (λ s. IsSum s.sum) new → Runs (λ s. before ≡ s.sum.number) old → Runs (λ s. after ≡ s.sum.number) new → (after ≡ before + 1) × (after ≤ 2 ^ 52 - 1)
one_more None new c now before after outs has turned sums b a = absurd turned
one_more (Some s) new c now before after outs has turned sums b a = by (turn_by s (input.Restart c) now) refl turned where
  ending : (t : SessionId) × EndsAtRestartBy s c now t
  ending = restart_ends s c now has

  by : (d : Decision) → turn_by s (input.Restart c) now ≡ d → IsDone d s (moment_by s.sum now) (input.Restart c) new outs → (after ≡ before + 1) × (after ≤ 2 ^ 52 - 1)
  by (refused f) k done = absurd done
  by quiet k done = absurd (ending.1.2.not_quiet k)
  by (makes es) k done =
      let state = after_commit s (moment_by s.sum now) es in
      let alone = ending.1.2.alone es k in
      let is : after ≡ state.sum.number = subst (Runs (λ x. after ≡ x.sum.number)) done.0 a in
      let more : state.sum.number ≡ s.sum.number + 1 = ap (λ xs. (sum_after_all xs s.sum).number) alone in
      let room = (subst (Runs (λ x. IsSum x.sum)) done.0 sums).room in
      (is ∙ more ∙ ap (λ n. n + 1) (sym b), omega (arith, is, room))
