-- Sessions that were ended since a call began, in its loops.
use Rattle.std.proofs.Common.{refl, sym, ◌∙◌, ap, subst, ◌≡◌, ℕ, List, [], Option, Some}
use Rattle.pres_wire.specs.declared.down.Down.{Down}
use Rattle.pres_ids.specs.Ids.{ClientId}
use Rattle.pres_server.specs.Histories.{History}
use Rattle.pres_server.specs.declared.input.Input.TheVariants as input
use Rattle.pres_server.specs.ServerStates.{first_client}
use Rattle.pres_server.specs.SumStates.{SumState}
use Rattle.pres_ring.specs.Lines.{Lines}
use Rattle.pres_keeper.specs.Engines.{EngineState, Runs, IsHistoryOf}
use Rattle.pres_keeper.specs.EngineTurns.{IsTurnDone, history_turned}
use Rattle.pres_dispatch.specs.Dispatches.{DispatcherState, Histories, both, Stands, NoneSlow, AreEnded, histories_ended, AreRestarted, history_restarted}
use Rattle.pres_dispatch.proofs.Ended.{Before, restarted_by}

module _ {A : Type 0} (works : A → Type 0) (keeps : A → History → Type 0) (now : ℕ) where
  -- ---- slow sessions

  -- what is ended from here on is ended from the beginning on, and histories that stood then go on to some that stand here
  abbrev pub EndedSince : DispatcherState A → DispatcherState A → Type 0
  EndedSince old here =
      (after : Option SumState) (behind : Lines) (h : AreEnded now here.run.server after here.lines behind)
      → (e : AreEnded now old.run.server after old.lines behind) × ((histories : Histories) → Stands works keeps histories old → (on : Histories) × Stands works keeps on here × (histories_ended histories e ≡ histories_ended on h))

  pub ended_first : (old : DispatcherState A) → EndedSince old old
  ended_first old after behind h = (h, λ histories stands. (histories, stands, refl))

  pub ended_more : (old here new : DispatcherState A) (on : History → History) → EndedSince old here
      → ((after : Option SumState) (behind : Lines) (h : AreEnded now new.run.server after new.lines behind) → Before now here.run.server new.run.server after here.lines new.lines behind on h)
      → ((histories : Histories) → Stands works keeps histories here → Stands works keeps (both on histories) new) → EndedSince old new
  ended_more old here new on since step goes after behind h =
      let b = step after behind h in
      let e = since after behind b.0 in (
        e.0,
        λ histories stands.
            let k = e.1 histories stands in
            let next : histories_ended k.0 b.0 ≡ histories_ended (both on k.0) h = λ i. record { kept = b.1 k.0.kept i; since_start = b.1 k.0.since_start i } in
            (both on k.0, goes k.0 k.1, k.2 ∙ next),
      )

  -- none is slow any more
  pub ended_last : (old here new : DispatcherState A) → EndedSince old here → new ≡ here → NoneSlow new.lines
      → (e : AreEnded now old.run.server new.run.server old.lines new.lines) × ((histories : Histories) → Stands works keeps histories old → Stands works keeps (histories_ended histories e) new)
  ended_last old here new since is none =
      let e = since new.run.server new.lines (record { sessions = []; ends = (ap (λ (x : DispatcherState A). x.run.server) is, ap (λ (x : DispatcherState A). x.lines) is, none) }) in
      (e.0, λ histories stands. let k = e.1 histories stands in subst (λ h. Stands works keeps h new) (sym k.2) (subst (Stands works keeps k.0) (sym is) k.1))

  -- ---- the start

  -- what is ended from here on is ended from the beginning on, and each history that was kept then goes on to one that is kept here
  abbrev pub RestartedSince : EngineState A → EngineState A → Type 0
  RestartedSince old here =
      (after : Option SumState) (h : AreRestarted now here.server after)
      → (e : AreRestarted now old.server after)
      × ((history : History) → IsHistoryOf history old.server → works here.keeper → keeps old.keeper history → (on : History) × IsHistoryOf on here.server × keeps here.keeper on × (history_restarted history e ≡ history_restarted on h))

  pub restarted_first : (old : EngineState A) → RestartedSince old old
  restarted_first old after h = (h, λ history is w k. (history, is, k, refl))

  pub restarted_more : (old here new : EngineState A) (c : ClientId) (outs : List Down) → RestartedSince old here → Runs (λ s. first_client s.heard ≡ Some c) here.server → IsTurnDone here.server (input.Restart c) now new.server outs
      → (works new.keeper → works here.keeper)
      → ((history : History) → IsHistoryOf history here.server → IsHistoryOf (history_turned history here.server (input.Restart c) now) new.server)
      → ((history : History) → IsHistoryOf history here.server → works new.keeper → keeps here.keeper history → keeps new.keeper (history_turned history here.server (input.Restart c) now))
      → RestartedSince old new
  restarted_more old here new c outs since first turned worked leads kept after h =
      let b = restarted_by now c here.server new.server after outs first turned h in
      let e = since after b.0 in (
        e.0,
        λ history is w k.
            let on = e.1 history is (worked w) k in
            (history_turned on.0 here.server (input.Restart c) now, leads on.0 on.1, kept on.0 on.1 w on.2, on.3 ∙ b.1 on.0),
      )

  -- so far
  pub restarted_last : (old here : EngineState A) → RestartedSince old here
      → (e : AreRestarted now old.server here.server)
      × ((history : History) → IsHistoryOf history old.server → works here.keeper → keeps old.keeper history → IsHistoryOf (history_restarted history e) here.server × keeps here.keeper (history_restarted history e))
  restarted_last old here since =
      let e = since here.server (record { clients = []; ends = refl }) in (
        e.0,
        λ history is w k.
            let on = e.1 history is w k in
            (subst (λ h. IsHistoryOf h here.server) (sym on.3) on.1, subst (keeps here.keeper) (sym on.3) on.2),
      )
