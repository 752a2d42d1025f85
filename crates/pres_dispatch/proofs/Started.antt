-- What a start makes of the history that the keeper holds.
use Rattle.std.proofs.Common.{sym, ◌∙◌, ap, subst, ◌≡◌, ℕ, true, [], Option, Some, None, is_some, unwrap_or, inr}
use Rattle.pres_server.specs.Replays.{resumed}
use Rattle.pres_server.specs.SumStates.{SumState}
use Rattle.pres_server.specs.Histories.{History}
use Rattle.pres_faults.specs.declared.engine_fault.EngineFault.{EngineFault}
use Rattle.pres_keeper.specs.Keepers.{Readable, whole, SomeHistory}
use Rattle.pres_keeper.specs.Engines.{EngineState, Runs, IsHistoryOf}
use Rattle.pres_dispatch.specs.Dispatches.{DispatcherState, Stands, AreRestarted, StopsAtStart, IsNotStarted, last_sum, started_with, history_restarted}

-- the server of a history that the keeper holds
pub server_is : (history : History) (server : Option SumState) → is_some server ≡ true → Runs (λ s. s ≡ resumed s.sum) server → IsHistoryOf history server → server ≡ Some (resumed (last_sum history))
server_is history None is made leads = absurd (cc is)
server_is history (Some s) is made leads = ap Some (made ∙ ap resumed (sym leads.there))

-- what is read to its end is one history
one_history : (a b : History) → whole a ≡ whole b → a ≡ b
one_history a b same = ap history_in same where
  history_in : Readable → History
  history_in held = record { base = unwrap_or held.base a.base; log = held.batches }

module _ {A : Type 0} (works : A → Type 0) (keeps : A → History → Type 0) (now : ℕ) where
  -- the history with what the start makes explains the lines, of which there is none
  pub started : (before after : EngineState A) (held : DispatcherState A) (history : History) → held ≡ record { run = after; lines = [] } → before.server ≡ Some (resumed (last_sum history))
      → (e : AreRestarted now before.server after.server) × IsHistoryOf (history_restarted history e) after.server × keeps after.keeper (history_restarted history e)
      → ((h : History) → IsHistoryOf h after.server → (works after.keeper → keeps after.keeper h) → Stands works keeps (started_with h) held)
      → (e : AreRestarted now (Some (resumed (last_sum history))) held.run.server) × Stands works keeps (started_with (history_restarted history e)) held
  started before after held history is server ended stands =
      subst (λ (h : DispatcherState A). (e : AreRestarted now (Some (resumed (last_sum history))) h.run.server) × Stands works keeps (started_with (history_restarted history e)) h) (sym is)
      (subst (λ o. (e : AreRestarted now o after.server) × Stands works keeps (started_with (history_restarted history e)) (record { run = after; lines = [] })) server
      (ended.0, subst (Stands works keeps (started_with (history_restarted history ended.0))) is (stands (history_restarted history ended.0) ended.1 (λ w. ended.2))))

  -- a start that stops at a client, over the one history that was kept
  pub not_started : (held : Readable) (kept : History → Type 0) (keeps_now : History → Type 0) (before : EngineState A) (fault : EngineFault) → ((history : History) → kept history → held ≡ whole history)
      → is_some before.server ≡ true → Runs (λ s. s ≡ resumed s.sum) before.server → Runs (λ s. SomeHistory (λ history. (held ≡ whole history) × keeps before.keeper history) s.sum) before.server
      → ((history : History) → IsHistoryOf history before.server → keeps before.keeper history → StopsAtStart keeps_now now history before.server fault)
      → IsNotStarted held kept keeps_now now fault
  not_started held kept keeps_now before fault is_read is made some stops = by before.server is made some stops where
    by : (o : Option SumState) → is_some o ≡ true → Runs (λ s. s ≡ resumed s.sum) o → Runs (λ s. SomeHistory (λ history. (held ≡ whole history) × keeps before.keeper history) s.sum) o
        → ((history : History) → IsHistoryOf history o → keeps before.keeper history → StopsAtStart keeps_now now history o fault) → IsNotStarted held kept keeps_now now fault
    by None is made some stops = absurd (cc is)
    by (Some s) is made some stops = inr (
      some.history,
      λ other k. one_history some.history other (sym some.held.0 ∙ is_read other k),
      subst (λ o. StopsAtStart keeps_now now some.history o fault) (server_is some.history (Some s) is made some.leads) (stops some.history some.leads some.held.1),
    )
