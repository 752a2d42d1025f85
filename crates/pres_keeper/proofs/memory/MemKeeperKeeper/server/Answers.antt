use Rattle.std.proofs.Common.{sym, subst}
use Rattle.pres_server.specs.Histories.{History}
use Rattle.pres_keeper.specs.Keepers.{HoldsBase}
use Rattle.pres_keeper.proofs.Running.{replayed, replayed_nulls}
use Rattle.pres_keeper.proofs.memory.MemKeeperKeeper.server.Goals as goal
use Rattle.pres_keeper.proofs.memory.MemKeeperKeeper.server.Goals.{in-Ok-finished, in-Err-finished}

pub returns-clause-nulls : goal.returns-clause-nulls
returns-clause-nulls c =
    let base : HoldsBase c.in-Ok.replay = subst HoldsBase (sym c.in-Ok.ensures.sum) c.self.invariant in
    elim c.match-finished.branch [
      | in-Ok-finished w ↦ rw w.result-is (replayed_nulls c.in-Ok.replay c.deref.result.now w.in-Ok-finished.server base.nulls w.in-Ok-finished.ensures.server w.in-Ok-finished.ensures.legal)
      | in-Err-finished w ↦ rw w.result-is tt
    ]

pub returns-clause-server : goal.returns-clause-server
returns-clause-server c = rw (← c.self.view_is) (
    let base : HoldsBase c.in-Ok.replay = subst HoldsBase (sym c.in-Ok.ensures.sum) c.self.invariant in
    let history : History = record { base = c.in-Ok.replay; log = c.deref.result.now } in
    elim c.match-finished.branch [
      | in-Ok-finished w ↦ rw w.result-is (record {
        history = history;
        leads = replayed c.in-Ok.replay c.deref.result.now w.in-Ok-finished.server base.sum w.in-Ok-finished.ensures.server w.in-Ok-finished.ensures.legal;
        held = λ _ _. λ i. record { base = sym c.in-Ok.ensures.sum i; log = sym c.deref.ensures.value i };
      })
      | in-Err-finished w ↦ rw w.result-is tt
    ])
