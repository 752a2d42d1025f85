use Rattle.std.proofs.Common.{sym, subst}
use Rattle.pres_server.specs.SumStates.{SumState}
use Rattle.pres_server.specs.SumTurns.{FollowsSum, batch_by}
use Rattle.pres_server.specs.Histories.{LeadsTo, with_batch}
use Rattle.pres_keeper.specs.Keepers.{KeepsOneNull}
use Rattle.pres_keeper.specs.Settlements.{history_with}
use Rattle.pres_keeper.proofs.Nulls.{nulls_with}
use Rattle.pres_keeper.proofs.Behind.{leads_turn, may_commit}
use Rattle.pres_keeper.proofs.settlement.settle.Goals as goal

pub returns-in-Err-clause-crash : goal.returns-in-Err-clause-crash
returns-in-Err-clause-crash g c = λ history makes ready keeps.
    let may = may_commit history c.args.busy.state.sum c.batch.result.now makes c.batch.ensures.follows in
    subst (λ b. g.K.Keeper.leaves c.args.keeper.now (with_batch history b) c.commit.new.self) c.batch.ensures.made (c.commit.ensures.crash history ready keeps may.0 may.1)

pub returns-in-Ok-done-clause-leads : goal.returns-in-Ok-done-clause-leads
returns-in-Ok-done-clause-leads g c = λ history makes.
    subst (λ (s : SumState). LeadsTo (history_with history c.args.busy) s.sum) (sym c.in-Ok-done.ensures.server)
    (leads_turn history c.args.busy.state.sum c.args.busy.moment c.args.busy.made c.batch.result.now makes c.batch.ensures.follows c.batch.ensures.made)

pub returns-in-Ok-done-clause-kept : goal.returns-in-Ok-done-clause-kept
returns-in-Ok-done-clause-kept g c = λ history makes ready works keeps.
    let may = may_commit history c.args.busy.state.sum c.batch.result.now makes c.batch.ensures.follows in
    subst (λ b. g.K.Keeper.keeps c.commit.new.self (with_batch history b)) c.batch.ensures.made (c.in-Ok.ensures.ok history ready works keeps may.0 may.1)

pub returns-in-Ok-done-clause-crash : goal.returns-in-Ok-done-clause-crash
returns-in-Ok-done-clause-crash g c = λ history makes ready keeps.
    let may = may_commit history c.args.busy.state.sum c.batch.result.now makes c.batch.ensures.follows in
    subst (λ b. g.K.Keeper.leaves c.args.keeper.now (with_batch history b) c.commit.new.self) c.batch.ensures.made (c.commit.ensures.crash history ready keeps may.0 may.1)

pub returns-in-Ok-done-clause-durable : goal.returns-in-Ok-done-clause-durable
returns-in-Ok-done-clause-durable g c = λ history makes ready keeps.
    let may = may_commit history c.args.busy.state.sum c.batch.result.now makes c.batch.ensures.follows in
    subst (λ b. g.K.Keeper.outlasts c.commit.new.self (with_batch history b)) c.batch.ensures.made (c.in-Ok.ensures.durable history ready keeps may.0 may.1)

pub returns-in-Err-done-clause-refused : goal.returns-in-Err-done-clause-refused
returns-in-Err-done-clause-refused g c = λ history makes ready works keeps.
    let may = may_commit history c.args.busy.state.sum c.batch.result.now makes c.batch.ensures.follows in
    subst (λ b. g.K.Keeper.keeps c.commit.new.self (with_batch history b)) c.batch.ensures.made (c.in-Ok.ensures.ok history ready works keeps may.0 may.1)

pub returns-in-Err-done-clause-crash : goal.returns-in-Err-done-clause-crash
returns-in-Err-done-clause-crash g c = λ history makes ready keeps.
    let may = may_commit history c.args.busy.state.sum c.batch.result.now makes c.batch.ensures.follows in
    subst (λ b. g.K.Keeper.leaves c.args.keeper.now (with_batch history b) c.commit.new.self) c.batch.ensures.made (c.commit.ensures.crash history ready keeps may.0 may.1)

pub returns-in-Ok-done-clause-nulls : goal.returns-in-Ok-done-clause-nulls
returns-in-Ok-done-clause-nulls g c = λ nulls.
    let sum = c.args.busy.state.sum in
    subst (λ (s : SumState). KeepsOneNull s.sum) (sym c.in-Ok-done.ensures.server)
    (nulls_with sum (batch_by sum c.args.busy.moment c.args.busy.made) (subst (FollowsSum sum) c.batch.ensures.made c.batch.ensures.follows) nulls)

pub returns-in-Err-done-clause-lasts : goal.returns-in-Err-done-clause-lasts
returns-in-Err-done-clause-lasts g c = λ history makes ready keeps.
    let may = may_commit history c.args.busy.state.sum c.batch.result.now makes c.batch.ensures.follows in
    subst (λ b. g.K.Keeper.outlasts c.commit.new.self (with_batch history b)) c.batch.ensures.made (c.in-Ok.ensures.durable history ready keeps may.0 may.1)
