use Rattle.std.proofs.Common.{sym, subst}
use Rattle.pres_log.specs.Logs.{Log}
use Rattle.pres_server.specs.Sums.{Sum}
use Rattle.pres_server.specs.SumStates.{SumState}
use Rattle.pres_server.specs.SumTurns.{FollowAll}
use Rattle.pres_server.proofs.Grouped.{state_sum}
use Rattle.pres_server.specs.Histories.{LeadsTo, with_batches}
use Rattle.pres_keeper.specs.Keepers.{KeepsOneNull}
use Rattle.pres_keeper.proofs.Nulls.{nulls_from}
use Rattle.pres_keeper.proofs.Behind.{leads_group, may_commit_all}
use Rattle.pres_keeper.proofs.settlement.settle_all.Goals as goal

pub returns-in-Err-clause-crash : goal.returns-in-Err-clause-crash
returns-in-Err-clause-crash g c = λ history makes ready keeps.
    let may = may_commit_all history c.args.group.state.sum c.batches.result.now makes c.batches.ensures.follow in
    subst (λ (bs : Log). g.K.Keeper.leaves c.args.keeper.now (with_batches history bs) c.commit_all.new.self) c.batches.ensures.batches (c.commit_all.ensures.crash history ready keeps may)

pub returns-in-Ok-done-clause-leads : goal.returns-in-Ok-done-clause-leads
returns-in-Ok-done-clause-leads g c = λ history makes.
    let state = c.args.group.state in
    let batches = c.args.group.batches in
    let follow : FollowAll state.sum batches = subst (FollowAll state.sum) c.batches.ensures.batches c.batches.ensures.follow in
    subst (λ (s : SumState). LeadsTo (with_batches history batches) s.sum) (sym c.in-Ok-done.ensures.server)
    (subst (λ (s : Sum). LeadsTo (with_batches history batches) s) (sym (state_sum batches state)) (leads_group history state.sum batches makes follow))

pub returns-in-Ok-done-clause-kept : goal.returns-in-Ok-done-clause-kept
returns-in-Ok-done-clause-kept g c = λ history makes ready works keeps.
    let may = may_commit_all history c.args.group.state.sum c.batches.result.now makes c.batches.ensures.follow in
    subst (λ (bs : Log). g.K.Keeper.keeps c.commit_all.new.self (with_batches history bs)) c.batches.ensures.batches (c.in-Ok.ensures.ok history ready works keeps may)

pub returns-in-Ok-done-clause-crash : goal.returns-in-Ok-done-clause-crash
returns-in-Ok-done-clause-crash g c = λ history makes ready keeps.
    let may = may_commit_all history c.args.group.state.sum c.batches.result.now makes c.batches.ensures.follow in
    subst (λ (bs : Log). g.K.Keeper.leaves c.args.keeper.now (with_batches history bs) c.commit_all.new.self) c.batches.ensures.batches (c.commit_all.ensures.crash history ready keeps may)

pub returns-in-Ok-done-clause-durable : goal.returns-in-Ok-done-clause-durable
returns-in-Ok-done-clause-durable g c = λ history makes ready keeps.
    let may = may_commit_all history c.args.group.state.sum c.batches.result.now makes c.batches.ensures.follow in
    subst (λ (bs : Log). g.K.Keeper.outlasts c.commit_all.new.self (with_batches history bs)) c.batches.ensures.batches (c.in-Ok.ensures.durable history ready keeps may)

pub returns-in-Err-done-clause-refused : goal.returns-in-Err-done-clause-refused
returns-in-Err-done-clause-refused g c = λ history makes ready works keeps.
    let may = may_commit_all history c.args.group.state.sum c.batches.result.now makes c.batches.ensures.follow in
    subst (λ (bs : Log). g.K.Keeper.keeps c.commit_all.new.self (with_batches history bs)) c.batches.ensures.batches (c.in-Ok.ensures.ok history ready works keeps may)

pub returns-in-Err-done-clause-crash : goal.returns-in-Err-done-clause-crash
returns-in-Err-done-clause-crash g c = λ history makes ready keeps.
    let may = may_commit_all history c.args.group.state.sum c.batches.result.now makes c.batches.ensures.follow in
    subst (λ (bs : Log). g.K.Keeper.leaves c.args.keeper.now (with_batches history bs) c.commit_all.new.self) c.batches.ensures.batches (c.commit_all.ensures.crash history ready keeps may)

pub returns-in-Ok-done-clause-nulls : goal.returns-in-Ok-done-clause-nulls
returns-in-Ok-done-clause-nulls g c = λ nulls.
    let state = c.args.group.state in
    let batches = c.args.group.batches in
    let follow : FollowAll state.sum batches = subst (FollowAll state.sum) c.batches.ensures.batches c.batches.ensures.follow in
    subst (λ (s : SumState). KeepsOneNull s.sum) (sym c.in-Ok-done.ensures.server)
    (subst KeepsOneNull (sym (state_sum batches state)) (nulls_from batches state.sum follow nulls))

pub returns-in-Err-done-clause-lasts : goal.returns-in-Err-done-clause-lasts
returns-in-Err-done-clause-lasts g c = λ history makes ready keeps.
    let may = may_commit_all history c.args.group.state.sum c.batches.result.now makes c.batches.ensures.follow in
    subst (λ (bs : Log). g.K.Keeper.outlasts c.commit_all.new.self (with_batches history bs)) c.batches.ensures.batches (c.in-Ok.ensures.durable history ready keeps may)
