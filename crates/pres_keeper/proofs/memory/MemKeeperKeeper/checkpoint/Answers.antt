use Rattle.std.proofs.Common.{◌≡◌, ◌∙◌, ap, sym, subst}
use Rattle.pres_server.specs.Histories.{History, LeadsTo, begun_at}
use Rattle.pres_keeper.specs.Keepers.{BeginsWith, base_sum, whole}
use Rattle.pres_keeper.proofs.Begins.{begins_later}
use Rattle.pres_keeper.proofs.memory.MemKeeperKeeper.checkpoint.Goals as goal

pub returns-clause-outlasts : goal.returns-clause-outlasts
returns-clause-outlasts c = λ history earlier _ is leads begins.
    let sum = c.args.server.now.sum in
    let base = ap base_sum c.replace.ensures.after ∙ c.in_ok-base.ensures.base in
    let anew : record { base = base_sum c.replace.new.self; log = c.clear.new.self.items } ≡ begun_at sum = λ i. record { base = base i; log = c.clear.ensures.items i } in
    let there : LeadsTo c.args.self.now sum = subst (λ (h : History). LeadsTo h sum) (sym (is tt)) leads in
    subst (λ (h : History). BeginsWith earlier (whole h)) (sym anew) (begins_later earlier c.args.self.now sum there begins)
