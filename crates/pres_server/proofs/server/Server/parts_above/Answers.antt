use Rattle.std.proofs.Common.{sym, ◌∙◌, ap, subst, ◌≡◌, ℕ, List}
use Rattle.std.specs.List.{All}
use Rattle.std.specs.FinMap.Entries.{find}
use Rattle.pres_ids.specs.declared.id.Stamp.{Stamp}
use Rattle.pres_ids.specs.Ids.{ClientId, client_cmp}
use Rattle.pres_plan.specs.Plans.{IsPlan}
use Rattle.pres_base.specs.declared.parts.BaseParts.{BaseParts}
use Rattle.pres_base.specs.AnswersApart.{parts_above}
use Rattle.pres_server.specs.InternalParts.{Part}
use Rattle.pres_server.specs.InternalSums.{sum_in}
use Rattle.pres_server.specs.InternalBases.{AreLasts, parts_of}
use Rattle.pres_server.specs.Sums.{Sum, OpenSession}
use Rattle.pres_server.specs.SumStates.{SumState}
use Rattle.pres_server.proofs.Based.{clients_above, answers_rise}
use Rattle.pres_server.proofs.SumServers.{part_is, batches_small, number_small}
use Rattle.pres_server.proofs.server.Server.parts_above.Goals as goal

pub count_of-batches-requires : goal.count_of-batches-requires
count_of-batches-requires c =
    let i = c.self.inside in
    batches_small (sum_in i.batches i.moment i.number i.index) c.self.invariant

pub count_of-number-requires : goal.count_of-number-requires
count_of-number-requires c =
    let i = c.self.inside in
    number_small i.batches i.moment i.number i.index c.self.invariant

-- the answers that were made after number 0 rise
pub client_parts-requires : goal.client_parts-requires
client_parts-requires c client = answers_rise c.self.inside.number (find client_cmp client c.self.inside.index.retry) (c.self.invariant.keeps.answers client)

-- some last stamps with which the parts are those of the sum's base, with the answers alone that were made after the number
abbrev Made : ℕ → BaseParts → Sum → Type 0
Made above parts sum = (lasts : List (ClientId × Stamp)) × AreLasts sum lasts × (parts ≡ parts_above above (parts_of sum lasts))

pub returns-clause-parts : goal.returns-clause-parts
returns-clause-parts c =
    let i = c.self.inside in
    let made = c.in_ok-clients.ensures in
    let lasts = made.0 in
    let parts : BaseParts = record { batches = c.count_of-batches.result; moment = i.moment; number = c.count_of-number.result; tree = c.in_ok-tree.tree; clients = c.in_ok-clients.clients; sessions = c.in_ok-sessions.sessions } in
    subst (λ (x : SumState). Made c.args.above parts x.sum) c.self.view_is (
      lasts,
      record { ordered = made.1.ordered; found = λ q. made.1.found q ∙ ap (λ (p : Part). p.last) (sym (part_is i.batches i.moment i.number i.index q)) },
      λ j. record {
        batches = c.count_of-batches.ensures j;
        moment = i.moment;
        number = c.count_of-number.ensures j;
        tree = c.in_ok-tree.ensures j;
        clients = (made.2 ∙ clients_above c.args.above i.index.retry lasts) j;
        sessions = c.in_ok-sessions.ensures.parts j;
      },
    )

pub returns-clause-plans : goal.returns-clause-plans
returns-clause-plans c = subst (λ (x : SumState). All (λ (e : ClientId × OpenSession). IsPlan e.1.plan) x.sum.sessions) c.self.view_is c.in_ok-sessions.ensures.plans
