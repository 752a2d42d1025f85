-- the row stands last of those that the map has for the client
use Rattle.std.proofs.Common.{◌≡◌, ◌++◌, [], ◌∷◌, sym, ◌∙◌, ap, Some, None}
use Rattle.std.specs.BTreeMap.{is_at}
use Rattle.std.specs.FinMap.Entries.{put}
use Rattle.std.proofs.lemmas.Map.Steps.{set_value_same}
use Rattle.std.proofs.lemmas.Result.{MatchResult-weaker, on_ok_weaker}
use Rattle.pres_ids.specs.Ids.{client_cmp}
use Rattle.pres_retry.proofs.Puts.{put_insert, put_known}
use Rattle.pres_retry.proofs.Records.{clients_total, rows_at}
use Rattle.pres_retry.proofs.table.push.Goals as goal

pub returns-in-Some-clause-pushed : goal.returns-in-Some-clause-pushed
returns-in-Some-clause-pushed c =
    let entries = c.args.clients.now.entries in
    let longer = c.push.new.self in
    let old = c.in-Some.answers.now in
    on_ok_weaker c.push.result
    (λ (pushed : longer ≡ old ++ c.args.new ∷ []).
    (c.get_mut.follows.holds longer).0
    ∙ put_known client_cmp clients_total c.args.client longer old entries c.get_mut.ensures.ordered (sym c.in-Some.ensures.value)
    ∙ ap (λ rows. put client_cmp c.args.client rows entries)
    (pushed ∙ ap (λ rows. rows ++ c.args.new ∷ []) (sym (rows_at c.args.client entries (Some old) (sym c.in-Some.ensures.value)))))
    c.push.ensures.pushed

pub returns-in-Some-clause-err : goal.returns-in-Some-clause-err
returns-in-Some-clause-err c =
    let entries = c.args.clients.now.entries in
    let same = c.push.new.self in
    MatchResult-weaker c.push.result c.push.ensures.err (λ _ _. tt)
    (λ e p. (p.0, (c.get_mut.follows.holds same).0 ∙ set_value_same (is_at (client_cmp c.args.client)) entries same (sym c.in-Some.ensures.value ∙ ap (λ rows. Some rows) (sym p.1))))

pub returns-clause-pushed : goal.returns-clause-pushed
returns-clause-pushed c =
    let one = c.push-2.new.self in
    let first = c.in_ok-push.ensures.pushed ∙ ap (λ rows. rows ++ c.args.new ∷ []) (c.new-answers.ensures ∙ sym (rows_at c.args.client c.args.clients.now.entries None (sym c.in_default.ensures.value))) in
    c.in_ok-insert.ensures.entries
    ∙ put_insert client_cmp c.args.client one c.get_mut.follows.lender-at-none.entries
    ∙ (λ i. put client_cmp c.args.client (first i) (c.get_mut.follows.holds-at-none i).entries)
