use Rattle.std.proofs.Common.{rules, tests, ◌≡◌, Bool, true, ◌&&◌, [], ◌∷◌, ◌++◌, take, sym, ap, subst, ◌∙◌}
use Rattle.std.proofs.lemmas.Bool.{and_from, and_parts}
use Rattle.std.proofs.lemmas.List.{take_more, take_all}
use Rattle.std.proofs.lemmas.List.Filters.{dedup_is}
use Rattle.pres_fan.specs.declared.listeners.Listener.{Listener}
use Rattle.pres_fan.specs.Listeners.{is_touched}
use Rattle.pres_fan.specs.Levels.{heard}
use Rattle.pres_fan.proofs.Members.{Tidied, tidied, all_any}
use Rattle.pres_fan.proofs.Walks.{Met, FindsTouched, OnlyTouched, finds_more, only_more}
use Rattle.pres_fan.proofs.index.met.Goals as goal

pub loop-write-preserved : goal.loop-write-preserved
loop-write-preserved c =
    let ws = c.args.writes.now in
    let root = c.args.root.now in
    let i = c.loop-write.write-index in
    let w = c.write-item.result in
    let before = c.loop-write.found.items in
    let after = c.add_met.new.found.items in
    let added = c.in_ok-add_met.ensures in
    let new : Met root [] w.path before after = subst (λ q. Met root [] q before after) (c.keys.ensures.keys ∙ c.path-path.ensures.path) (record { kept = added.kept; met = added.met; only = added.only }) in
    let more = take_more ws i w c.loop-write-test.true ∙ ap (λ q. take i ws ++ q ∷ []) (sym c.write-item.is) in
    subst (λ vs. FindsTouched vs root after × OnlyTouched vs root after) (sym more)
    (finds_more (take i ws) w root before after new c.loop-write.invariant.0, only_more (take i ws) w root before after new c.loop-write.invariant.1)

tidy : (c : goal.After-dedup) → Tidied c.loop-write.found.items c.dedup.new.self.items
tidy c =
    tidied _ (λ k l. search (rules, tests)) c.loop-write.found.items c.sort_unstable.new.self.items c.dedup.new.self.items c.sort_unstable.ensures.permutation c.sort_unstable.ensures.sorted
    (dedup_is _ c.sort_unstable.new.self.items c.dedup.new.self.items c.dedup.ensures.filtered)

found : (c : goal.After-dedup) → FindsTouched c.args.writes.now c.args.root.now c.loop-write.found.items × OnlyTouched c.args.writes.now c.args.root.now c.loop-write.found.items
found c =
    subst (λ vs. FindsTouched vs c.args.root.now c.loop-write.found.items × OnlyTouched vs c.args.root.now c.loop-write.found.items)
    (take_all c.loop-write.write-index c.args.writes.now c.loop-write-test.false) c.loop-write.invariant

pub returns-clause-ordered : goal.returns-clause-ordered
returns-clause-ordered c = (tidy c).ordered

pub returns-clause-all : goal.returns-clause-all
returns-clause-all c = λ l h e. (tidy c).kept l ((found c).0 l h e)

pub returns-clause-only : goal.returns-clause-only
returns-clause-only c = λ l h.
    let test : Listener → Bool = λ m. is_touched c.args.writes.now m.path && heard m.path m.session c.args.root.now in
    and_parts (is_touched c.args.writes.now l.path) _
    (all_any (λ m. test m ≡ true) l c.loop-write.found.items ((found c).1 test (λ m a b. and_from _ _ a b)) ((tidy c).only l h))
