use Rattle.std.proofs.Common.{rules, ◌≡◌, true, false, refl, sym, ◌∙◌, map}
use Rattle.std.proofs.lemmas.List.Sorted.{answers_always}
use Rattle.pres_wire.specs.Values.{rise}
use Rattle.pres_wire.proofs.Rising.{before, rising_answer}
use Rattle.pres_wire.proofs.values.Values.new.Goals as goal

pub returns-then-not-is_sorted_by : goal.returns-then-not-is_sorted_by
returns-then-not-is_sorted_by c =
    let answer : rise (map (λ v. v.path) c.args.items.items) ≡ c.is_sorted_by.result =
    rising_answer c.args.items.items c.deref.result.now c.is_sorted_by.result c.deref.ensures.value (c.is_sorted_by.ensures.cases before (answers_always _ _ _ (λ f a r g h. search rules))) in
    λ up. let no : false ≡ true = sym (answer ∙ c.if-not-is_sorted_by.true) ∙ up in cc

pub invariant_of-result : goal.invariant_of-result
invariant_of-result c =
    rising_answer c.args.items.items c.deref.result.now c.is_sorted_by.result c.deref.ensures.value (c.is_sorted_by.ensures.cases before (answers_always _ _ _ (λ f a r g h. search rules))) ∙ c.if-not-is_sorted_by.false

pub returns : goal.returns
returns c =
    (rising_answer c.args.items.items c.deref.result.now c.is_sorted_by.result c.deref.ensures.value (c.is_sorted_by.ensures.cases before (answers_always _ _ _ (λ f a r g h. search rules))) ∙ c.if-not-is_sorted_by.false, refl)
