-- the number stands last, also where all take eight bytes from then on
use Rattle.std.proofs.Common.{◌≡◌, ◌++◌, ◌+◌, All, map, [], ◌∷◌, sym, ◌∙◌, ap, subst, if◌then◌else◌}
use Rattle.std.proofs.lemmas.List.Elements.{All-push}
use Rattle.pres_ids.specs.Numbers.{IsNumber}
use Rattle.pres_retry.specs.Offsets.{numbers_from}
use Rattle.pres_retry.proofs.Offsets.{from_zero}
use Rattle.pres_retry.proofs.shelf.Shelf.push.Goals.{Joined-self}
use Rattle.pres_retry.proofs.shelf.Shelf.push.Goals as goal

-- what the wide numbers are
wide : (c : Joined-self) → map (λ o. 0 + o) c.push.new.self.items ≡ numbers_from c.self.inside.start c.self.inside.offsets ++ c.get-value.result ∷ []
wide c =
    let start = c.start_with-self-inside.result in
    let same : numbers_from start c.append.new.offsets ≡ numbers_from c.self.inside.start c.self.inside.offsets =
    c.in_ok-append.ensures.pushed
    ∙ ap (λ fits. if fits then numbers_from start c.self.inside.offsets ++ c.get-value.result ∷ [] else numbers_from start c.self.inside.offsets) c.if-branch.false
    ∙ c.start_with-self-inside.ensures in
    from_zero c.push.new.self.items
    ∙ c.in_ok-push.ensures.items
    ∙ ap (λ numbers. numbers ++ c.get-value.result ∷ []) (c.in_ok-numbers.ensures ∙ same)

pub invariant_of-self-2 : goal.invariant_of-self-2
invariant_of-self-2 c =
    let inside = c.self.inside in
    subst (All IsNumber) (sym (wide c)) (All-push IsNumber (numbers_from inside.start inside.offsets) c.get-value.result c.self.invariant (subst IsNumber (sym c.get-value.ensures.value) c.get-value.ensures.number))

pub returns-clause-pushed : goal.returns-clause-pushed
returns-clause-pushed c = wide c ∙ ap (λ numbers. numbers ++ c.get-value.result ∷ []) c.self.view_is ∙ ap (λ n. c.args.self.now ++ n ∷ []) c.get-value.ensures.value
