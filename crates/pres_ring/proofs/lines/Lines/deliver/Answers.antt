use Rattle.std.proofs.Common.{rules, ◌≡◌, ◌≤◌, ◌∷◌, [], List, length, ℕ, refl, subst, sym, arith}
use Rattle.pres_wire.specs.declared.down.Down.{Down}
use Rattle.pres_ring.specs.Lines.{line_at, unmarked}
use Rattle.pres_ring.specs.Deliveries.{FitsTranscript, LineAfter, LineFits}
use Rattle.pres_ring.proofs.Sends.{first_told, rest_told, line_more, fits_more, line_none, fits_none}
use Rattle.pres_ring.proofs.lines.Lines.deliver.Goals as goal
use Rattle.std.proofs.lemmas.Grind.{common_steps}

at_most : (a b c : ℕ) → a ≤ b → b ≤ c → a ≤ c
at_most a b c h k = omega (arith, h, k)

empty : (xs : List Down) → length xs ≡ 0 → xs ≡ []
empty [] h = refl
empty (x ∷ xs) h = absurd (omega (arith, h))

pub send-requires : goal.send-requires
send-requires c =
    let e : c.loop-message.message-iterator.rest.items ≡ c.in-Some.message ∷ c.next.new.self.rest.items = search rules in
    record {
      told = λ s. first_told s c.in-Some.message c.next.new.self.rest.items (line_at s c.loop-message.self) (subst (λ xs. FitsTranscript s xs (line_at s c.loop-message.self)) e (c.loop-message.invariant.0 s));
    }

pub loop-message-preserved : goal.loop-message-preserved
loop-message-preserved c =
    let m = c.in-Some.message in
    let ms = c.next.new.self.rest.items in
    let e : c.loop-message.message-iterator.rest.items ≡ m ∷ ms = search rules in (
      λ s. rest_told s m ms (line_at s c.loop-message.self) (line_at s c.send.new.self) (c.send.ensures.sent s) (subst (λ xs. FitsTranscript s xs (line_at s c.loop-message.self)) e (c.loop-message.invariant.0 s)),
      λ s after p. c.loop-message.invariant.1 s after
          (subst (λ xs. LineAfter s xs (line_at s c.loop-message.self) after) (sym e) (line_more s m ms (line_at s c.loop-message.self) (line_at s c.send.new.self) after (c.send.ensures.sent s) p)),
      λ s after p f. c.loop-message.invariant.2 s after
          (subst (λ xs. LineAfter s xs (line_at s c.loop-message.self) after) (sym e) (line_more s m ms (line_at s c.loop-message.self) (line_at s c.send.new.self) after (c.send.ensures.sent s) p))
          (subst (λ xs. LineFits s xs (line_at s c.loop-message.self) after) (sym e) (fits_more s m ms (line_at s c.loop-message.self) (line_at s c.send.new.self) after p (c.send.ensures.fits s) f)),
      at_most (unmarked c.send.new.self) (unmarked c.loop-message.self) (unmarked c.args.self.now) c.send.ensures.fewer c.loop-message.invariant.3,
    )

pub returns-clause-delivered : goal.returns-clause-delivered
returns-clause-delivered c s =
    let l = line_at s c.loop-message.self in
    let none : length c.loop-message.message-iterator.rest.items ≡ 0 = search rules in
    let e : c.loop-message.message-iterator.rest.items ≡ [] = empty c.loop-message.message-iterator.rest.items none in
    c.loop-message.invariant.1 s l (subst (λ xs. LineAfter s xs l l) (sym e) (line_none s l))

pub returns-clause-fits : goal.returns-clause-fits
returns-clause-fits c s =
    let l = line_at s c.loop-message.self in
    let none : length c.loop-message.message-iterator.rest.items ≡ 0 = search rules in
    let e : c.loop-message.message-iterator.rest.items ≡ [] = empty c.loop-message.message-iterator.rest.items none in
    c.loop-message.invariant.2 s l (subst (λ xs. LineAfter s xs l l) (sym e) (line_none s l)) (subst (λ xs. LineFits s xs l l) (sym e) (fits_none s l))

pub loop-message-init : goal.loop-message-init
loop-message-init c = grind (arith, common_steps)
