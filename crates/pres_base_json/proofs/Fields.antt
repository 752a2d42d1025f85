-- What is written in parts, one after the other.
use Rattle.std.proofs.Common.{◌≡◌, ◌++◌, List, ap, ◌∙◌, append_assoc}
use Rattle.json.specs.Token.{Token}

pub five : (t t₁ t₂ t₃ t₄ t₅ a b c d e : List Token) → t₁ ≡ t ++ a → t₂ ≡ t₁ ++ b → t₃ ≡ t₂ ++ c → t₄ ≡ t₃ ++ d → t₅ ≡ t₄ ++ e → t₅ ≡ t ++ (a ++ (b ++ (c ++ (d ++ e))))
five t t₁ t₂ t₃ t₄ t₅ a b c d e first second third fourth fifth =
    fifth ∙ ap (λ ts. ts ++ e) (fourth ∙ ap (λ ts. ts ++ d) (third ∙ ap (λ ts. ts ++ c) (second ∙ ap (λ ts. ts ++ b) first))) ∙ simp append_assoc

pub six : (t t₁ t₂ t₃ t₄ t₅ t₆ a b c d e f : List Token) → t₁ ≡ t ++ a → t₂ ≡ t₁ ++ b → t₃ ≡ t₂ ++ c → t₄ ≡ t₃ ++ d → t₅ ≡ t₄ ++ e → t₆ ≡ t₅ ++ f
    → t₆ ≡ t ++ (a ++ (b ++ (c ++ (d ++ (e ++ f)))))
six t t₁ t₂ t₃ t₄ t₅ t₆ a b c d e f first second third fourth fifth sixth =
    sixth ∙ ap (λ ts. ts ++ f) (five t t₁ t₂ t₃ t₄ t₅ a b c d e first second third fourth fifth) ∙ simp append_assoc
