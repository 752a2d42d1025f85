-- What is written in parts, one after the other.
use Rattle.std.proofs.Common.{◌≡◌, ◌∷◌, ◌++◌, [], List, ap, ◌∙◌, append_assoc}
use Rattle.json.specs.Token.{Token}

pub four : (t t₁ t₂ t₃ t₄ a b c d : List Token) → t₁ ≡ t ++ a → t₂ ≡ t₁ ++ b → t₃ ≡ t₂ ++ c → t₄ ≡ t₃ ++ d → t₄ ≡ t ++ (a ++ (b ++ (c ++ d)))
four t t₁ t₂ t₃ t₄ a b c d first second third fourth =
    fourth ∙ ap (λ ts. ts ++ d) (third ∙ ap (λ ts. ts ++ c) (second ∙ ap (λ ts. ts ++ b) first)) ∙ simp append_assoc

-- the fields of a set's entry, in two parts, and the ends of the entry and of the list
pub set_parts : (e x n p o q s z w : Token) (N P O Q S : List Token)
    → (e ∷ x ∷ n ∷ (N ++ p ∷ (P ++ o ∷ O))) ++ ((q ∷ (Q ++ s ∷ S)) ++ z ∷ w ∷ []) ≡ (e ∷ x ∷ n ∷ (N ++ p ∷ (P ++ o ∷ (O ++ q ∷ (Q ++ s ∷ (S ++ z ∷ [])))))) ++ w ∷ []
set_parts e x n p o q s z w N P O Q S = simp append_assoc
