-- Tokens that are written one after the other.
use Rattle.std.proofs.Common.{◌≡◌, ◌∷◌, ◌++◌, [], ℕ, List, Result, Ok, Err, Some, ap, ◌∙◌, append_assoc}
use Rattle.std.specs.Option.{option_and_then}
use Rattle.std.specs.Prelude.{option_map}
use Rattle.std.specs.Result.{OnOk}
use Rattle.json.specs.Token.{Token}
use Rattle.serde_json.specs.Data.{Data, object, no_members, put}
use Rattle.pres_tree.specs.JsonPrinting.{IsPlain}
use Rattle.pres_write.specs.Drafts.{alone}

-- two tokens, some more, and a last one
pub around : {E : Type 0} (r : Result (Unit {0}) E) (t t₁ t₂ t₃ t₄ : List Token) (a b d : Token) (inner : List Token)
    → t₁ ≡ t ++ a ∷ [] → t₂ ≡ t₁ ++ b ∷ [] → t₃ ≡ t₂ ++ inner → OnOk r (t₄ ≡ t₃ ++ d ∷ []) → OnOk r (t₄ ≡ t ++ a ∷ b ∷ (inner ++ d ∷ []))
around (Ok x) t t₁ t₂ t₃ t₄ a b d inner first second third fourth =
    fourth ∙ ap (λ s. s ++ d ∷ []) (third ∙ ap (λ s. s ++ inner) (second ∙ ap (λ s. s ++ b ∷ []) first))
    ∙ append_assoc ((t ++ a ∷ []) ++ b ∷ []) inner (d ∷ [])
    ∙ append_assoc (t ++ a ∷ []) (b ∷ []) (inner ++ d ∷ [])
    ∙ append_assoc t (a ∷ []) (b ∷ (inner ++ d ∷ []))
around (Err e) t t₁ t₂ t₃ t₄ a b d inner first second third fourth = fourth

-- four tokens
pub four : {E : Type 0} (r : Result (Unit {0}) E) (t t₁ t₂ t₃ t₄ : List Token) (a b c d : Token)
    → t₁ ≡ t ++ a ∷ [] → t₂ ≡ t₁ ++ b ∷ [] → t₃ ≡ t₂ ++ c ∷ [] → OnOk r (t₄ ≡ t₃ ++ d ∷ []) → OnOk r (t₄ ≡ t ++ a ∷ b ∷ c ∷ d ∷ [])
four r t t₁ t₂ t₃ t₄ a b c d = around r t t₁ t₂ t₃ t₄ a b d (c ∷ [])

-- what holds holds of each result
pub kept_ok : {T E P : Type 0} (r : Result T E) → P → OnOk r P
kept_ok (Ok x) h = h
kept_ok (Err e) h = tt

-- an object of one member is read as it is, where that member is
pub plain_alone : (name : List ℕ) (d : Data) → IsPlain d → IsPlain (alone name d)
plain_alone name d h = ap (λ o. option_map object (option_and_then (λ e. Some (put name e no_members)) o)) h
