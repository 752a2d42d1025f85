-- The lines of a script.
use Rattle.std.proofs.Common.{◌≡◌, ◌+◌, ℕ, Bool, true, false, if◌then◌else◌, List, [], ◌∷◌, map, drop, Option, Some, None, Result, Ok, Err, refl, sym, ap, ◌∙◌, Bor, IfSome, IfOk, IfErr, MatchResult}
use Rattle.std.specs.Str.{is_utf8, IsUtf8}
use Rattle.std.proofs.lemmas.Str.{IsUtf8-from_is_utf8, is_utf8-from_IsUtf8}
use Rattle.pres_script.specs.Lines.{first_bad, lines_of}
use Rattle.pres_sim.specs.Scripts.{AreSteps, IsScript, script_bytes, script_line}

-- a text is the line that it says
pub script_of_text : (bytes : List ℕ) → IsUtf8 bytes → script_line bytes ≡ script_bytes bytes
script_of_text bytes h = ap (λ b. if b then script_line bytes else None) (sym (is_utf8-from_IsUtf8 bytes h))

by_test : (bytes : List ℕ) (b : Bool) → is_utf8 bytes ≡ b → (IsUtf8 bytes → ⊥) → None ≡ (if b then script_line bytes else None)
by_test bytes true e h = absurd (h (IsUtf8-from_is_utf8 bytes e))
by_test bytes false e h = refl

-- what is no text says nothing
pub no_script : (bytes : List ℕ) → (IsUtf8 bytes → ⊥) → None ≡ script_bytes bytes
no_script bytes h = by_test bytes (is_utf8 bytes) refl h

-- where each says something, none says nothing
pub all_say : {A B : Type 0} (f : A → B) (n : ℕ) (xs : List A) → first_bad n (map (λ x. Some (f x)) xs) ≡ None
all_say f n [] = refl
all_say f n (x ∷ xs) = all_say f (n + 1) xs

-- what the lines say, one by one
pub one_by_one : (texts : List (Bor (List ℕ))) → map script_bytes (map (λ text. text.now) texts) ≡ map (λ text. script_bytes text.now) texts
one_by_one [] = refl
one_by_one (text ∷ texts) = ap (λ ls. script_bytes text.now ∷ ls) (one_by_one texts)

-- the lines of a known input after the first
pub is_script : (input : Option (List ℕ)) (seen text : List ℕ) (first : Bor (List ℕ)) (rest : List (Bor (List ℕ))) → IfSome input (λ bytes. seen ≡ bytes) → text ≡ seen → map (λ t. t.now) (first ∷ rest) ≡ lines_of text → AreSteps (map (λ t. t.now) rest) → IfSome input IsScript
is_script None seen text first rest h same lines none = tt
is_script (Some bytes) seen text first rest h same lines none = ap (λ b. first_bad 2 (map script_bytes (drop 1 (lines_of b)))) (sym (same ∙ h)) ∙ ap (λ ls. first_bad 2 (map script_bytes (drop 1 ls))) (sym lines) ∙ none

-- what holds where a run ends well, and of why it ends early
pub ended : {T E : Type 0} (r : Result T E) (B P : Type 0) (Q : E → Type 0) → IfOk r (λ _. B) → (B → P) → IfErr r Q → MatchResult r (λ _. P) Q
ended (Ok x) B P Q b f q = f b
ended (Err e) B P Q b f q = q
