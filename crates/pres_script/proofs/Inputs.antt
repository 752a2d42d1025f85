-- The lines of an input.
use Rattle.std.proofs.Common.{◌≡◌, ◌==◌, ◌+◌, ℕ, Bool, true, false, if◌then◌else◌, List, [], ◌∷◌, ◌++◌, length, map, Option, Some, None, refl, sym, ap, ◌∙◌, arith, Bor, IfSome, append-nil}
use Rattle.std.specs.Io.KnownBytes.{Consumes, IsAtEnd}
use Rattle.std.specs.Str.{is_utf8, IsUtf8}
use Rattle.std.proofs.lemmas.Str.{IsUtf8-from_is_utf8, is_utf8-from_IsUtf8}
use Rattle.std.specs.List.{slice_split}
use Rattle.pres_script.specs.Lines.{AreLines, ParsedLine, first_bad, line_in, line_of_bytes, lines_in, lines_of, without_last_feed, as_parsed}
use Rattle.pres_script.specs.declared.line.Line.{Line}

-- a text is the line that it says
pub line_of_text : (bytes : List ℕ) → IsUtf8 bytes → line_in bytes ≡ line_of_bytes bytes
line_of_text bytes h = ap (λ b. if b then line_in bytes else None) (sym (is_utf8-from_IsUtf8 bytes h))

by_test : (bytes : List ℕ) (b : Bool) → is_utf8 bytes ≡ b → (IsUtf8 bytes → ⊥) → None ≡ (if b then line_in bytes else None)
by_test bytes true e h = absurd (h (IsUtf8-from_is_utf8 bytes e))
by_test bytes false e h = refl

-- what is no text says nothing
pub no_text : (bytes : List ℕ) → (IsUtf8 bytes → ⊥) → None ≡ line_of_bytes bytes
no_text bytes h = by_test bytes (is_utf8 bytes) refl h

-- the first line after good ones that says nothing
pub first_bad-behind : (n : ℕ) (good : List Line) (rest : List (Option ParsedLine)) → first_bad n (map (λ line. Some (as_parsed line)) good ++ None ∷ rest) ≡ Some (n + length good)
first_bad-behind n [] rest = ap Some (omega arith)
first_bad-behind n (line ∷ good) rest = first_bad-behind (n + 1) good rest ∙ ap Some (omega arith)

pub all_good : (n : ℕ) (good : List Line) → first_bad n (map (λ line. Some (as_parsed line)) good) ≡ None
all_good n [] = refl
all_good n (line ∷ good) = all_good (n + 1) good

-- what the lines say, one by one
pub lines_of_texts : (texts : List (Bor (List ℕ))) → map line_of_bytes (map (λ text. text.now) texts) ≡ map (λ text. line_of_bytes text.now) texts
lines_of_texts [] = refl
lines_of_texts (text ∷ texts) = ap (λ ls. line_of_bytes text.now ∷ ls) (lines_of_texts texts)

-- the lines of an input that has bytes
pub lines_of-some : (input rest : List ℕ) → (length input == 0) ≡ false → rest ≡ without_last_feed input → slice_split (λ b. b == 10) rest ≡ lines_of input
lines_of-some input rest some is = ap (slice_split (λ b. b == 10)) is ∙ ap (λ b. if b then [] else slice_split (λ b. b == 10) (without_last_feed input)) (sym some)

-- ---- bytes that are read

-- where all is read, what was read is the input
pub all_read : (input rest : Option (List ℕ)) (seen : List ℕ) → Consumes input rest seen → IsAtEnd rest → IfSome input (λ bytes. seen ≡ bytes)
all_read None rest seen h k = tt
all_read (Some input) None seen h k = absurd h
all_read (Some input) (Some xs) seen h k = sym (h ∙ ap (λ z. seen ++ z) k ∙ append-nil seen)

-- the lines of a known input
pub says_known : (input : Option (List ℕ)) (seen text : List ℕ) (good : List Line) → IfSome input (λ bytes. seen ≡ bytes) → text ≡ seen → lines_in text ≡ map (λ line. Some (as_parsed line)) good → IfSome input (λ bytes. lines_in bytes ≡ map (λ line. Some (as_parsed line)) good)
says_known None seen text good h same says = tt
says_known (Some bytes) seen text good h same says = ap lines_in (sym (same ∙ h)) ∙ says

-- an input whose lines all say something
pub known_lines : (input : Option (List ℕ)) (seen text : List ℕ) (good : List Line) → IfSome input (λ bytes. seen ≡ bytes) → text ≡ seen → lines_in text ≡ map (λ line. Some (as_parsed line)) good → IfSome input AreLines
known_lines None seen text good h same says = tt
known_lines (Some bytes) seen text good h same says = ap (λ b. first_bad 1 (lines_in b)) (sym (same ∙ h)) ∙ ap (first_bad 1) says ∙ all_good 1 good
