-- What is read of a line.
use Rattle.std.proofs.Common.{◌≡◌, ◌⊎◌, ◌<◌, ◌^◌, ◌++◌, ◌∷◌, [], ℕ, List, Bool, true, false, if◌then◌else◌, Option, Some, None, Result, Ok, Err, option_map, option_and_then, length, nat_lt, refl, sym, ap, subst, ◌∙◌, ◌&&◌, append_assoc, rules}
use Rattle.std.proofs.lemmas.Bool.{false≢true, and_from, ltb-true, lt-ltb}
use Rattle.std.specs.Prelude.{IsErr, IsErrAnd}
use Rattle.std.proofs.lemmas.Str.Parse.{IsDigitsTest, numerals_by_value, parse_digits}
use Rattle.std.specs.Char.{is_ascii_digit}
use Rattle.std.specs.List.{after_first, before_first, list_all, position_or_len}
use Rattle.std.specs.Result.{OkIff}
use Rattle.std.specs.Str.Parse.{ParsesUnsigned, digits_value}
use Rattle.serde_json.specs.Data.{Data, Members, member}
use Rattle.pres_tree.specs.Paths.{Path}
use Rattle.pres_tree.specs.Rows.{Rows}
use Rattle.pres_write.specs.declared.draft.DraftLeaf.{DraftLeaf}
use Rattle.pres_wire.specs.Fields.{path_in}
use Rattle.pres_script.specs.declared.line.Line.{Line}
use Rattle.pres_script.specs.declared.lines.LineFault.{LineFault}
use Rattle.pres_script.specs.declared.lines.LineFault.TheVariants as unread
use Rattle.pres_script.specs.LineReads.{IsPart, IsRead, IsLineRefusal}
use Rattle.pres_script.specs.Lines.{ParsedLine, draft_in, given_line, halves, is_numeral, is_space, line_in, line_of_halves, places_of, as_parsed, whole_in}

-- what `?` makes of a refusal
pub part_refused : {A B : Type 0} (view : A → B) (part : Option B) (r : Result A LineFault) (e : LineFault) → IsErr r × IsErrAnd r (λ x. x ≡ e) → ((e ≡ unread.Memory) ⊎ ((e ≡ unread.Refused) × (part ≡ None))) → IsPart view part r
part_refused view part (Ok a) e h q = absurd (false≢true h.0)
part_refused view part (Err x) e h q = subst (λ y. (y ≡ unread.Memory) ⊎ ((y ≡ unread.Refused) × (part ≡ None))) (sym h.1) q

-- ---- the places of an object

abbrev Places : Type 0
Places = List (Path × Rows DraftLeaf)

pub none_yet : (o : Option Places) → o ≡ option_map (λ rest. [] ++ rest) o
none_yet None = refl
none_yet (Some rest) = refl

one_more : (xs : Places) (e : Path × Rows DraftLeaf) (o : Option Places) → option_map (λ rest. xs ++ rest) (option_map (λ places. e ∷ places) o) ≡ option_map (λ rest. (xs ++ e ∷ []) ++ rest) o
one_more xs e None = refl
one_more xs e (Some rest) = ap Some (sym (append_assoc xs (e ∷ []) rest))

module _ (all left : Members) (name : List ℕ) (d : Data) (xs : Places) (so_far : places_of all ≡ option_map (λ rest. xs ++ rest) (places_of (member name d left))) where
  pub place_more : (p : Path) (v : Rows DraftLeaf) → path_in name ≡ Some p → draft_in d ≡ Some v → places_of all ≡ option_map (λ rest. (xs ++ (p, v) ∷ []) ++ rest) (places_of left)
  place_more p v path draft =
      so_far
      ∙ ap (λ o. option_map (λ rest. xs ++ rest) (option_and_then (λ q. option_and_then (λ w. option_map (λ places. (q, w) ∷ places) (places_of left)) (draft_in d)) o)) path
      ∙ ap (λ o. option_map (λ rest. xs ++ rest) (option_and_then (λ w. option_map (λ places. (p, w) ∷ places) (places_of left)) o)) draft
      ∙ one_more xs (p, v) (places_of left)

  pub place_bad : path_in name ≡ None → places_of all ≡ None
  place_bad path = so_far ∙ ap (λ o. option_map (λ rest. xs ++ rest) (option_and_then (λ q. option_and_then (λ w. option_map (λ places. (q, w) ∷ places) (places_of left)) (draft_in d)) o)) path

  pub draft_bad : (p : Path) → path_in name ≡ Some p → draft_in d ≡ None → places_of all ≡ None
  draft_bad p path draft =
      so_far
      ∙ ap (λ o. option_map (λ rest. xs ++ rest) (option_and_then (λ q. option_and_then (λ w. option_map (λ places. (q, w) ∷ places) (places_of left)) (draft_in d)) o)) path
      ∙ ap (λ o. option_map (λ rest. xs ++ rest) (option_and_then (λ w. option_map (λ places. (p, w) ∷ places) (places_of left)) o)) draft

-- ---- numbers

both : (a b : Bool) → (a && b) ≡ true → (a ≡ true) × (b ≡ true)
both true b h = (refl, h)
both false b h = absurd (false≢true h)

tells_digits_alone : IsDigitsTest (λ ds. list_all is_ascii_digit ds ≡ true)
tells_digits_alone = search rules

module _ (text : List ℕ) where
  abbrev fits : Bool
  fits = is_numeral text && nat_lt (digits_value 10 text) (2 ^ 64)

  numeral_from_fits : fits ≡ true → (0 < length text) × (list_all is_ascii_digit text ≡ true) × (digits_value 10 text < 2 ^ 64)
  numeral_from_fits is =
      let k = both (is_numeral text) (nat_lt (digits_value 10 text) (2 ^ 64)) is in
      let m = both (nat_lt 0 (length text)) (list_all is_ascii_digit text) k.0 in
      (ltb-true 0 (length text) m.0, m.1, ltb-true (digits_value 10 text) (2 ^ 64) k.1)

  whole_if : (b : Bool) → fits ≡ b → whole_in text ≡ (if b then Some (digits_value 10 text) else None)
  unfolding whole_in
  whole_if b is = ap (λ t. if t then Some (digits_value 10 text) else None) is

  none_if : (b : Bool) → fits ≡ b → (b ≡ true → ⊥) → whole_in text ≡ None
  none_if false is bad = whole_if false is
  none_if true is bad = absurd (bad refl)

  -- a text with another character is no number
  pub no_numeral : list_all is_ascii_digit text ≡ false → whole_in text ≡ None
  no_numeral other = none_if fits refl (λ is. false≢true (sym other ∙ (numeral_from_fits is).1))

  module _ (digits : list_all is_ascii_digit text ≡ true) where
    parsed_as : (r : Result ℕ LineFault) → ParsesUnsigned 64 10 text r → OkIff r ((0 < length text) × (digits_value 10 text < 2 ^ 64)) (digits_value 10 text)
    parsed_as r parsed = parse_digits (numerals_by_value _ tells_digits_alone) 64 text r parsed digits

    -- digits alone that are parsed are a number
    pub a_number : (n : ℕ) → ParsesUnsigned {E = LineFault} 64 10 text (Ok n) → whole_in text ≡ Some n
    a_number n parsed =
        let k = parsed_as (Ok n) parsed in
        let yes : fits ≡ true = and_from (is_numeral text) (nat_lt (digits_value 10 text) (2 ^ 64)) (and_from (nat_lt 0 (length text)) (list_all is_ascii_digit text) (lt-ltb 0 (length text) k.0.0) digits) (lt-ltb (digits_value 10 text) (2 ^ 64) k.0.1) in
        whole_if true yes ∙ ap Some (sym k.1)

    -- digits alone that are not parsed are none
    pub no_number : (e : LineFault) → ParsesUnsigned 64 10 text (Err e) → whole_in text ≡ None
    no_number e parsed = none_if fits refl (λ is. let k = numeral_from_fits is in parsed_as (Err e) parsed (k.0, k.2))

-- ---- lines

-- what `?` makes of a line's refusal
pub line_refused : {A : Type 0} (says : A → ParsedLine) (line : Option ParsedLine) (r : Result A LineFault) (e : LineFault) → IsErr r × IsErrAnd r (λ x. x ≡ e) → IsLineRefusal line e → IsRead says line r
line_refused says line (Ok a) e h q = absurd (false≢true h.0)
line_refused says line (Err x) e h q = subst (IsLineRefusal line) (sym h.1) q

-- a line with a space is that of its word with what this is given
pub line_of_parts : (text word given : List ℕ) → (position_or_len is_space text < length text) × (word ≡ before_first is_space text) × (given ≡ after_first is_space text) → (r : Result Line LineFault) → IsRead as_parsed (given_line word given) r → IsRead as_parsed (line_in text) r
line_of_parts text word given parts r read =
    let cut : halves text ≡ Some (word, given) =
    ap (λ b. if b then Some (before_first is_space text, after_first is_space text) else None) (lt-ltb (position_or_len is_space text) (length text) parts.0)
    ∙ ap Some (ap (λ w. (w, after_first is_space text)) (sym parts.1) ∙ ap (λ g. (word, g)) (sym parts.2)) in
    subst (λ h. IsRead as_parsed (line_of_halves text h) r) (sym cut) read
