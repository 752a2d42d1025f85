-- What a text is read as.
use Rattle.std.proofs.Common.{◌≡◌, ◌∙◌, ℕ, List, Option, Some, None, Bool, true, false, if◌then◌else◌, refl, sym, ap, subst, ◌&&◌}
use Rattle.std.specs.Prelude.{MatchOption, IfSome}
use Rattle.std.specs.Option.{option_and_then}
use Rattle.std.specs.Str.{bytes_eq}
use Rattle.std.specs.Cmp.Lexicographic.{bytes_decides}
use Rattle.std.proofs.lemmas.Bool.{and_parts, and_from}
use Rattle.std.proofs.lemmas.Option.{cond_some}
use Rattle.serde_json.specs.Read.{read}
use Rattle.pres_base.specs.declared.parts.BaseParts.{BaseParts}
use Rattle.pres_base.specs.Bases.{IsBase}
use Rattle.pres_base_json.specs.Forms.{body_text}
use Rattle.pres_base_json.specs.Reads.{parts_in, IsBody, with_one_null}
use Rattle.pres_base_json.specs.Checks.{is_base, base_of_parts, base_of_body, BodyIsRead}
use Rattle.pres_base_json.proofs.Checks.{is_base_decides}
use Rattle.pres_base_json.proofs.OneNull.{found_then, text_same, text_beside}

-- ---- of parts

-- those of a base with this text
pub base_printed : (text : List ℕ) (p : BaseParts) → IsBase p → body_text p ≡ text → base_of_parts text p ≡ Some p
base_printed text p base same =
    ap (λ b. if b then Some p else None) (and_from (is_base p) (bytes_eq (body_text p) text) ((is_base_decides p).1 base) ((bytes_decides (body_text p) text).1 same))

passed : (b : Bool) (p : BaseParts) → (b ≡ true → ⊥) → (if b then Some p else None) ≡ None
passed true p fails = absurd (fails refl)
passed false p fails = refl

pub no_base : (text : List ℕ) (p : BaseParts) → (IsBase p → ⊥) → base_of_parts text p ≡ None
no_base text p fails = passed (is_base p && bytes_eq (body_text p) text) p (λ h. fails ((is_base_decides p).0 (and_parts (is_base p) (bytes_eq (body_text p) text) h).0))

pub other_text : (text : List ℕ) (p : BaseParts) → (body_text p ≡ text → ⊥) → base_of_parts text p ≡ None
other_text text p fails = passed (is_base p && bytes_eq (body_text p) text) p (λ h. fails ((bytes_decides (body_text p) text).0 (and_parts (is_base p) (bytes_eq (body_text p) text) h).1))

-- ---- of a text

pub read_to : (batches moment : ℕ) (text : List ℕ) (p : BaseParts) → IsBody batches moment text p → base_of_body batches moment text ≡ Some p
unfolding base_of_body
read_to batches moment text p body = ap (option_and_then (base_of_parts text)) body.held ∙ base_printed text p body.base body.exact

pub read_from : (batches moment : ℕ) (text : List ℕ) (p : BaseParts) → base_of_body batches moment text ≡ Some p → IsBody batches moment text p
unfolding base_of_body
read_from batches moment text p e =
    let parts = found_then (base_of_parts text) (option_and_then (parts_in batches moment) (read text)) p e in
    let q = parts.0 in
    let chosen = cond_some (is_base q && bytes_eq (body_text q) text) q p parts.2 in
    let tests = and_parts (is_base q) (bytes_eq (body_text q) text) chosen.0 in
    subst (IsBody batches moment text) chosen.1 (record { held = parts.1; exact = (bytes_decides (body_text q) text).0 tests.1; base = (is_base_decides q).0 tests.0 })

pub body_is_read : (batches moment : ℕ) (text : List ℕ) (p : BaseParts) → BodyIsRead batches moment text p
body_is_read batches moment text p = (read_to batches moment text p, read_from batches moment text p)

-- where the parts are read
pub read_parts : (batches moment : ℕ) (text : List ℕ) (o : Option BaseParts) → o ≡ option_and_then (parts_in batches moment) (read text) → option_and_then (base_of_parts text) o ≡ base_of_body batches moment text
unfolding base_of_body
read_parts batches moment text o e = ap (option_and_then (base_of_parts text)) e

pub matched : (batches moment : ℕ) (text : List ℕ) (found : Option BaseParts) → found ≡ base_of_body batches moment text
    → MatchOption found ((parts : BaseParts) → ¬ IsBody batches moment text parts) (IsBody batches moment text)
matched batches moment text (Some p) e = read_from batches moment text p (sym e)
matched batches moment text None e = λ p body. absurd (let both : None ≡ Some p = e ∙ read_to batches moment text p body in cc)

pub one_null_read : (batches moment : ℕ) (text : List ℕ) (found : Option BaseParts) → found ≡ base_of_body batches moment text → IfSome found (λ p. with_one_null p ≡ p)
one_null_read batches moment text None e = tt
one_null_read batches moment text (Some p) e = text_same batches moment (read text) p (read_from batches moment text p (sym e)).held

-- the count of batches is the one beside the body
pub batches_beside : (batches moment : ℕ) (text : List ℕ) (p : BaseParts) → base_of_body batches moment text ≡ Some p → p.batches ≡ batches
batches_beside batches moment text p e = text_beside batches moment (read text) p (read_from batches moment text p e).held
