use Rattle.std.proofs.Common.{◌≡◌, ◌+◌, ◌-◌, ◌<◌, ◌≤◌, ◌++◌, ◌⊎◌, ℕ, List, length, length-append, true, false, cond, None, Some, inl, inr, sym, ap, ◌∙◌, arith}
use Rattle.std.proofs.lemmas.Bool.Decides.{nat_tests}
use Rattle.std.specs.Option.{option_or}
use Rattle.std.specs.Prelude.{nat_lt}
use Rattle.serde_json.specs.Data.{Data}
use Rattle.serde_json.specs.View.{view}
use Rattle.pres_tree.specs.declared.fault.TreeFault.{TreeFault}
use Rattle.pres_tree.specs.declared.fault.TreeFault.TheVariants.{Memory, TooDeep}
use Rattle.pres_tree.specs.Paths.{Path, IsPath, max_depth, segments, path_fault}
use Rattle.pres_tree.specs.JsonReading.{fault_of, rows_of}
use Rattle.pres_tree.specs.Rows.{Rows}
use Rattle.pres_write.specs.declared.draft.DraftLeaf.{DraftLeaf}
use Rattle.pres_write.specs.Drafts.{slot_reading}
use Rattle.pres_write.specs.OpForms.{place_fault}
use Rattle.pres_tree.proofs.Texts.{path_append}
use Rattle.pres_write.proofs.Members.{refused_by}
use Rattle.pres_write.proofs.update.read_place.Goals as goal

not_above : (n : ℕ) → n ≤ max_depth → nat_lt max_depth n ≡ false
not_above n h = grind (arith, nat_tests)

above : (n : ℕ) → max_depth < n → nat_lt max_depth n ≡ true
above n h = grind (arith, nat_tests)

-- what is wrong with a place whose name is a path
named : (p : Path) (name : List ℕ) (d : Data) → path_fault name ≡ None → place_fault p name d ≡ cond (nat_lt max_depth (length p + length (segments name))) (Some TooDeep) (fault_of slot_reading (max_depth + 1 - (length p + length (segments name))) d)
named p name d sound = ap (λ o. option_or o (cond (nat_lt max_depth (length p + length (segments name))) (Some TooDeep) (fault_of slot_reading (max_depth + 1 - (length p + length (segments name))) d))) sound

deep : (p : Path) (name : List ℕ) (d : Data) → path_fault name ≡ None → max_depth < length p + length (segments name) → place_fault p name d ≡ Some TooDeep
deep p name d sound h =
    named p name d sound
    ∙ ap (λ b. cond b (Some TooDeep) (fault_of slot_reading (max_depth + 1 - (length p + length (segments name))) d)) (above (length p + length (segments name)) h)

-- a place that isn't too deep is as wrong as its draft
there : (p : Path) (name : List ℕ) (d : Data) → path_fault name ≡ None → length p + length (segments name) ≤ max_depth
    → place_fault p name d ≡ fault_of slot_reading (max_depth + 1 - (length p + length (segments name))) d
there p name d sound few =
    named p name d sound
    ∙ ap (λ b. cond b (Some TooDeep) (fault_of slot_reading (max_depth + 1 - (length p + length (segments name))) d)) (not_above (length p + length (segments name)) few)

abbrev Read : Path → List ℕ → Data → Path × Rows DraftLeaf → Type 0
Read p name d place = (place_fault p name d ≡ None) × (place ≡ (segments name, rows_of slot_reading d))

abbrev Refused : Path → List ℕ → Data → TreeFault → Type 0
Refused p name d e = (e ≡ Memory) ⊎ (place_fault p name d ≡ Some e)

pub returns-in_err-place-clause-read : goal.returns-in_err-place-clause-read
returns-in_err-place-clause-read c =
    let p = c.args.path.now in
    let name = c.args.name.now in
    let d = view c.args.value.now in
    let e = c.in_err-place.field-0.0 in
    let bad : Refused p name d e = elim c.in_err-place.ensures.path [
      | inl memory ↦ inl memory
      | inr fault ↦ inr (ap (λ o. option_or o (cond (nat_lt max_depth (length p + length (segments name))) (Some TooDeep) (fault_of slot_reading (max_depth + 1 - (length p + length (segments name))) d))) fault)
    ] in
    refused_by (Read p name d) (Refused p name d) c.from_residual.result e c.from_residual.ensures bad

-- the keys of both
keys : (n m : ℕ) (p place : Path) (name : List ℕ) → n ≡ length p → m ≡ length place → place ≡ segments name → n + m ≡ length p + length (segments name)
keys n m p place name first second is = λ i. first i + (second ∙ ap length is) i

pub returns-then-depth-gt-MAX_DEPTH-clause-read : goal.returns-then-depth-gt-MAX_DEPTH-clause-read
returns-then-depth-gt-MAX_DEPTH-clause-read c =
    let p = c.args.path.now in
    let name = c.args.name.now in
    let place = c.in_ok-place.ensures.path in
    let n = keys c.len.result c.len-2.result p c.in_ok-place.place name c.len.ensures.len c.len-2.ensures.len place.0 in
    inr (deep p name (view c.args.value.now) place.1 (omega (arith, n, c.if-depth-gt-MAX_DEPTH.true)))

pub returns-in_err-draft-clause-read : goal.returns-in_err-draft-clause-read
returns-in_err-draft-clause-read c =
    let p = c.args.path.now in
    let name = c.args.name.now in
    let d = view c.args.value.now in
    let e = c.in_err-draft.field-0.0 in
    let place = c.in_ok-place.ensures.path in
    let n = keys c.len.result c.len-2.result p c.in_ok-place.place name c.len.ensures.len c.len-2.ensures.len place.0 in
    let bad : Refused p name d e = elim c.in_err-draft.ensures.read [
      | inl memory ↦ inl memory
      | inr fault ↦ inr (there p name d place.1 (omega (arith, n, c.if-depth-gt-MAX_DEPTH.false)) ∙ ap (λ m. fault_of slot_reading (max_depth + 1 - m) d) (sym n) ∙ fault)
    ] in
    refused_by (Read p name d) (Refused p name d) c.from_residual-in_err-draft.result e c.from_residual-in_err-draft.ensures bad

pub returns-clause-read : goal.returns-clause-read
returns-clause-read c =
    let p = c.args.path.now in
    let name = c.args.name.now in
    let d = view c.args.value.now in
    let place = c.in_ok-place.ensures.path in
    let read = c.in_ok-draft.ensures.read in
    let n = keys c.len.result c.len-2.result p c.in_ok-place.place name c.len.ensures.len c.len-2.ensures.len place.0 in (
      there p name d place.1 (omega (arith, n, c.if-depth-gt-MAX_DEPTH.false)) ∙ ap (λ m. fault_of slot_reading (max_depth + 1 - m) d) (sym n) ∙ read.0,
      λ i. (place.0 i, read.1 i),
    )

pub returns-clause-fits : goal.returns-clause-fits
returns-clause-fits c =
    let p = c.args.path.now in
    let q = c.in_ok-place.place in
    let few : length p + length q ≤ max_depth = omega (arith, c.len.ensures.len, c.len-2.ensures.len, c.if-depth-gt-MAX_DEPTH.false) in
    let whole : IsPath (p ++ q) = path_append p q c.len.ensures.path c.len-2.ensures.path few in (
      whole,
      λ x held.
          let deep = c.in_ok-draft.ensures.shallow x held in
          path_append (p ++ q) x whole (omega (arith, deep.0), deep.1) (omega (arith, length-append p q, deep.0, c.len.ensures.len, c.len-2.ensures.len)),
    )
