-- An object whose names are keys is no placeholder, since no key has a dot.
use Rattle.std.specs.Prelude.{◌≡◌, List, ℕ, codes, Some, None, refl}
use Rattle.std.proofs.Common.{ap, sym, ◌∙◌, true≢false}
use Rattle.std.specs.declared.cmp.Ordering.TheVariants.{Less, Equal, Greater}
use Rattle.std.specs.Ordering.{nat_cmp, match_ordering}
use Rattle.std.specs.Cmp.Lexicographic.{slice_cmp}
use Rattle.std.specs.FinMap.{nat_cmp-IsAntisymmetric, slice_cmp-IsAntisymmetric}
use Rattle.serde_json.specs.Data.{object, Members, no_members, member}
use Rattle.serde_json.specs.Find.{get_member}
use Rattle.pres_tree.specs.Keys.{is_key}
use Rattle.pres_tree.specs.JsonReading.{HasKeys, branch}
use Rattle.pres_write.specs.Drafts.{slot_reading, placeholder}

abbrev pub sv : List ℕ
sv = codes ".sv"

pub no_placeholder : (ms : Members) → HasKeys ms → get_member sv ms ≡ None
no_placeholder no_members h = refl
no_placeholder (member l d ms) h =
    elim (slice_cmp nat_cmp sv l) as (λ o. slice_cmp nat_cmp sv l ≡ o → match_ordering o (get_member sv ms) (Some d) (get_member sv ms) ≡ None) [
      | Less ↦ λ e. no_placeholder ms h.1
      | Equal ↦ λ e. absurd (true≢false (sym h.0 ∙ ap is_key (sym (slice_cmp-IsAntisymmetric nat_cmp-IsAntisymmetric sv l e))))
      | Greater ↦ λ e. no_placeholder ms h.1
    ] refl

pub keys_are_no_placeholder : (ms : Members) → HasKeys ms → slot_reading (object ms) ≡ branch
keys_are_no_placeholder ms h = ap (placeholder ms) (no_placeholder ms h)
