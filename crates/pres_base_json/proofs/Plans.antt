-- What is written of a plan's row is read again, and nests few levels.
use Rattle.std.proofs.Common.{◌≡◌, ◌<◌, ◌≤◌, List, [], ◌∷◌, length, Some, None, refl, ap, ◌∙◌, arith}
use Rattle.serde_json.specs.Data.{depth}
use Rattle.serde_json.specs.View.{items_view}
use Rattle.serde_json.specs.declared.value.Value.{Value}
use Rattle.pres_tree.specs.Paths.{Path}
use Rattle.pres_tree.specs.Rows.{Rows, Fits}
use Rattle.pres_tree.specs.JsonPrinting.{json_of, ReadsBack}
use Rattle.pres_write.specs.declared.draft.DraftLeaf.{DraftLeaf}
use Rattle.pres_write.specs.Drafts.{slot_reading, slot_printing}
use Rattle.pres_plan.specs.declared.row.Action.TheVariants.{Put}
use Rattle.pres_wire.specs.Fields.{path_json, path_of}
use Rattle.pres_wire.specs.DownReads.{given}
use Rattle.pres_batch_json.specs.Entries.{row_json}
use Rattle.pres_batch_json.specs.Reads.{rows_below}
use Rattle.pres_batch_json.proofs.Below.{below_read, put_low}
use Rattle.pres_base_json.specs.Reads.{put_in, action_in}

draft_read : (p : Path) (v : Rows DraftLeaf) → Fits p v → ReadsBack slot_reading v (json_of slot_printing v) → rows_below slot_reading p (json_of slot_printing v) ≡ Some v
draft_read p v fits reads = below_read slot_reading p v (json_of slot_printing v) (json_of slot_printing v) fits refl reads

pub put_read : (p : Path) (v : Rows DraftLeaf) → Fits p v → path_of (path_json p) ≡ Some p → ReadsBack slot_reading v (json_of slot_printing v) → put_in (path_json p) (json_of slot_printing v) ≡ Some (Put (p, v))
put_read p v fits there reads =
    ap (λ o. given o (λ q. given (rows_below slot_reading q (json_of slot_printing v)) (λ w. Some (Put (q, w))))) there ∙ ap (λ o. given o (λ w. Some (Put (p, w)))) (draft_read p v fits reads)

pub put_nests : (p : Path) (v : Rows DraftLeaf) → Fits p v → ReadsBack slot_reading v (json_of slot_printing v) → depth (row_json p (json_of slot_printing v)) ≤ 36
put_nests p v fits reads = omega (arith, put_low p v (draft_read p v fits reads))

-- a row has one item or two after its number
pub too_few : (vs : List Value) → length vs < 1 → action_in (items_view vs) ≡ None
too_few [] h = refl
too_few (a ∷ vs) h = absurd (omega arith)

pub too_many : (vs : List Value) → 2 < length vs → action_in (items_view vs) ≡ None
too_many [] h = absurd (omega arith)
too_many (a ∷ []) h = absurd (omega arith)
too_many (a ∷ b ∷ []) h = absurd (omega arith)
too_many (a ∷ b ∷ c ∷ vs) h = refl
