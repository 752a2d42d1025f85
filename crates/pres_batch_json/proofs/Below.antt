-- Values that fit at a path are read there as they are printed, and nest few levels.
use Rattle.std.proofs.Common.{◌≡◌, ◌+◌, ◌-◌, ◌≤◌, length, length-append, cond, Option, Some, None, is_none, sym, ap, ◌∙◌, arith}
use Rattle.serde_json.specs.Data.{Data, depth}
use Rattle.pres_tree.specs.declared.fault.TreeFault.{TreeFault}
use Rattle.pres_tree.specs.declared.scalar.Scalar.{Scalar}
use Rattle.pres_tree.specs.Paths.{Path}
use Rattle.pres_tree.specs.Rows.{Rows, Fits, height}
use Rattle.pres_tree.specs.JsonReading.{Reading, fault_of}
use Rattle.pres_tree.specs.JsonPrinting.{ReadsBack, json_of}
use Rattle.pres_tree.specs.Scalars.{scalar_reading, scalar_printing}
use Rattle.pres_write.specs.declared.draft.DraftLeaf.{DraftLeaf}
use Rattle.pres_write.specs.Drafts.{slot_reading, slot_printing}
use Rattle.pres_wire.proofs.Nesting.{rows_low}
use Rattle.pres_wire.proofs.OpNesting.{draft_low, scalar_solid}
use Rattle.pres_wire.proofs.Trees.{height_within, value_flat}
use Rattle.pres_batch_json.specs.Entries.{row_json}
use Rattle.pres_batch_json.specs.Reads.{rows_below}

fits_levels : {A : Type 0} (p : Path) (v : Rows A) → Fits p v → height v ≤ 33 - length p
fits_levels p v fits = height_within v (33 - length p) (λ x h. let low = (fits x h).0 in omega (arith, length-append p x))

-- what is read back anywhere is read below the path
pub below_read : {A : Type 0} (reading : Data → Reading A) (p : Path) (v : Rows A) (made d : Data) → Fits p v → made ≡ d → ReadsBack reading v made → rows_below reading p d ≡ Some v
below_read reading p v made d fits is reads =
    let fault : fault_of reading (33 - length p) made ≡ None = reads.1 (33 - length p) (fits_levels p v fits) in
    ap (rows_below reading p) (sym is) ∙ (λ i. cond (is_none (fault i)) (Some (reads.0 i)) None)

no_fault : {B : Type 0} (o : Option TreeFault) (b c : B) → cond (is_none o) (Some b) None ≡ Some c → o ≡ None
no_fault None b c h = cc
no_fault (Some e) b c h = cc

pub write_low : (p : Path) (v : Rows Scalar) → rows_below scalar_reading p (json_of scalar_printing v) ≡ Some v → depth (row_json p (json_of scalar_printing v)) ≤ 34
write_low p v h =
    let low : depth (json_of scalar_printing v) ≤ 33 - length p + 0 = rows_low scalar_reading scalar_printing value_flat scalar_solid v (33 - length p) (no_fault _ _ _ h) in
    omega (arith, low)

pub put_low : (p : Path) (v : Rows DraftLeaf) → rows_below slot_reading p (json_of slot_printing v) ≡ Some v → depth (row_json p (json_of slot_printing v)) ≤ 35
put_low p v h =
    let low : depth (json_of slot_printing v) ≤ 33 - length p + 1 = draft_low v (33 - length p) (no_fault _ _ _ h) in
    omega (arith, low)
