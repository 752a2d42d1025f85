-- A printed operation is read as itself.
use Rattle.std.proofs.Common.{◌≡◌, ◌-◌, ◌≤◌, length, None, Ok, Err, ap, ◌∙◌}
use Rattle.std.specs.Prelude.{IfOk, Result}
use Rattle.std.specs.declared.alloc.AllocError.{AllocError}
use Rattle.serde_json.specs.View.{view}
use Rattle.serde_json.specs.declared.value.Value.{Value}
use Rattle.serde_json.specs.Data.{Data}
use Rattle.pres_tree.specs.Paths.{Path, segments, path_fault, path_text}
use Rattle.pres_tree.specs.JsonReading.{rows_of, fault_of}
use Rattle.pres_tree.specs.Rows.{Rows, height}
use Rattle.pres_tree.specs.JsonPrinting.{ReadsBack}
use Rattle.pres_write.specs.declared.draft.DraftLeaf.{DraftLeaf}
use Rattle.pres_write.specs.declared.op.Op.{Op}
use Rattle.pres_write.specs.declared.op.Op.TheVariants.{Set, Tx}
use Rattle.pres_write.specs.Drafts.{slot_reading, fixed_reading}
use Rattle.pres_write.specs.OpForms.{unless, op_read, set_read, set_form, tx_form}
use Rattle.pres_write.specs.Transactions.{Comparison}
use Rattle.pres_write.specs.declared.fault.WriteFault.{WriteFault}

-- what is read of a path that is printed as the text, and of a draft that is read back
reads_set : (p : Path) (v : Rows DraftLeaf) (d : Data) → segments (path_text p) ≡ p → path_fault (path_text p) ≡ None → ReadsBack slot_reading v d → height v ≤ 33 - length p → set_read (path_text p) d ≡ Ok (Set (p, v))
reads_set p v d keys sound reads low =
    ap (λ o. unless o (unless (fault_of slot_reading (33 - length (segments (path_text p))) d) (Ok (Set (segments (path_text p), rows_of slot_reading d))))) sound
    ∙ ap (λ q. unless (fault_of slot_reading (33 - length q) d) (Ok (Set (q, rows_of slot_reading d)))) keys
    ∙ ap (λ o. unless o (Ok (Set (p, rows_of slot_reading d)))) (reads.1 (33 - length p) low)
    ∙ ap (λ u. Ok (Set (p, u))) reads.0

pub reads_put : (p : Path) (v : Rows DraftLeaf) (d : Data) → segments (path_text p) ≡ p → path_fault (path_text p) ≡ None → ReadsBack slot_reading v d → height v ≤ 33 - length p → op_read (set_form (path_text p) d) ≡ Ok (Set (p, v))
reads_put p v d keys sound reads low = reads_set p v d keys sound reads low

pub reads_tx : (t : Comparison) (e d : Data) → segments (path_text t.path) ≡ t.path → path_fault (path_text t.path) ≡ None → ReadsBack fixed_reading t.expect e → ReadsBack slot_reading t.new d → height t.expect ≤ 33 - length t.path → height t.new ≤ 33 - length t.path → op_read (tx_form (path_text t.path) e d) ≡ Ok (Tx t)
reads_tx t e d keys sound reads-e reads-d low-e low-d =
    ap (λ o. unless o (after (segments (path_text t.path)))) sound
    ∙ ap after keys
    ∙ ap (λ o. unless o (unless (fault_of slot_reading (33 - length t.path) d) (made t.path))) (reads-e.1 (33 - length t.path) low-e)
    ∙ ap (λ o. unless o (made t.path)) (reads-d.1 (33 - length t.path) low-d)
    ∙ (λ i. Ok (Tx (record { path = t.path; expect = reads-e.0 i; new = reads-d.0 i })))
  where
    made : Path → Result Op WriteFault
    made p = Ok (Tx (record { path = p; expect = rows_of fixed_reading e; new = rows_of slot_reading d }))

    after : Path → Result Op WriteFault
    after p = unless (fault_of fixed_reading (33 - length p) e) (unless (fault_of slot_reading (33 - length p) d) (made p))

-- what was made is read as the operation whose form it has
pub reads_made : (r : Result Value AllocError) (d : Data) (op : Op) → IfOk r (λ made. view made ≡ d) → op_read d ≡ Ok op → IfOk r (λ made. op_read (view made) ≡ Ok op)
reads_made (Ok made) d op is reads = ap op_read is ∙ reads
reads_made (Err e) d op is reads = tt
