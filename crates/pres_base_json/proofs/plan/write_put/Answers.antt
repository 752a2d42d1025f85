use Rattle.std.proofs.Common.{◌≡◌, Some, subst}
use Rattle.pres_tree.specs.JsonPrinting.{json_of, ReadsBack}
use Rattle.pres_tree.proofs.Printing.{on_any}
use Rattle.pres_write.specs.Drafts.{slot_reading, slot_printing}
use Rattle.pres_wire.specs.Fields.{path_json, path_of}
use Rattle.pres_base_json.proofs.Plans.{put_read, put_nests}
use Rattle.pres_base_json.proofs.plan.write_put.Goals as goal

pub returns-clause-reads_back : goal.returns-clause-reads_back
returns-clause-reads_back c =
    let put = c.args.placement.now in
    let there : path_of (path_json put.0) ≡ Some put.0 = subst (λ p. path_of (path_json p) ≡ Some p) c.path.ensures.path c.in_ok-write.ensures.reads_back in
    let reads : ReadsBack slot_reading put.1 (json_of slot_printing put.1) = subst (λ v. ReadsBack slot_reading v (json_of slot_printing v)) c.draft.ensures c.in_ok-write_value.ensures.reads_back in
    on_any c.end_array.result (put_read put.0 put.1 c.path.ensures.fits there reads)

pub returns-clause-low : goal.returns-clause-low
returns-clause-low c =
    let put = c.args.placement.now in
    let reads : ReadsBack slot_reading put.1 (json_of slot_printing put.1) = subst (λ v. ReadsBack slot_reading v (json_of slot_printing v)) c.draft.ensures c.in_ok-write_value.ensures.reads_back in
    on_any c.end_array.result (put_nests put.0 put.1 c.path.ensures.fits reads)
