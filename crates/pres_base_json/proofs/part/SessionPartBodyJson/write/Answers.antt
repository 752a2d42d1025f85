use Rattle.pres_tree.proofs.Printing.{on_any}
use Rattle.pres_base_json.proofs.Parts.{session_reads}
use Rattle.pres_base_json.proofs.part.SessionPartBodyJson.write.Goals as goal

pub returns-clause-reads_back : goal.returns-clause-reads_back
returns-clause-reads_back c =
    on_any c.end_object.result (session_reads c.args.self.now c.in_ok-write_field.ensures.reads_back c.in_ok-write_field-2.ensures.reads_back c.in_ok-write_field-3.ensures.reads_back c.in_ok-write_field-4.ensures.reads_back
    c.in_ok-write_field-5.ensures.reads_back)
