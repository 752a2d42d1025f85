use Rattle.std.proofs.Common.{subst, OnOk}
use Rattle.std.specs.Io.KnownBytes.{Appends}
use Rattle.std.proofs.lemmas.Result.{on_ok_weaker}
use Rattle.pres_script.specs.NoticeTexts.{line_of, refusal_text}
use Rattle.pres_client_connection.proofs.Driven.{called, refused}
use Rattle.pres_client_connection.proofs.drive.make.Goals as goal

pub returns-in_default-clause-driven : goal.returns-in_default-clause-driven
returns-in_default-clause-driven g c = called c.args.client.now c.make.new.self c.args.call (g.W.Write.contents c.args.output.now) c.in_default.ensures.ok

pub returns-in_default-fault : goal.returns-in_default-fault
returns-in_default-fault g c =
    let text = g.W.Write.contents in
    let told = subst (λ n. OnOk c.tell_refusal.result (Appends (text c.args.output.now) (text c.tell_refusal.new.output) (line_of (refusal_text n)))) c.number.ensures c.tell_refusal.ensures.told in
    record {
      driven = on_ok_weaker c.tell_refusal.result (refused c.args.client.now c.make.new.self c.args.call c.in-Err.fault (text c.args.output.now) (text c.tell_refusal.new.output) c.in-Err.ensures.err c.in_default-fault.not-Memory) told;
      err = c.tell_refusal.ensures.err;
    }
