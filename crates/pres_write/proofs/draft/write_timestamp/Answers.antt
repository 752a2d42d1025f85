use Rattle.pres_write.proofs.Tokens.{four}
use Rattle.pres_write.proofs.draft.write_timestamp.Goals as goal

pub returns-clause-ok : goal.returns-clause-ok
returns-clause-ok c =
    four c.end_object.result c.args.out.now.tokens c.begin_object.new.self.tokens c.key.new.self.tokens c.string.new.self.tokens c.end_object.new.self.tokens _ _ _ _
    c.in_ok-begin_object.ensures.ok c.in_ok-key.ensures.ok c.in_ok-string.ensures.ok c.end_object.ensures.ok
