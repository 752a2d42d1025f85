use Rattle.std.proofs.Common.{codes}
use Rattle.json.specs.Token.{Token}
use Rattle.pres_tree.specs.JsonPrinting.{tokens_of}
use Rattle.pres_tree.specs.Scalars.{scalar_printing}
use Rattle.pres_write.proofs.Tokens.{around, kept_ok}
use Rattle.pres_write.proofs.draft.write_number.Goals as goal

pub returns-clause-ok : goal.returns-clause-ok
returns-clause-ok c =
    around c.end_object.result c.args.out.now.tokens c.begin_object.new.self.tokens c.key.new.self.tokens c.write.new.out.tokens c.end_object.new.self.tokens
    Token.begin_object (Token.key (codes "increment")) Token.end_object (tokens_of (scalar_printing c.args.by.now))
    c.in_ok-begin_object.ensures.ok c.in_ok-key.ensures.ok c.in_ok-write.ensures.ok c.end_object.ensures.ok

pub returns-clause-plain : goal.returns-clause-plain
returns-clause-plain c = kept_ok c.end_object.result c.in_ok-write.ensures.plain
