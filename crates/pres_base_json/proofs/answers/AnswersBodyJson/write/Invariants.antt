-- what is written and what is left make the whole
use Rattle.std.proofs.Common.{◌≡◌, ◌++◌}
use Rattle.pres_tree.specs.JsonPrinting.{tokens_of}
use Rattle.pres_batch_json.specs.Entries.{list_json}
use Rattle.pres_base_json.specs.Forms.{answer_json}
use Rattle.pres_base_json.specs.Reads.{answer_in, answer_with_one_null}
use Rattle.pres_base_json.proofs.Lists.{last_items, AreRead}
use Rattle.pres_base_json.proofs.answers.AnswersBodyJson.write.Given as goal

abbrev pub invariant-loop-answer : goal.invariant-loop-answer
invariant-loop-answer l = record {
  written : l.out.tokens ++ last_items answer_json l.answer-iterator ≡ l.fn.out.tokens ++ tokens_of (list_json answer_json l.self);
  before : l.out.before ≡ l.fn.out.before;
  read : AreRead answer_json answer_in answer_with_one_null 35 l.answer-iterator → AreRead answer_json answer_in answer_with_one_null 35 l.self;
}
