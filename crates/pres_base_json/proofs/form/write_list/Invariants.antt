-- what is written and what is left make the whole
use Rattle.std.proofs.Common.{◌≡◌, ◌++◌, drop}
use Rattle.pres_tree.specs.JsonPrinting.{tokens_of}
use Rattle.pres_batch_json.specs.Entries.{list_json}
use Rattle.pres_base_json.proofs.Lists.{last_items, AreRead}
use Rattle.pres_base_json.proofs.form.write_list.Given as goal

abbrev pub invariant-loop-part : goal.invariant-loop-part
invariant-loop-part g l = record {
  written : l.out.tokens ++ last_items g.T.BodyJson.json (drop l.part-index l.parts) ≡ l.fn.out.tokens ++ tokens_of (list_json g.T.BodyJson.json l.parts);
  before : l.out.before ≡ l.fn.out.before;
  read : AreRead g.T.BodyJson.json g.T.BodyJson.found g.T.BodyJson.kept g.T.BodyJson.levels (drop l.part-index l.parts)
      → AreRead g.T.BodyJson.json g.T.BodyJson.found g.T.BodyJson.kept g.T.BodyJson.levels l.parts;
}
