use Rattle.std.proofs.Common.{Some, arith}
use Rattle.std.proofs.lemmas.Str.Pattern.{split_once_first}
use Rattle.pres_script.proofs.ParsedLines.{line_of_parts}
use Rattle.pres_script.proofs.lines.read_line.Goals as goal

pub returns-in-Some : goal.returns-in-Some
returns-in-Some c =
    let text = c.args.text.now in
    let parts = split_once_first 32 text (Some (c.in-Some.word, c.in-Some.given)) c.in-Some.ensures.cases (omega arith) in
    line_of_parts text c.in-Some.word.now c.in-Some.given.now parts c.line_with.result c.line_with.ensures
