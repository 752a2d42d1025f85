use Rattle.pres_server.proofs.AnswersStay.{history_keeps_answers, history_splits_answers, base_keeps_answers}
use Rattle.pres_server.proofs.laws.answers_stay.Goals as goal

pub returns-clause-stay : goal.returns-clause-stay
returns-clause-stay c = history_keeps_answers

pub returns-clause-split : goal.returns-clause-split
returns-clause-split c = history_splits_answers

pub returns-clause-bases : goal.returns-clause-bases
returns-clause-bases c = base_keeps_answers
