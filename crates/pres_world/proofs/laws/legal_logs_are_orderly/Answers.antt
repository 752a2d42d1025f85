use Rattle.pres_world.proofs.Orderly.{writes_stand, sessions_stand, ends_stand, cancels_undone}
use Rattle.pres_world.proofs.laws.legal_logs_are_orderly.Goals as goal

pub returns-clause-writes : goal.returns-clause-writes
returns-clause-writes c = writes_stand

pub returns-clause-sessions : goal.returns-clause-sessions
returns-clause-sessions c = sessions_stand

pub returns-clause-ends : goal.returns-clause-ends
returns-clause-ends c = ends_stand

pub returns-clause-cancels : goal.returns-clause-cancels
returns-clause-cancels c = cancels_undone
