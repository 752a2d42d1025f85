use Rattle.pres_history.proofs.LegalLogs.{legal_is_sound}
use Rattle.pres_history.proofs.laws.legal_logs_are_sound.Goals as goal

pub returns : goal.returns
returns c = legal_is_sound
