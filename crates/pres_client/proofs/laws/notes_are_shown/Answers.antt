use Rattle.pres_client.proofs.Noted.{calls_note, messages_note}
use Rattle.pres_client.proofs.laws.notes_are_shown.Goals as goal

pub returns : goal.returns
returns c = record { calls = calls_note; messages = messages_note }
