use Rattle.pres_world.proofs.Bases.{resumes_its_history}
use Rattle.pres_world.proofs.laws.servers_resume_their_history.Goals as goal

pub returns : goal.returns
returns c = resumes_its_history
