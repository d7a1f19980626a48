use Rattle.runs.proofs.Beginnings.{begins}
use Rattle.runs.proofs.beginnings_stand.Goals as goal

pub returns : goal.returns
returns c = begins
