use Rattle.rows.proofs.PhaseLaws.{phases}
use Rattle.rows.proofs.phases.phases_stand.Goals as goal

pub returns : goal.returns
returns c = phases
