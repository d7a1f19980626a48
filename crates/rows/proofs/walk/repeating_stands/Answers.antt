use Rattle.rows.proofs.Periods.{repeating}
use Rattle.rows.proofs.walk.repeating_stands.Goals as goal

pub returns : goal.returns
returns g c = repeating
