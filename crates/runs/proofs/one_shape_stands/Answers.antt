use Rattle.runs.proofs.OneShape.{one_shape, one_keeping}
use Rattle.runs.proofs.one_shape_stands.Goals as goal

pub returns : goal.returns
returns g c = record { rows = one_shape; shelves = one_keeping _ }
