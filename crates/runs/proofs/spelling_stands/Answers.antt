use Rattle.runs.proofs.Steps.{stays, spells_one}
use Rattle.runs.proofs.spelling_stands.Goals as goal

pub returns : goal.returns
returns c = record { stays = stays; one = spells_one }
