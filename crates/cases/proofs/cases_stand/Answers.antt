use Rattle.cases.proofs.Table.{table}
use Rattle.cases.proofs.cases_stand.Goals as goal

pub returns : goal.returns
returns c = table
