use Rattle.std.proofs.Common.{rules}
use Rattle.algebra.specs.HeldLemmas.{same-amount}
use Rattle.algebra.proofs.worst.WorstAlgebra.weigh.Goals as goal

pub returns : goal.returns
returns c = same-amount (search rules)
