use Rattle.std.proofs.Common.{rules}
use Rattle.algebra.specs.HeldLemmas.{same_amount}
use Rattle.algebra.proofs.best.BestAlgebra.unit.Goals as goal

pub returns : goal.returns
returns c = same_amount (search rules)
