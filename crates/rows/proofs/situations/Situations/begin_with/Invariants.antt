use Rattle.std.proofs.Common.{◌≡◌, take}
use Rattle.rows.proofs.situations.Situations.begin_with.Given as goal

abbrev pub invariant-loop-s : goal.invariant-loop-s
invariant-loop-s g l = l.self.noted.items ≡ take l.s-index l.s-items
