use Rattle.std.proofs.Common.{ℕ, ◌<◌, take}
use Rattle.shelves.specs.Questions.{UpToNamed}
use Rattle.shelves.proofs.arcs.states.Given as goal

abbrev pub invariant-loop-arc : goal.invariant-loop-arc
invariant-loop-arc l = (q : ℕ) → (q < l.most → UpToNamed l.arcs q) × (UpToNamed (take l.arc-index l.arcs) q → q < l.most)
