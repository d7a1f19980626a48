use Rattle.std.proofs.Common.{◌≡◌, ◌++◌, take, vec_items}
use Rattle.std.specs.Prelude.{All}
use Rattle.std.specs.List.{flat_map}
use Rattle.program.specs.Format.{FitsArc, arc_bytes}
use Rattle.program.proofs.write.put_arcs.Given as goal

abbrev pub invariant-loop-arc : goal.invariant-loop-arc
invariant-loop-arc l = All FitsArc (take l.arc-index l.arcs) × (vec_items l.out ≡ vec_items l.initial.out ++ flat_map arc_bytes (take l.arc-index l.arcs))
