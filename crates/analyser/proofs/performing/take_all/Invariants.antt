use Rattle.std.proofs.Common.{map, take}
use Rattle.program.specs.Entries.{entry}
use Rattle.shelves.specs.Held.{state_of}
use Rattle.analyser.specs.Files.{Takes}
use Rattle.analyser.proofs.performing.take_all.Given as goal

abbrev pub invariant-loop-i : goal.invariant-loop-i
invariant-loop-i g l =
    let m = g.V.Algebra.model in
    let f = g.V.Algebra.means in
    Takes m (map entry (take l.i l.records)) (state_of m f l.initial.rack.core) (state_of m f l.rack.core)
