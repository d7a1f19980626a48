use Rattle.std.proofs.Common.{take}
use Rattle.std.specs.Io.KnownBytes.{Appends}
use Rattle.tick_list.specs.Listings.{numbered, arc_line}
use Rattle.tick_list.proofs.listing.put_arcs.Given as goal

abbrev pub invariant-loop-i : goal.invariant-loop-i
invariant-loop-i g l = Appends (g.W.Write.contents l.initial.out) (g.W.Write.contents l.out) (numbered arc_line 0 (take l.i l.arcs))
