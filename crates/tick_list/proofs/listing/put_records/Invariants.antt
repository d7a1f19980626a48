use Rattle.std.proofs.Common.{map, take}
use Rattle.std.specs.Io.KnownBytes.{Appends}
use Rattle.program.specs.Entries.{entry}
use Rattle.tick_list.specs.Listings.{numbered, record_lines}
use Rattle.tick_list.proofs.listing.put_records.Given as goal

abbrev pub invariant-loop-i : goal.invariant-loop-i
invariant-loop-i g l = Appends (g.W.Write.contents l.initial.out) (g.W.Write.contents l.out) (numbered record_lines 0 (take l.i (map entry l.records)))
