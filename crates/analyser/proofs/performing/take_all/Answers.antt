use Rattle.std.proofs.Common.{refl, arith}
use Rattle.program.specs.Entries.{entry}
use Rattle.shelves.specs.Held.{state_of}
use Rattle.analyser.proofs.Taking.{takes_more, stops_at}
use Rattle.analyser.proofs.performing.take_all.Goals as goal

pub returns-in-Err : goal.returns-in-Err
returns-in-Err g c =
    let m = g.V.Algebra.model in
    let f = g.V.Algebra.means in (
      c.in-Err.found,
      refl,
      stops_at m entry c.args.records.now c.loop-i.i c.index-records-i.result c.index-records-i.is (omega arith)
          (state_of m f c.args.rack.now.core) (state_of m f c.loop-i.rack.core) c.loop-i.invariant
          (state_of m f c.perform.new.rack.core) c.in-Err.found c.in-Err.ensures.does,
    )

pub loop-i-preserved : goal.loop-i-preserved
loop-i-preserved g c =
    let m = g.V.Algebra.model in
    let f = g.V.Algebra.means in
    takes_more m entry c.args.records.now c.loop-i.i c.index-records-i.result c.index-records-i.is (omega arith)
    (state_of m f c.args.rack.now.core) (state_of m f c.loop-i.rack.core) c.loop-i.invariant
    c.in_default.field-0 (state_of m f c.perform.new.rack.core) c.in_default.ensures.does
