use Rattle.tick_list.specs.Listings.{arc_line}
use Rattle.tick_list.proofs.Numbering.{written_more}
use Rattle.tick_list.proofs.listing.put_arcs.Goals as goal

pub loop-i-preserved : goal.loop-i-preserved
loop-i-preserved g c =
    written_more arc_line _ _ _ c.args.arcs.now c.loop-i.i _ c.loop-i-test.true c.loop-i.invariant c.in_ok-put_arc.ensures
