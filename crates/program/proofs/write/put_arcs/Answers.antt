use Rattle.std.proofs.Common.{arith}
use Rattle.std.proofs.lemmas.Grind.{common_steps}
use Rattle.std.proofs.lemmas.List.Elements.{All-more}
use Rattle.program.specs.Format.{FitsArc}
use Rattle.program.proofs.write.put_arcs.Goals as goal

pub loop-arc-preserved : goal.loop-arc-preserved
loop-arc-preserved c = (All-more FitsArc c.args.arcs.now _ _ c.loop-arc-test.true c.loop-arc.invariant.0 c.in_ok-put_arc.ensures.0, grind (arith, common_steps))
