use Rattle.shelves.specs.Held.{state_of}
use Rattle.by_ticket.proofs.Holding.{perhaps_forked}
use Rattle.by_ticket.proofs.build.build.Goals as goal

pub returns-in-Ok : goal.returns-in-Ok
returns-in-Ok g c =
    let m = g.V.Algebra.model in
    let f = g.V.Algebra.means in
    let one = c.in_ok-first in
    let two = c.in-Ok in
    record {
      names = c.fork.ensures.names;
      plan = perhaps_forked m
          (state_of m f c.args.rack.now.core) (state_of m f c.table.new.self.core) (state_of m f c.table-2.new.self.core) (state_of m f c.fork.new.rack.core)
          c.args.sweep.now c.args.radar.now one.field-0.number two.field-0.number
          one.ensures.answers two.ensures.answers
          one.field-0.ticket two.field-0.ticket one.ensures.ticket two.ensures.ticket
          c.fork.result c.fork.ensures.ticket c.fork.ensures.answers;
    }
