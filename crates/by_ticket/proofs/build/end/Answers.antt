use Rattle.shelves.specs.Calls.{clear}
use Rattle.shelves.specs.Held.{state_of}
use Rattle.tickets.specs.Tickets.{clear_reply}
use Rattle.shelves.proofs.Naming.{stays_filled}
use Rattle.by_ticket.proofs.build.end.Goals as goal

pub returns : goal.returns
returns g c =
    let m = g.V.Algebra.model in
    let f = g.V.Algebra.means in
    λ other apart names. stays_filled m (clear c.args.ticket.shelf) (clear_reply m c.clear.result) (state_of m f c.args.rack.now.core) (state_of m f c.clear.new.self.core) c.clear.ensures.answers.does other.shelf (apart, tt) names
