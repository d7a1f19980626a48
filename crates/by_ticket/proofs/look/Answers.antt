use Rattle.std.proofs.Common.{[]}
use Rattle.shelves.specs.Held.{state_of}
use Rattle.by_ticket.specs.Threads.{side_by_side}
use Rattle.by_ticket.proofs.Holding.{told}
use Rattle.by_ticket.proofs.look.Goals as goal

pub returns : goal.returns
returns g c =
    let m = g.V.Algebra.model in
    let f = g.V.Algebra.means in
    let built = c.in_ok-ticket in
    let holds = built.ensures.plan [] c.open-rack.ensures.promise.0 in
    told m f (state_of m f c.build.new.rack.core) built.ticket.shelf (side_by_side c.args.sweep.now c.args.radar.now) holds c.report-report.result c.report-report.ensures
