use Rattle.std.proofs.Common.{map, vec_items, arith}
use Rattle.program.specs.Entries.{entry}
use Rattle.shelves.specs.Held.{state_of}
use Rattle.analyser.specs.Files.{found_of}
use Rattle.analyser.proofs.Telling.{works_tell}
use Rattle.analyser.proofs.analyse.analyse.Goals as goal

pub returns : goal.returns
returns g c =
    let m = g.V.Algebra.model in
    let f = g.V.Algebra.means in
    let listing = c.in_ok-listing.listing in
    let first = state_of m f c.open-rack.result.core in
    let last = state_of m f c.work.new.rack.core in
    let fresh = c.open-rack.ensures.fresh in (
      λ lent. record {
        entries = map entry (vec_items listing.records);
        ending = listing.refusal;
        holds = c.in_ok-listing.ensures;
        new = first;
        last = last;
        fresh = fresh;
        works = c.work.ensures;
        tells = works_tell m (map entry (vec_items listing.records)) listing.refusal first last fresh (found_of m f c.work.result) c.work.ensures;
      },
      λ few. absurd (omega arith),
    )
