use Rattle.std.proofs.Common.{◌≡◌, map, get_or, sym, ap, ◌∙◌, arith, subst}
use Rattle.std.proofs.lemmas.List.{get_or-map, length-map}
use Rattle.std.specs.Io.KnownBytes.{Appends}
use Rattle.program.specs.Entries.{Entry, entry}
use Rattle.tick_list.specs.Listings.{record_lines}
use Rattle.tick_list.proofs.Numbering.{written_more}
use Rattle.tick_list.proofs.listing.put_records.Goals as goal

pub loop-i-preserved : goal.loop-i-preserved
loop-i-preserved g c =
    let rs = c.args.records.now in
    let here = c.index-records-i.result in
    let at : entry here ≡ get_or (map entry rs) c.loop-i.i (entry here) =
    ap entry c.index-records-i.is ∙ sym (get_or-map entry rs c.loop-i.i here (entry here) c.loop-i-test.true) in
    written_more record_lines _ _ _ (map entry rs) c.loop-i.i (entry here) (omega (arith, length-map rs entry)) c.loop-i.invariant
    (subst (λ (e : Entry). Appends (g.W.Write.contents c.loop-i.out) (g.W.Write.contents c.put_record.new.out) (record_lines c.loop-i.i e)) at c.in_ok-put_record.ensures)
