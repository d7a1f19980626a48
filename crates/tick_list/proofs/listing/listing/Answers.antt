use Rattle.std.proofs.Common.{◌≡◌, ℕ, List, ◌++◌, map, length, Some, None, Option, Result, Ok, Err, OnOk, refl, sym, subst}
use Rattle.std.proofs.KnownBytes.{Appends-trans}
use Rattle.std.proofs.lemmas.List.{length-map}
use Rattle.std.specs.Io.KnownBytes.{Appends}
use Rattle.program.specs.declared.refusal.Refusal.{Refusal}
use Rattle.program.specs.Entries.{Entry, entry}
use Rattle.program.specs.Files.{Holds}
use Rattle.tick_list.specs.Listings.{numbered, record_lines, ending_words, refused_words, Lists}
use Rattle.tick_list.proofs.listing.listing.Goals as goal

-- the lines of the records, and then those of the ending
lists : {T E : Type 0} (r : Result T E) (bytes : List ℕ) (old mid new : Option (List ℕ)) (es : List Entry) (why : Option Refusal) → Holds bytes es why
    → Appends old mid (numbered record_lines 0 es) → OnOk r (Appends mid new (ending_words es why)) → OnOk r (Lists bytes old new)
lists (Ok x) bytes old mid new es why holds lines ending = record {
  text = numbered record_lines 0 es ++ ending_words es why;
  listing = record { entries = es; refusal = why; holds = holds; says = refl };
  written = Appends-trans old mid new _ _ lines ending;
}
lists (Err e) bytes old mid new es why holds lines ending = tt

pub returns-in-None : goal.returns-in-None
returns-in-None g c =
    let es = map entry c.as_slice-records.result.now in
    let holds : Holds c.args.bytes.now es None =
    subst (Holds c.args.bytes.now es) c.in-None.is (subst (λ rs. Holds c.args.bytes.now (map entry rs) c.in_ok-held.held.refusal) (sym c.as_slice-records.ensures.value) c.in_ok-held.ensures) in
    lists c.put_totals.result c.args.bytes.now _ (g.W.Write.contents c.put_records.new.out) _ es None holds c.in_ok-put_records.ensures c.put_totals.ensures

pub returns : goal.returns
returns g c =
    let rs = c.as_slice-records.result.now in
    let es = map entry rs in
    let why = c.in-Some.why in
    let holds : Holds c.args.bytes.now es (Some why) =
    subst (Holds c.args.bytes.now es) c.in-Some.is (subst (λ rs. Holds c.args.bytes.now (map entry rs) c.in_ok-held.held.refusal) (sym c.as_slice-records.ensures.value) c.in_ok-held.ensures) in
    let counted : length rs ≡ length es = sym (length-map rs entry) in
    lists c.put_refusal.result c.args.bytes.now _ (g.W.Write.contents c.put_records.new.out) _ es (Some why) holds c.in_ok-put_records.ensures
    (subst (λ (n : ℕ). OnOk c.put_refusal.result (Appends (g.W.Write.contents c.put_records.new.out) (g.W.Write.contents c.put_refusal.new.out) (refused_words why n))) counted c.put_refusal.ensures)
