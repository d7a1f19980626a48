use Rattle.std.proofs.Common.{◌≡◌, ℕ, List, ◌++◌, [], None, Some, Option, IfSome, OnOk, Result, Ok, Err, ap, ◌∙◌, subst}
use Rattle.std.proofs.lemmas.Fmt.{contents_after_writes}
use Rattle.std.specs.Fmt.{WritesText}
use Rattle.std.specs.Io.KnownBytes.{Appends}
use Rattle.arrayvec.specs.ArrayString.{ArrayString}
use Rattle.tick_list.proofs.listing.put_line.Goals as goal

-- what was written into an empty line is what the writer then got
got : {T E : Type 0} (r : Result T E) (text : Option (List ℕ)) (empty line : ArrayString) (buf : List ℕ) (old new : Option (List ℕ)) → empty.bytes ≡ [] → buf ≡ line.bytes
    → WritesText (λ s bytes t. t.bytes ≡ s.bytes ++ bytes) empty text line → OnOk r (Appends old new buf) → OnOk r (IfSome text (Appends old new))
got (Err e) text empty line buf old new none is written all = tt
got (Ok x) None empty line buf old new none is written all = tt
got (Ok x) (Some bs) empty line buf old new none is written all =
    subst (Appends old new) (is ∙ contents_after_writes _ (λ (s : ArrayString). s.bytes) (λ s l t gives. gives) empty bs line written ∙ ap (λ l. l ++ bs) none) all

pub returns : goal.returns
returns g c = got c.write_all.result _ _ _ _ _ _ c.new-line.ensures (c.as_bytes.ensures.value ∙ c.as_str.ensures.value) c.in_ok-writeln.ensures.writes c.write_all.ensures.bytes
