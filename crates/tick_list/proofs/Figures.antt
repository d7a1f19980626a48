-- The figures of records are those of their entries.
use Rattle.std.proofs.Common.{◌≡◌, ℕ, min, List, map, length, sym, ap, ◌∙◌}
use Rattle.std.proofs.lemmas.List.{length-map}
use Rattle.std.proofs.lemmas.List.Folds.{flat_map-map}
use Rattle.algebra.specs.declared.best.Best.{Best}
use Rattle.algebra.specs.declared.ports.Ports.{Ports}
use Rattle.algebra.specs.declared.worst.Worst.{Worst}
use Rattle.algebra.specs.Models.{worst, best, ports}
use Rattle.program.specs.declared.record.Record.{Record}
use Rattle.program.specs.Entries.{entry}
use Rattle.program.specs.Weights.{labels, all_labels, added}
use Rattle.tick_list.specs.Listings.{labels_of, figures_words, totals_words}

-- the figures that are worked out from the records are those that their totals say
pub totals_from_records : (rs : List Record) (n : ℕ) (w : Worst) (b : Best) (p : Ports) → n ≡ min (length (all_labels rs)) 18446744073709551615
    → record { amount = w.cycles; within = w.within } ≡ added worst worst.unit (all_labels rs)
    → record { amount = b.cycles; within = b.within } ≡ added best best.unit (all_labels rs)
    → p.bits ≡ added ports ports.unit (all_labels rs)
    → figures_words (length rs) n w.cycles b.cycles p.bits ≡ totals_words (map entry rs)
totals_from_records rs n w b p n_is w_is b_is p_is =
    let same = sym (flat_map-map labels entry rs) in
    let es = map entry rs in
    let records : length rs ≡ length es = sym (length-map rs entry) in
    let counted : n ≡ min (length (labels_of es)) 18446744073709551615 = n_is ∙ ap (λ ls. min (length ls) 18446744073709551615) same in
    let of_worst : w.cycles ≡ (added worst worst.unit (labels_of es)).amount = ap (λ h. h.amount) w_is ∙ ap (λ ls. (added worst worst.unit ls).amount) same in
    let of_best : b.cycles ≡ (added best best.unit (labels_of es)).amount = ap (λ h. h.amount) b_is ∙ ap (λ ls. (added best best.unit ls).amount) same in
    let of_ports : p.bits ≡ added ports ports.unit (labels_of es) = p_is ∙ ap (added ports ports.unit) same in
    λ i. figures_words (records i) (counted i) (of_worst i) (of_best i) (of_ports i)
