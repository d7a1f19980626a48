-- The lines of a whole program file.
use Rattle.std.specs.Prelude.{◌≡◌, ℕ, ◌+◌, min, List, [], ◌∷◌, ◌++◌, length, Some, None, Option, codes, decimal}
use Rattle.std.specs.Io.KnownBytes.{Appends}
use Rattle.std.specs.List.{flat_map}
use Rattle.algebra.specs.declared.arc.Arc.{Arc}
use Rattle.algebra.specs.declared.label.Label.{Label}
use Rattle.algebra.specs.Models.{worst, best, ports}
use Rattle.algebra.specs.Words.{cycles_words}
use Rattle.program.specs.declared.refusal.Refusal.{Refusal}
use Rattle.program.specs.Entries.{Entry}
use Rattle.program.specs.Files.{Holds}
use Rattle.program.specs.Format.{arcs_of}
use Rattle.program.specs.Refusals.{number}
use Rattle.program.specs.Weights.{labels, added}
use Rattle.tick_list.specs.Lines.{words, words_of_arc}

-- what is written of each item, with its number, counted from n
abbrev pub numbered : {A : Type 0} → (ℕ → A → List ℕ) → ℕ → List A → List ℕ
numbered line n [] = []
numbered line n (x ∷ xs) = line n x ++ numbered line (n + 1) xs

-- the line of an arc, with its end
abbrev pub arc_line : ℕ → Arc → List ℕ
arc_line n a = codes "  arc " ++ (decimal n ++ (codes " " ++ (words_of_arc a ++ 10 ∷ [])))

-- the line of a record, and below it those of its arcs
abbrev pub record_lines : ℕ → Entry → List ℕ
record_lines n e = codes "record " ++ (decimal n ++ (codes " " ++ (words e ++ 10 ∷ []))) ++ numbered arc_line 0 (arcs_of e)

-- the labels of all entries, in order
abbrev pub labels_of : List Entry → List Label
labels_of es = flat_map labels es

-- a name with its figure, in a line
abbrev pub figure_line : List ℕ → List ℕ → List ℕ
figure_line name figure = name ++ (codes " " ++ (figure ++ 10 ∷ []))

-- how many records and labels there are, and the weights of all labels added
abbrev pub figures_words : (records labels worst best ports : ℕ) → List ℕ
figures_words records labels worst best ports =
    figure_line (codes "records") (decimal records)
    ++ (figure_line (codes "labels") (decimal labels)
    ++ (figure_line (codes "worst") (cycles_words worst)
    ++ (figure_line (codes "best") (cycles_words best)
    ++ figure_line (codes "ports") (decimal ports))))

-- after the last record
abbrev pub totals_words : List Entry → List ℕ
totals_words es =
    let ls = labels_of es in
    figures_words (length es) (min (length ls) 18446744073709551615)
    ((added worst worst.unit ls).amount) ((added best best.unit ls).amount) (added ports ports.unit ls)

-- after the records before a refusal: its number, and how many they are
abbrev pub refused_words : Refusal → ℕ → List ℕ
refused_words why before = codes "refused " ++ (decimal (number why) ++ (codes " record " ++ (decimal before ++ 10 ∷ [])))

-- what comes after the records
abbrev pub ending_words : List Entry → Option Refusal → List ℕ
ending_words es None = totals_words es
ending_words es (Some why) = refused_words why (length es)

-- the text is that of the records that the bytes hold, and then of their totals or of the refusal
pub record ListingOf (bytes text : List ℕ) : Type 0 where
  pub entries : List Entry
  pub refusal : Option Refusal
  pub holds : Holds bytes entries refusal
  pub says : text ≡ numbered record_lines 0 entries ++ ending_words entries refusal

-- what a writer holds, where that is known, has grown by the text of the bytes
pub record Lists (bytes : List ℕ) (old new : Option (List ℕ)) : Type 0 where
  pub text : List ℕ
  pub listing : ListingOf bytes text
  pub written : Appends old new text
