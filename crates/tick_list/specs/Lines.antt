-- The plain words of records and arcs.
use Rattle.std.specs.Prelude.{ℕ, if◌then◌else◌, List, ◌++◌, length, codes, decimal, ◌==◌}
use Rattle.algebra.specs.declared.arc.Arc.{Arc}
use Rattle.algebra.specs.declared.label.Label.{Label}
use Rattle.program.specs.Entries.{Entry, node, pause, table, choice, sequence, repeat, fork, abort, clear}

-- a label, after what it is the label of
abbrev pub label_words : Label → List ℕ
label_words l = codes " cycles " ++ (decimal l.cycles ++ (codes " ports " ++ decimal l.ports))

-- the name of a kind with what its records hold
abbrev pub step_words : List ℕ → ℕ → Label → List ℕ
step_words name shelf l = name ++ (codes " shelf " ++ (decimal shelf ++ label_words l))

abbrev pub shelf_words : List ℕ → ℕ → List ℕ
shelf_words name shelf = name ++ (codes " shelf " ++ decimal shelf)

abbrev pub shelves_words : List ℕ → ℕ → ℕ → List ℕ
shelves_words name a b = name ++ (codes " shelves " ++ (decimal a ++ (codes " " ++ decimal b)))

abbrev pub table_words : ℕ → ℕ → List ℕ
table_words shelf arcs = codes "table shelf " ++ (decimal shelf ++ (codes " arcs " ++ decimal arcs))

-- an entry in words
abbrev pub words : Entry → List ℕ
words (node s l) = step_words (codes "node") s l
words (pause s l) = step_words (codes "pause") s l
words (table s arcs) = table_words s (length arcs)
words (choice a b) = shelves_words (codes "choice") a b
words (sequence a b) = shelves_words (codes "sequence") a b
words (repeat s) = shelf_words (codes "loop") s
words (fork a b) = shelves_words (codes "fork") a b
words (abort a b) = shelves_words (codes "abort") a b
words (clear s) = shelf_words (codes "clear") s

-- where an arc leads: to a state, or out
abbrev pub end_words : ℕ → List ℕ
end_words to = if to == 255 then codes "out" else decimal to

-- an arc in words
abbrev pub words_of_arc : Arc → List ℕ
words_of_arc a = codes "from " ++ (decimal a.from ++ (codes " to " ++ (end_words a.to ++ label_words a.label)))
