-- The labels of entries, and their weights added.
use Rattle.std.specs.Prelude.{List, [], ◌∷◌, map}
use Rattle.std.specs.List.{flat_map}
use Rattle.algebra.specs.declared.label.Label.{Label}
use Rattle.algebra.specs.Model.{Model}
use Rattle.program.specs.declared.record.Record.{Record}
use Rattle.program.specs.Entries.{Entry, entry, node, pause, table, choice, sequence, repeat, fork, abort, clear}

-- one label for each node, pause and arc
abbrev pub labels : Entry → List Label
labels (node s l) = l ∷ []
labels (pause s l) = l ∷ []
labels (table s arcs) = map (λ a. a.label) arcs
labels (choice a b) = []
labels (sequence a b) = []
labels (repeat s) = []
labels (fork a b) = []
labels (abort a b) = []
labels (clear s) = []

-- the labels of all records, in order
abbrev pub all_labels : List Record → List Label
all_labels records = flat_map (λ r. labels (entry r)) records

-- the weights of labels added to a meaning, the first label's first
abbrev pub added : (m : Model) → m.Carrier → List Label → m.Carrier
added m x [] = x
added m x (l ∷ ls) = added m (m.add x (m.weigh l)) ls
