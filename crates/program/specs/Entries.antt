-- What a record says.
use Rattle.std.specs.Prelude.{ℕ, List, vec_items}
use Rattle.algebra.specs.declared.arc.Arc.{Arc}
use Rattle.algebra.specs.declared.label.Label.{Label}
use Rattle.program.specs.declared.record.Record.{Record}
use Rattle.program.specs.declared.record.Record.TheVariants.{Node, Pause, Table, Choice, Sequence, Loop, Fork, Abort, Clear}

-- the cases of a record, with the list of arcs for a table's vector
pub data Entry : Type 0 where
  node : (shelf : ℕ) (label : Label) → Entry
  pause : (shelf : ℕ) (label : Label) → Entry
  table : (shelf : ℕ) (arcs : List Arc) → Entry
  choice : (first second : ℕ) → Entry
  sequence : (first second : ℕ) → Entry
  repeat : (shelf : ℕ) → Entry
  fork : (first second : ℕ) → Entry
  abort : (first second : ℕ) → Entry
  clear : (shelf : ℕ) → Entry

-- what a record says; two records that say the same are the same step
abbrev pub entry : Record → Entry
entry (Node shelf label) = node shelf label
entry (Pause shelf label) = pause shelf label
entry (Table shelf arcs) = table shelf (vec_items arcs)
entry (Choice first second) = choice first second
entry (Sequence first second) = sequence first second
entry (Loop shelf) = repeat shelf
entry (Fork first second) = fork first second
entry (Abort first second) = abort first second
entry (Clear shelf) = clear shelf
