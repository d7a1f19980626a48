-- What the reader of a body, which has the bytes after a record's length and kind alone, says of them.
use Rattle.std.specs.Prelude.{◌≡◌, ◌≢◌, ℕ, ◌+◌, ◌*◌, List, length, slice_index}
use Rattle.algebra.specs.declared.arc.Arc.{Arc}
use Rattle.program.specs.declared.fault.Fault.{Fault}
use Rattle.program.specs.declared.fault.Fault.TheVariants.{Refused, Memory}
use Rattle.program.specs.declared.kind.Kind.{Kind}
use Rattle.program.specs.declared.kind.Kind.TheVariants.{Table}
use Rattle.program.specs.declared.refusal.Refusal.TheVariants.{Misfit}
use Rattle.program.specs.Kinds.{due}
use Rattle.program.specs.Entries.{table}
use Rattle.program.specs.Format.{body, FitsBody}

-- a refused body has not the length of its kind; one that there is no memory for is that of a table
abbrev pub Misfits : Fault → Kind → List ℕ → Type 0
Misfits (Refused why) k bs = (why ≡ Misfit) × (4 + length bs ≢ due k (slice_index bs 1 + slice_index bs 2 * 256))
Misfits Memory k bs = (k ≡ Table) × ((shelf : ℕ) × (arcs : List Arc) × FitsBody (table shelf arcs) × (bs ≡ body (table shelf arcs)))
