-- What a listed file does to a rack, said of what the rack holds before and after.
use Rattle.std.specs.Prelude.{ℕ, List, map, MatchOption, Option, Result}
use Rattle.algebra.specs.Model.{Model}
use Rattle.program.specs.declared.file.Listing.{Listing}
use Rattle.program.specs.declared.record.Record.{Record}
use Rattle.program.specs.Entries.{entry}
use Rattle.shelves.specs.declared.core_state.Core.{Core}
use Rattle.shelves.specs.declared.report.Report.{Report}
use Rattle.shelves.specs.Held.{state_of}
use Rattle.shelves.specs.Told.{report_of}
use Rattle.analyser.specs.declared.fault.Fault.{Fault}
use Rattle.analyser.specs.Files.{Took, Only, Sole, Works, found_of}

module _ (m : Model) {V : Type 0} (means : V → m.Carrier) where
  -- every record is accepted, or the first that is refused stops them
  abbrev pub CoreTook : List Record → (before after : Core V) → Result (Unit {0}) Fault → Type 0
  CoreTook records before after result = Took m (map entry records) (state_of m means before) (state_of m means after) result

  -- the report of the one filled shelf, or None where not exactly one is filled
  abbrev pub CoreSole : Core V → Option (Report V) → Type 0
  CoreSole core found =
      MatchOption found ((k : ℕ) → Only m (state_of m means core) k → ⊥) (λ told. Sole m (state_of m means core) (report_of m means told))

  -- what the records and the ending of a file do
  abbrev pub CoreWorks : Listing → (before after : Core V) → Result (Report V) Fault → Type 0
  CoreWorks listing before after found =
      Works m (map entry listing.records.items) listing.refusal (state_of m means before) (state_of m means after) (found_of m means found)
