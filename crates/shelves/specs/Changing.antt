-- Calls that may change a rack, and their answers as histories have them.
use Rattle.std.specs.Prelude.{ℕ, Ok, Err, Result}
use Rattle.algebra.specs.Model.{Model}
use Rattle.shelves.specs.declared.refusal.Refusal.{Refusal}
use Rattle.shelves.specs.Calls.{Call, report, Reply, accepted, refused}

-- a call that may change the rack: every one but report
abbrev pub Changing : Call → Type 0
Changing (report k) = ⊥
Changing c = Unit {0}

-- the answer of a call that may change the rack
abbrev pub answered : (m : Model) → Result ℕ Refusal → Reply m
answered m (Ok number) = accepted number
answered m (Err found) = refused found
