-- When a call is refused for what unrolling finds.
use Rattle.std.specs.Prelude.{◌≡◌, ℕ, List, Ok, Err, Result}
use Rattle.algebra.specs.declared.arc.Arc.{Arc}
use Rattle.algebra.specs.Model.{Model}
use Rattle.rows.specs.Rules.Rule.{Rule, rows}
use Rattle.rows.specs.declared.outcome.Unkept.{Unkept}
use Rattle.rows.specs.declared.outcome.Unkept.TheVariants as found
use Rattle.rows.specs.Unrolled as unrolled
use Rattle.runs.specs.declared.step.Step.{Step}
use Rattle.shelves.specs.declared.refusal.Refusal.{Refusal}
use Rattle.shelves.specs.declared.refusal.Refusal.TheVariants.{NeverRepeats, TooLong}
use Rattle.shelves.specs.Effects.{Puts, Turns}
use Rattle.shelves.specs.State.{State}

-- the refusal for what unrolling found
abbrev pub stop_of : Unkept → Refusal
stop_of found.NeverSoon = NeverRepeats
stop_of found.TooLong = TooLong

-- by 12 where no situation is repeated soon enough, by 13 where the least shape is too long, and by no other
abbrev pub Stopped : {m : Model} → Rule m → Refusal → Type 0
Stopped rule NeverRepeats = unrolled.NeverSoon rule
Stopped rule TooLong = unrolled.TooLong rule
Stopped rule other = ⊥

-- what unrolling a rule onto shelf k does, by its answer
abbrev pub Built : (m : Model) → Rule m → (k : ℕ) → Step → List Arc → State m → State m → Result ℕ Refusal → Type 0
Built m rule k step more s s' (Ok n) = Turns m rule n × Puts m (rows rule) k step more s s'
Built m rule k step more s s' (Err found) = Stopped rule found × (s' ≡ s)
