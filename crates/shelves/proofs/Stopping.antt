-- What unrolling refuses, a call refuses.
use Rattle.algebra.specs.Model.{Model}
use Rattle.rows.specs.declared.outcome.Unkept.{Unkept}
use Rattle.rows.specs.declared.outcome.Unkept.TheVariants.{NeverSoon, TooLong}
use Rattle.rows.specs.Outcomes.{Refused}
use Rattle.rows.specs.Rules.Rule.{Rule}
use Rattle.shelves.specs.Stops.{Stopped, stop_of}

pub stopped : {m : Model} (rule : Rule m) (found : Unkept) → Refused rule found → Stopped rule (stop_of found)
stopped rule NeverSoon h = h
stopped rule TooLong h = h
