-- When unrolling refuses, by each of its two answers.
use Rattle.algebra.specs.Model.{Model}
use Rattle.rows.specs.declared.outcome.Unkept.{Unkept}
use Rattle.rows.specs.declared.outcome.Unkept.TheVariants as no
use Rattle.rows.specs.Rules.Rule.{Rule}
use Rattle.rows.specs.Unrolled as unrolled

abbrev pub Refused : {m : Model} → Rule m → Unkept → Type 0
Refused rule no.NeverSoon = unrolled.NeverSoon rule
Refused rule no.TooLong = unrolled.TooLong rule
