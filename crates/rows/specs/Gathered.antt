-- What the arcs of a table come to together.
use Rattle.std.specs.Prelude.{ℕ, ◌^◌, Bool, cond, List, [], ◌∷◌, Some, None, bit_or}
use Rattle.std.specs.Option.{option_map}
use Rattle.algebra.specs.declared.arc.Arc.{Arc}
use Rattle.algebra.specs.Model.{Model}
use Rattle.algebra.specs.Coefficients.{Coef, join}
use Rattle.rows.specs.declared.table.Gathered.{Gathered as Held}
use Rattle.rows.specs.Rules.Table.{stays}

-- the joined weights of the arcs that stay and of those that lead out, and the states that the first lead to
pub record Gathered (m : Model) : Type 0 where
  pub stay : Coef m
  pub out : Coef m
  pub states : ℕ

module _ (m : Model) where
  -- of no arc
  abbrev pub nothing : Gathered m
  nothing = record { stay = None; out = None; states = 0 }

  -- of one arc
  abbrev pub one : Arc → Gathered m
  one arc = cond (stays arc)
      (record { stay = Some (m.weigh arc.label); out = None; states = 2 ^ arc.to })
      (record { stay = None; out = Some (m.weigh arc.label); states = 0 })

  -- of both
  abbrev pub together : Gathered m → Gathered m → Gathered m
  together a b = record { stay = join m a.stay b.stay; out = join m a.out b.out; states = bit_or a.states b.states }

  -- of the arcs that pass the test
  abbrev pub gathered : (Arc → Bool) → List Arc → Gathered m
  gathered test [] = nothing
  gathered test (arc ∷ arcs) = cond (test arc) (together (one arc) (gathered test arcs)) (gathered test arcs)

  -- what is held means
  abbrev pub held : {V : Type 0} → (V → m.Carrier) → Held V → Gathered m
  held means g = record { stay = option_map means g.stay; out = option_map means g.out; states = g.states }
