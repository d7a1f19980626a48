-- Table: the situation is a set of states, {0} at first.
use Rattle.std.specs.Prelude.{ℕ, Bool, true, false, cond, not, ◌&&◌, List, [], ◌∷◌, Some, None, nat_lt}
use Rattle.algebra.specs.declared.arc.Arc.{Arc}
use Rattle.algebra.specs.Model.{Model}
use Rattle.algebra.specs.Coefficients.{Coef, join}
use Rattle.rows.specs.Sets.{has, with_member}
use Rattle.rows.specs.Rules.Rule.{Rule, situation}

-- does the arc lead to a state?
abbrev pub stays : Arc → Bool
stays arc = nat_lt arc.to 64

-- does the arc begin at a member of the set and stay, or lead out, as said?
abbrev pub current : (set : ℕ) (stay : Bool) → Arc → Bool
current set true arc = has set arc.from && stays arc
current set false arc = has set arc.from && not (stays arc)

-- the join of the weights of the set's arcs that stay, or that lead out
abbrev pub weights : (m : Model) (set : ℕ) (stay : Bool) → List Arc → Coef m
weights m set stay [] = None
weights m set stay (arc ∷ arcs) = cond (current set stay arc) (join m (Some (m.weigh arc.label)) (weights m set stay arcs)) (weights m set stay arcs)

-- the states that the set's arcs lead to
abbrev pub reached : (set : ℕ) → List Arc → ℕ
reached set [] = 0
reached set (arc ∷ arcs) = cond (current set true arc) (with_member (reached set arcs) arc.to) (reached set arcs)

-- of the arcs that begin in the set, pause joins the weights of those that lead to a state, exit of those that lead out; the
-- states led to are the next set
abbrev pub table : (m : Model) (arcs : List Arc) → Rule m
table m arcs = record {
  first = situation 0 0 1 false false;
  pause = λ s. weights m s.set true arcs;
  exit = λ s. weights m s.set false arcs;
  next = λ s. situation 0 0 (reached s.set arcs) false false;
}
