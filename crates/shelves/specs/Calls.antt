-- The calls of a rack, with their arguments, a ticket as its shelf.
use Rattle.std.specs.Prelude.{ℕ, Bool, true, false, List, [], ◌∷◌, ◌++◌, map, Option}
use Rattle.algebra.specs.declared.arc.Arc.{Arc}
use Rattle.algebra.specs.declared.label.Label.{Label}
use Rattle.algebra.specs.Model.{Model}
use Rattle.algebra.specs.Coefficients.{Coef}
use Rattle.shelves.specs.declared.call.Pairing.{Pairing}
use Rattle.shelves.specs.declared.refusal.Refusal.{Refusal}

-- the calls: leaves, two shelves put together, a loop, clear and report
pub data Call : Type 0 where
  node : (shelf : ℕ) → Label → Call
  pause : (shelf : ℕ) → Label → Call
  table : (shelf : ℕ) → List Arc → Call
  pair : Pairing → (first second : ℕ) → Call
  loop : (shelf : ℕ) → Call
  clear : (shelf : ℕ) → Call
  report : (shelf : ℕ) → Call

-- what the questions of a call are about: the shelves that it fills anew, those that it uses as they are filled,
-- the labels and the table that it brings, the shelf that it loops, and whether it builds, that is, records a step
pub record About : Type 0 where
  pub fresh : List ℕ
  pub used : List ℕ
  pub labels : List Label
  pub tables : List (List Arc)
  pub looped : List ℕ
  pub builds : Bool

abbrev pub about : Call → About
about (node k l) = record { fresh = k ∷ []; used = []; labels = l ∷ []; tables = []; looped = []; builds = true }
about (pause k l) = record { fresh = k ∷ []; used = []; labels = l ∷ []; tables = []; looped = []; builds = true }
about (table k arcs) = record { fresh = k ∷ []; used = []; labels = map (λ a. a.label) arcs; tables = arcs ∷ []; looped = []; builds = true }
about (pair kind a b) = record { fresh = []; used = a ∷ b ∷ []; labels = []; tables = []; looped = []; builds = true }
about (loop k) = record { fresh = []; used = k ∷ []; labels = []; tables = []; looped = k ∷ []; builds = true }
about (clear k) = record { fresh = []; used = k ∷ []; labels = []; tables = []; looped = []; builds = false }
about (report k) = record { fresh = []; used = k ∷ []; labels = []; tables = []; looped = []; builds = false }

-- the shelves that a call names
abbrev pub named : Call → List ℕ
named c = (about c).fresh ++ (about c).used

-- what report gives: the figure, the first tick that reaches it, and the shape
pub record Report (m : Model) : Type 0 where
  pub figure : Coef m
  pub tick : Option ℕ
  pub transient : ℕ
  pub period : ℕ

pub data Reply (m : Model) : Type 0 where
  accepted : ℕ → Reply m
  reported : Report m → Reply m
  refused : Refusal → Reply m

-- an event of a history: a call and its reply
pub record Event (m : Model) : Type 0 where
  pub call : Call
  pub reply : Reply m
