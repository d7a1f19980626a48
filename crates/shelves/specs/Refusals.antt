-- The numbers of refusals, and the order in which the questions of a call are asked.
use Rattle.std.specs.Prelude.{ℕ, List, [], ◌∷◌, ◌++◌}
use Rattle.shelves.specs.declared.refusal.Refusal.{Refusal}
use Rattle.shelves.specs.declared.refusal.Refusal.TheVariants.{FewCells, NoShelf, SameShelf, ShelfTaken, ShelfEmpty, ManyCycles, BadArcs, StateWithoutArc, StepsFull, ArcsFull, LeavesAtOnce, NeverRepeats, TooLong}

abbrev pub number_of : Refusal → ℕ
number_of FewCells = 1
number_of NoShelf = 2
number_of SameShelf = 3
number_of ShelfTaken = 4
number_of ShelfEmpty = 5
number_of ManyCycles = 6
number_of BadArcs = 7
number_of StateWithoutArc = 8
number_of StepsFull = 9
number_of ArcsFull = 10
number_of LeavesAtOnce = 11
number_of NeverRepeats = 12
number_of TooLong = 13

-- the order of the questions, each by the refusal that its no gives: those before unrolling
abbrev pub early : List Refusal
early = NoShelf ∷ SameShelf ∷ ShelfTaken ∷ ShelfEmpty ∷ ManyCycles ∷ BadArcs ∷ StateWithoutArc ∷ StepsFull ∷ ArcsFull ∷ LeavesAtOnce ∷ []

-- and then those of unrolling
abbrev pub order : List Refusal
order = early ++ NeverRepeats ∷ TooLong ∷ []
