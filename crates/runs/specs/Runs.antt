-- The runs of a plan: lists of ticks, each of which has ended paused or left.
-- Each kind of plan has an operator on families of runs; `Runs` only applies them.
use Rattle.std.specs.Prelude.{◌≡◌, ℕ, zero, suc, ◌<◌, ◌≤◌, ◌⊎◌, List, [], ◌∷◌, ◌++◌, length}
use mathlib.Core.List.{Memᴰ as Among}
use Rattle.runs.specs.Plan.{Lead, state, out, Arc, Plan, node, pause, table, choice, sequence, loop, fork, abort}

pub data End : Type 0 where
  paused : End
  left : End

-- how a run has ended whose last arc leads there
abbrev pub ended : Lead → End
ended (state s) = paused
ended out = left

-- left when both have left
abbrev pub both : End → End → End
both paused f = paused
both left f = f

-- the ticks of a run from 0, each with what it holds
abbrev pub Ticks : Type 0 → Type 0
Ticks X = List (List X)

-- the runs of each end
abbrev pub Family : Type 0 → Type 1
Family X = End → Ticks X → Type 0

module _ {X : Type 0} where
  -- tick by tick; the shorter adds empty ticks
  abbrev pub over : Ticks X → Ticks X → Ticks X
  over [] ys = ys
  over (x ∷ xs) [] = x ∷ xs
  over (x ∷ xs) (y ∷ ys) = (x ++ y) ∷ over xs ys

  -- one after the other: the last tick of the first and the first of the second become one tick
  abbrev pub tie : Ticks X → Ticks X → Ticks X
  tie [] ys = ys
  tie (x ∷ []) ys = over (x ∷ []) ys
  tie (x ∷ x' ∷ xs) ys = x ∷ tie (x' ∷ xs) ys

  -- a run of A tied to a run of B
  pub record Tied (A B : Ticks X → Type 0) (ts : Ticks X) : Type 0 where
    pub first : Ticks X
    pub second : Ticks X
    pub of_first : A first
    pub of_second : B second
    pub made : ts ≡ tie first second

  -- k + 1 runs of A tied in a row
  abbrev pub chained : (Ticks X → Type 0) → ℕ → Ticks X → Type 0
  chained A zero = A
  chained A (suc k) = Tied (chained A k) A

  -- a run of A and a run of B beside it, of equal length
  pub record Abreast (A B : Ticks X → Type 0) (ts : Ticks X) : Type 0 where
    pub first : Ticks X
    pub second : Ticks X
    pub of_first : A first
    pub of_second : B second
    pub even : length first ≡ length second
    pub made : ts ≡ over first second

  -- one tick with its label, left
  abbrev pub noded : X → Family X
  noded x paused ts = ⊥
  noded x left ts = ts ≡ (x ∷ []) ∷ []

  -- one tick with its label, paused; also that tick and then an empty one, left
  abbrev pub rested : X → Family X
  rested x paused ts = ts ≡ (x ∷ []) ∷ []
  rested x left ts = ts ≡ (x ∷ []) ∷ [] ∷ []

  -- ticks that follow arcs, one a tick, from where an arc led
  abbrev pub walked : List (Arc X) → Lead → Family X
  walked arcs at e [] = e ≡ ended at
  walked arcs (state s) e (t ∷ ts) = (a : Arc X) × Among a arcs × (a.from ≡ s) × (t ≡ a.label ∷ []) × walked arcs a.lead e ts
  walked arcs out e (t ∷ ts) = ⊥

  -- one tick or more along arcs from state 0
  abbrev pub tabled : List (Arc X) → Family X
  tabled arcs e ts = (0 < length ts) × walked arcs (state 0) e ts

  -- the runs of A and the runs of B
  abbrev pub chosen : Family X → Family X → Family X
  chosen A B e ts = A e ts ⊎ B e ts

  -- the paused runs of A, and each left run of A tied to each run of B
  abbrev pub sequenced : Family X → Family X → Family X
  sequenced A B paused ts = A paused ts ⊎ Tied (A left) (B paused) ts
  sequenced A B left ts = Tied (A left) (B left) ts

  -- runs of A tied in a row, all left but the last, which is paused
  abbrev pub looped : Family X → Family X
  looped A paused ts = A paused ts ⊎ ((k : ℕ) × Tied (chained (A left) k) (A paused) ts)
  looped A left ts = ⊥

  -- a run of A and a run of B, tick by tick; a paused one is never the shorter
  pub record Forked (A B : Family X) (e : End) (ts : Ticks X) : Type 0 where
    pub first_end : End
    pub second_end : End
    pub first : Ticks X
    pub second : Ticks X
    pub of_first : A first_end first
    pub of_second : B second_end second
    pub first_lasts : first_end ≡ paused → length second ≤ length first
    pub second_lasts : second_end ≡ paused → length first ≤ length second
    pub has_ended : e ≡ both first_end second_end
    pub made : ts ≡ over first second

  -- a run of H that leaves one tick after a paused run of A, so that its last tick stands alone
  pub record Cut (H A : Family X) (ts : Ticks X) : Type 0 where
    pub first : Ticks X
    pub second : Ticks X
    pub of_first : H left first
    pub of_second : A paused second
    pub later : length first ≡ suc (length second)
    pub made : ts ≡ over first second

  -- H over A. Left: H in its first tick, H one tick after A, or A with H paused beside it
  abbrev pub aborted : Family X → Family X → Family X
  aborted H A paused ts = Abreast (H paused) (A paused) ts
  aborted H A left ts = (H left ts × (length ts ≡ 1)) ⊎ Cut H A ts ⊎ Abreast (H paused) (A left) ts

  -- the runs of a plan
  abbrev pub Runs : Plan X → Family X
  Runs (node x) = noded x
  Runs (pause x) = rested x
  Runs (table arcs) = tabled arcs
  Runs (choice a b) = chosen (Runs a) (Runs b)
  Runs (sequence a b) = sequenced (Runs a) (Runs b)
  Runs (loop a) = looped (Runs a)
  Runs (fork a b) = Forked (Runs a) (Runs b)
  Runs (abort h a) = aborted (Runs h) (Runs a)
