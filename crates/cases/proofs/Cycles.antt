-- Coefficients of cycles: when two are equal, and the laws of worst and best.
use Rattle.std.proofs.Common.{◌≡◌, Bool, true, false, ◌&&◌, eqb, Some, None, Decides, Option, refl, ap}
use Rattle.std.proofs.lemmas.Bool.Decides.{Decides-like}
use Rattle.algebra.specs.Held.{Held}
use Rattle.algebra.specs.Models.{top, worst, best}
use Rattle.algebra.specs.HeldLemmas as held
use Rattle.rows.proofs.Meanings.{decides_pair}
use Rattle.cases.proofs.Working.{Compared}

-- are the two coefficients the same?
abbrev pub same_cycles : Option (Held top) → Option (Held top) → Bool
same_cycles None None = true
same_cycles None (Some b) = false
same_cycles (Some a) None = false
same_cycles (Some a) (Some b) = eqb a.amount b.amount

pub decides_cycles : (c d : Option (Held top)) → Decides (same_cycles c d) (c ≡ d)
decides_cycles None None = (λ e. refl, λ e. refl)
decides_cycles None (Some b) = (λ e. cc, λ e. cc)
decides_cycles (Some a) None = (λ e. cc, λ e. cc)
decides_cycles (Some a) (Some b) = Decides-like _ (ap Some) (λ e. cc) (held.decides_same a b)

abbrev Pair : Type 0
Pair = Option (Held top) × Option (Held top)

-- are pause and exit the same?
abbrev pub same : Pair → Pair → Bool
same x y = same_cycles x.0 y.0 && same_cycles x.1 y.1

pub decides : (x y : Pair) → Decides (same x y) (x ≡ y)
decides x y = decides_pair _ _ (decides_cycles x.0 y.0) (decides_cycles x.1 y.1)

abbrev pub worsts : Compared worst
worsts = record {
  laws = record {
    join_assoc = held.larger_assoc;
    join_comm = held.larger_comm;
    join_self = held.larger_self;
    add_assoc = held.sum_assoc;
    add_comm = held.sum_comm;
    add_unit = held.sum_zero;
    add_join = held.sum_larger;
  };
  same = same;
  decides = decides;
}

abbrev pub bests : Compared best
bests = record {
  laws = record {
    join_assoc = held.smaller_assoc;
    join_comm = held.smaller_comm;
    join_self = held.smaller_self;
    add_assoc = held.sum_assoc;
    add_comm = held.sum_comm;
    add_unit = held.sum_zero;
    add_join = held.sum_smaller;
  };
  same = same;
  decides = decides;
}
