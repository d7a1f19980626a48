-- The figure of a case, from its first ticks.
use Rattle.std.proofs.Common.{◌≡◌, ℕ, true, not, Some, ap, subst}
use Rattle.std.proofs.lemmas.Bool.Decides.{Decides-not}
use Rattle.algebra.specs.Coefficients.{Coef, join}
use Rattle.algebra.specs.Held.{held}
use Rattle.algebra.specs.Models.{top, worst}
use Rattle.algebra.specs.HeldLemmas.{larger_chooses}
use Rattle.rows.specs.Phases.{phase}
use Rattle.rows.specs.Pieces.{Rows, size, pause_at, exit_at, given_at}
use Rattle.rows.proofs.Periods.{at_phase}
use Rattle.rows.proofs.PhaseLaws.{phase_within}
use Rattle.runs.specs.Figure.{Repeats, figure, Covers}
use Rattle.runs.proofs.Figure.{covers, first_at}
use Rattle.cases.specs.Case.{Case, Stands, Peaks}
use Rattle.cases.proofs.Cycles.{worsts, same_cycles, decides_cycles}
use Rattle.cases.proofs.Finite.{each, decides_each}

module _ (c : Case worst) (w t : ℕ) where
  abbrev A : Rows worst
  A = c.rows

  abbrev cell : ℕ → Coef worst
  cell n = join worst (pause_at A n) (exit_at A n)

  abbrev whole : Coef worst
  whole = figure worst (pause_at A) (exit_at A) (size A)

  -- w is the join of all phases, tick t has it, and no earlier tick does
  abbrev Tops : Type 0
  Tops = (same_cycles whole (Some (held top w)) ≡ true) × (same_cycles (cell t) (Some (held top w)) ≡ true) × (each (λ n. not (same_cycles (cell n) (Some (held top w)))) t ≡ true)

  pub peaks : Stands c → Tops → Peaks c w t
  peaks s tops = record {
    covers = subst (Covers worst worst.weigh c.plan) is (covers worst worsts.laws worst.weigh s.weights (size A) below);
    first = first_at worst worsts.laws worst.weigh s.weights (size A) below larger_chooses (held top w) is t
        ((decides_cycles (cell t) (Some (held top w))).0 tops.1)
        ((decides_each _ _ (λ n. Decides-not _ (decides_cycles (cell n) (Some (held top w)))) t).0 tops.2);
  }
    where
      is : whole ≡ Some (held top w)
      is = (decides_cycles whole (Some (held top w))).0 tops.0

      below : Repeats worst (pause_at A) (exit_at A) (size A)
      below n =
          let e = at_phase (given_at A) A.transient A.period s.least.positive s.least.repeats n in
          (phase A.transient A.period n, phase_within A.transient A.period s.least.positive n, ap (λ x. x.0) e, ap (λ x. x.1) e)
