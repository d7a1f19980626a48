-- Rows that repeat: equal rows, the rows of a shape, and the least shape as a test.
use Rattle.std.proofs.Common.{◌≡◌, ℕ, zero, suc, ◌+◌, ◌-◌, ◌%◌, ◌<◌, ◌≤◌, Bool, true, not, ◌&&◌, leb, Decides, sym, ap, ◌∙◌, ⊎_elim, arith}
use native.Mathlib.Nat.{add-mod_right}
use Rattle.std.proofs.lemmas.Bool.{cases_lt, and_parts, leb-true}
use Rattle.std.proofs.lemmas.Bool.Decides.{Decides-not}
use Rattle.algebra.specs.Model.{Model}
use Rattle.rows.specs.Phases.{phase}
use Rattle.rows.specs.Pieces.{Rows, given_at}
use Rattle.rows.specs.Repeats.{Repeats, LeastShape}
use Rattle.rows.proofs.Periods.{period_from, at_phase}
use Rattle.rows.proofs.PhaseLaws.{phase_within, phase_late}
use Rattle.cases.proofs.Finite.{each, decides_each}

-- rows that repeat from one tick on with one period, and are equal up to the end of the first round, are equal
pub agree : {X : Type 0} (r s : ℕ → X) (i d : ℕ) → 1 ≤ d → Repeats r i d → Repeats s i d → ((k : ℕ) → k < i + d → r k ≡ s k) → (n : ℕ) → r n ≡ s n
agree r s i d pos again too same n =
    at_phase r i d pos again n ∙ same (phase i d n) (phase_within i d pos n) ∙ sym (at_phase s i d pos too n)

pub phase_again : (t d n : ℕ) → 1 ≤ d → t ≤ n → phase t d (n + d) ≡ phase t d n
phase_again t d n pos late =
    phase_late t d pos (n + d) (omega arith)
    ∙ ap (λ (x : ℕ). t + x % d) {y = n - t + d} (omega arith)
    ∙ ap (λ (x : ℕ). t + x) (add-mod_right (n - t) d)
    ∙ sym (phase_late t d pos n late)

-- rows of a shape repeat in it
pub given_repeats : {m : Model} (A : Rows m) → 1 ≤ A.period → Repeats (given_at A) A.transient A.period
given_repeats A pos n late = ap (λ (k : ℕ). (A.p k, A.e k)) (phase_again A.transient A.period n pos late)

module _ {X : Type 0} (same : X → X → Bool) (row : ℕ → X) where
  -- the d ticks from t on have the period c
  abbrev has : (t d c : ℕ) → Bool
  has t d c = each (λ k. same (row (t + k + c)) (row (t + k))) d

  -- no period below d
  abbrev shortest : (t d : ℕ) → Bool
  shortest t d = each (λ c. not (has t d (suc c))) (d - 1)

  -- the tick before t does not have the period d
  abbrev breaks : (t d : ℕ) → Bool
  breaks zero d = true
  breaks (suc t) d = not (same (row (t + d)) (row t))

  -- a shape, and none is smaller
  abbrev pub tight : (t d : ℕ) → Bool
  tight t d = leb 1 d && (shortest t d && breaks t d)

  pub positive : (t d : ℕ) → tight t d ≡ true → 1 ≤ d
  positive t d test = leb-true 1 d (and_parts (leb 1 d) _ test).0

  module _ (decides : (x y : X) → Decides (same x y) (x ≡ y)) where
    no_period : (t d : ℕ) → shortest t d ≡ true → (c : ℕ) → c < d - 1 → ((k : ℕ) → k < d → row (t + k + suc c) ≡ row (t + k)) → ⊥
    no_period t d test = (decides_each _ _ (λ c. Decides-not _ (decides_each _ _ (λ k. decides _ _) d)) (d - 1)).0 test

    no_transient : (t d : ℕ) → breaks t d ≡ true → (u : ℕ) → u < t → Repeats row u d → ⊥
    no_transient zero d test u less r = omega arith
    no_transient (suc t) d test u less r = (Decides-not _ (decides _ _)).0 test (r t (omega arith))

    pub least : (t d : ℕ) → tight t d ≡ true → Repeats row t d → LeastShape row t d
    least t d test again =
        let pos = positive t d test in
        let parts = and_parts (shortest t d) (breaks t d) (and_parts (leb 1 d) _ test).1 in
        record {
          positive = pos;
          repeats = again;
          least_period = λ u c some r. ⊎_elim
              (λ less.
              let from : Repeats row t c = period_from row t d pos again u c r in
              absurd (no_period t d parts.0 (c - 1) (omega arith) (λ k l. ap row {y = t + k + c} (omega arith) ∙ from (t + k) (omega arith))))
              (λ more. more)
              (cases_lt c d);
          least_transient = λ u r. ⊎_elim (λ less. absurd (no_transient t d parts.1 u less r)) (λ more. more) (cases_lt u t);
        }
