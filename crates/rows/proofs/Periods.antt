-- Rows that repeat: periods carried over the row, and how the least shape is known from one round.
use Rattle.std.proofs.Common.{◌≡◌, ℕ, zero, suc, ◌+◌, ◌-◌, ◌*◌, ◌/◌, ◌%◌, ◌<◌, ◌≤◌, ltb, sym, ap, ◌∙◌, ⊎_elim, add-zero, suc-mul, mul-le-mul_left, div-add-mod', zero-mul, mul-one, arith}
use Rattle.std.proofs.lemmas.Bool.{cases_lt, cond-true, cond-false, lt-ltb, le-ltb}
use Rattle.rows.specs.Phases.{phase}
use Rattle.algebra.specs.Model.{Model}
use Rattle.rows.specs.Repeats.{Repeats, LeastShape}
use Rattle.rows.specs.Rules.Rule.{Rule, at, rows}
use Rattle.rows.specs.Search.{folded, RoundHas, LeastPeriod, LeastTransient}
use Rattle.rows.proofs.PhaseLaws.{phase_early, phase_late}

-- a situation that equals an earlier one: from there on situations come again
comes_again : {m : Model} (rule : Rule m) (i n : ℕ) → at rule i ≡ at rule n → (k : ℕ) → at rule (i + k) ≡ at rule (n + k)
comes_again rule i n e zero =
    ap (at rule) (add-zero i) ∙ e ∙ sym (ap (at rule) (add-zero n))
comes_again rule i n e (suc k) =
    ap (at rule) {y = suc (i + k)} (omega arith)
    ∙ ap rule.next (comes_again rule i n e k)
    ∙ ap (at rule) {x = suc (n + k)} (omega arith)

-- and both rows repeat, with the distance as a period
pub repeating : {m : Model} (rule : Rule m) (i n : ℕ) → i < n → at rule i ≡ at rule n → Repeats (rows rule) i (n - i)
repeating rule i n some e k h =
    ap (λ s. (rule.pause s, rule.exit s))
    (ap (at rule) {y = n + (k - i)} (omega arith)
    ∙ sym (comes_again rule i n e (k - i))
    ∙ ap (at rule) {x = i + (k - i)} (omega arith))

-- a whole round on, taken back, is the same tick
pub whole_round : (i n k : ℕ) → i ≤ k → i ≤ n → folded i n (k + (n - i)) ≡ k
whole_round i n k low some =
    cond-false (ltb (k + (n - i)) n) _ _ (le-ltb (k + (n - i)) n (omega arith)) ∙ omega arith

module _ {X : Type 0} (row : ℕ → X) where
  -- any number of rounds on
  pub rounds : (t d : ℕ) → Repeats row t d → (k n : ℕ) → t ≤ n → row (n + k * d) ≡ row n
  rounds t d r zero n h = ap row {y = n} (omega (arith, zero-mul d))
  rounds t d r (suc k) n h =
      ap row {y = n + k * d + d} (omega (arith, suc-mul k d)) ∙ r (n + k * d) (omega arith) ∙ rounds t d r k n h

  -- a row that repeats from i on, with any period from anywhere, has that period from i on
  pub period_from : (i D : ℕ) → 1 ≤ D → Repeats row i D → (t d : ℕ) → Repeats row t d → Repeats row i d
  period_from i D pos base t d r n h =
      let far : t ≤ t * D = omega (arith, mul-le-mul_left t pos, mul-one t) in
      sym (rounds i D base t (n + d) (omega arith))
      ∙ ap row {y = n + t * D + d} (omega arith)
      ∙ r (n + t * D) (omega arith)
      ∙ rounds i D base t n h

  -- one round with the period, and the row has it from there on
  pub period_round : (i D d : ℕ) → 1 ≤ D → Repeats row i D → ((t : ℕ) → i ≤ t → t < i + D → row (t + d) ≡ row t) → Repeats row i d
  period_round i D d pos base round n h = go n n h (omega arith)
    where
      go : (fuel t : ℕ) → i ≤ t → t ≤ fuel → row (t + d) ≡ row t
      go zero t h f = round t h (omega arith)
      go (suc fuel) t h f = ⊎_elim
          (λ near. round t h near)
          (λ far.
          ap row {y = t - D + d + D} (omega arith)
          ∙ base (t - D + d) (omega arith)
          ∙ go fuel (t - D) (omega arith) (omega arith)
          ∙ sym (base (t - D) (omega arith))
          ∙ ap row {x = t - D + D} (omega arith))
          (cases_lt t (i + D))

  -- the coefficient at a tick is that at its phase
  pub at_phase : (t d : ℕ) → 1 ≤ d → Repeats row t d → (n : ℕ) → row n ≡ row (phase t d n)
  at_phase t d pos r n = ⊎_elim
      (λ early. ap row (sym (phase_early t d pos n early)))
      (λ late.
      ap row {y = t + (n - t) % d + (n - t) / d * d} (omega (arith, div-add-mod' (n - t) d))
      ∙ rounds t d r ((n - t) / d) (t + (n - t) % d) (omega arith)
      ∙ ap row (sym (phase_late t d pos n late)))
      (cases_lt n t)

  module _ (i n : ℕ) (some : i < n) (base : Repeats row i (n - i)) where
    -- a tick taken back into the first round has the same coefficient
    folded_same : (k : ℕ) → i ≤ k → k < n + (n - i) → row (folded i n k) ≡ row k
    folded_same k h far = ⊎_elim
        (λ near. ap row (cond-true (ltb k n) k (k - (n - i)) (lt-ltb k n near)))
        (λ past.
        ap row (cond-false (ltb k n) k (k - (n - i)) (le-ltb k n past))
        ∙ sym (base (k - (n - i)) (omega arith))
        ∙ ap row {x = k - (n - i) + (n - i)} (omega arith))
        (cases_lt k n)

    -- what one round has, the row has from there on, and the other way round
    round_gives : (d : ℕ) → d ≤ n - i → RoundHas row i n d → Repeats row i d
    round_gives d few round =
        period_round i (n - i) d (omega arith) base
        (λ k h near. sym (folded_same (k + d) (omega arith) (omega arith)) ∙ round k h (omega arith))

    gives_round : (t d : ℕ) → d ≤ n - i → Repeats row t d → RoundHas row i n d
    gives_round t d few r k h near =
        folded_same (k + d) (omega arith) (omega arith) ∙ period_from i (n - i) (omega arith) base t d r k h

    pub least_shape : (d t : ℕ) → LeastPeriod row i n d → LeastTransient row i d t → LeastShape row t d
    least_shape d t p q = record {
      positive = p.positive;
      repeats = back_to;
      least_period = λ t' c pos r. ⊎_elim
          (λ less. absurd (p.least c pos less (gives_round t' c (omega arith) r)))
          (λ more. more)
          (cases_lt c d);
      least_transient = λ t' r. ⊎_elim
          (λ less. absurd (q.least (t - 1) (omega arith) (r (t - 1) (omega arith))))
          (λ more. more)
          (cases_lt t' t);
    }
      where
        back_to : Repeats row t d
        back_to k h = ⊎_elim
            (λ early. q.back k h early)
            (λ late. round_gives d p.within p.round k late)
            (cases_lt k i)
