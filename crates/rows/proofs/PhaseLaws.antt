-- The phase of every tick: in its row, one after the other, and in closed form.
use Rattle.std.proofs.Common.{◌≡◌, ℕ, zero, suc, ◌+◌, ◌-◌, ◌%◌, ◌<◌, ◌≤◌, ltb, refl, ap, ◌∙◌, ⊎_elim, mod-lt, mod-eq_of_lt, arith}
use native.Mathlib.Nat.{suc-mod, mod_self, zero-mod}
use Rattle.std.proofs.lemmas.Bool.{cases_lt, cond-true, cond-false, lt-ltb, le-ltb}
use Rattle.rows.specs.Phases.{after, phase, Phases}

module _ (t d : ℕ) where
  pub after_below : (k : ℕ) → suc k < t + d → after t d k ≡ suc k
  after_below k h = cond-true (ltb (suc k) (t + d)) (suc k) t (lt-ltb (suc k) (t + d) h)

  pub after_round : (k : ℕ) → t + d ≤ suc k → after t d k ≡ t
  after_round k h = cond-false (ltb (suc k) (t + d)) (suc k) t (le-ltb (suc k) (t + d) h)

  pub after_within : (k : ℕ) → 1 ≤ d → after t d k < t + d
  after_within k pos = ⊎_elim
      (λ h. let e = after_below k h in omega arith)
      (λ h. let e = after_round k h in omega arith)
      (cases_lt (suc k) (t + d))

  module _ (pos : 1 ≤ d) where
    pub phase_within : (n : ℕ) → phase t d n < t + d
    phase_within zero = omega arith
    phase_within (suc n) = after_within (phase t d n) pos

    pub phase_early : (n : ℕ) → n < t → phase t d n ≡ n
    phase_early zero h = refl
    phase_early (suc n) h =
        ap (after t d) (phase_early n (omega arith)) ∙ after_below n (omega arith)

    -- one more than x, in the round of d
    round : (x : ℕ) → after t d (t + x % d) ≡ t + suc x % d
    round x =
        let low : x % d < d = mod-lt x pos in
        ⊎_elim
        (λ h. after_below (t + x % d) (omega arith)
        ∙ (let e : suc x % d ≡ suc (x % d) = suc-mod x d ∙ mod-eq_of_lt h in omega arith))
        (λ h. after_round (t + x % d) (omega arith)
        ∙ (let f : suc (x % d) ≡ d = omega arith in
        let e : suc x % d ≡ 0 = suc-mod x d ∙ ap (λ (y : ℕ). y % d) f ∙ mod_self d in omega arith))
        (cases_lt (suc (x % d)) d)

    pub phase_late : (n : ℕ) → t ≤ n → phase t d n ≡ t + (n - t) % d
    phase_late zero h =
        let e : (0 - t) % d ≡ 0 = ap (λ (y : ℕ). y % d) (omega arith) ∙ zero-mod d in omega arith
    phase_late (suc n) h = ⊎_elim
        (λ before.
        ap (after t d) (phase_early n before) ∙ after_below n (omega arith)
        ∙ (let e : (suc n - t) % d ≡ 0 = ap (λ (y : ℕ). y % d) (omega arith) ∙ zero-mod d in omega arith))
        (λ since.
        ap (after t d) (phase_late n since) ∙ round (n - t)
        ∙ ap (λ (y : ℕ). t + y % d) (omega arith))
        (cases_lt n t)

    pub phases : Phases t d
    phases = record {
      within = phase_within;
      next = λ n. refl;
      early = phase_early;
      late = phase_late;
    }
