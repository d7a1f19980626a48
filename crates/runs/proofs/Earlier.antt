-- The weight of a run at any tick is the weight of a run at its last; once pause is absent, both rows stay absent.
use Rattle.std.proofs.Common.{◌≡◌, ℕ, suc, ◌<◌, ◌⊎◌, [], length, take, Some, None, refl, ap, subst, inl, inr, arith, length-take, get_or-take}
use native.Mathlib.Decide.{dec_lt}
use Rattle.algebra.specs.Model.{Model, Laws}
use Rattle.algebra.specs.Coefficients.{Coef}
use Rattle.runs.specs.Plan.{Plan}
use Rattle.runs.specs.Runs.{End, paused, left, Ticks, Runs}
use Rattle.runs.specs.Weights.{weight, weight_at, Weighs, JoinedWeight, JoinedRows}
use Rattle.runs.proofs.Joined.{none, absent}
use Rattle.runs.proofs.Beginnings.{begins}

module _ (m : Model) (laws : Laws m) {X : Type 0} (weigh : X → m.Carrier) where
  -- at a tick before its last, that of a paused run
  pub paused_there : (plan : Plan X) (e : End) (ts : Ticks X) → Runs plan e ts → (n : ℕ) → suc n < length ts → Weighs m weigh (Runs plan paused) n (weight_at m weigh ts n)
  paused_there plan e ts h n l = record {
    run = take (suc n) ts;
    of_set = begins plan e ts h (suc n) (omega arith) l;
    long = omega (arith, length-take (suc n) ts);
    weighs = ap (weight m weigh) (get_or-take (suc n) ts n [] (omega arith));
  }

  pub last_there : (plan : Plan X) (e : End) (ts : Ticks X) → Runs plan e ts → (n : ℕ) → n < length ts → (f : End) × Weighs m weigh (Runs plan f) n (weight_at m weigh ts n)
  last_there plan e ts h n l =
      elim (dec_lt (suc n) (length ts)) [
        | yes k ↦ (paused, paused_there plan e ts h n k)
        | no k ↦ (e, record { run = ts; of_set = h; long = omega arith; weighs = refl })
      ]

  module _ {plan : Plan X} {p e : ℕ → Coef m} (r : JoinedRows m weigh plan p e) where
    -- no paused run of n + 1 ticks: no longer run
    no_longer : (n k : ℕ) → n < k → p n ≡ None → (f : End) (w : m.Carrier) → Weighs m weigh (Runs plan f) k w → ⊥
    no_longer n k l gone f w h =
        none m laws (subst (JoinedWeight m weigh plan paused n) gone (r.pauses n)) (paused_there plan f h.run h.of_set n (omega (arith, h.long)))

    -- once pause is absent, both rows stay absent
    pub absent_after : (n k : ℕ) → n < k → p n ≡ None → (p k ≡ None) × (e k ≡ None)
    absent_after n k l gone = (absent m laws (no_longer n k l gone paused) (r.pauses k), absent m laws (no_longer n k l gone left) (r.leaves k))

    -- where either row is present, pause is present at every earlier tick
    pub present_before : (n k : ℕ) → n < k → (x : m.Carrier) → (p k ≡ Some x) ⊎ (e k ≡ Some x) → (y : m.Carrier) × (p n ≡ Some y)
    present_before n k l x h = go (p n) refl
      where
        go : (c : Coef m) → p n ≡ c → (y : m.Carrier) × (p n ≡ Some y)
        go None gone =
            let a = absent_after n k l gone in
            elim h [
              | inl q ↦ let z : ◌≡◌ {A = ℕ} 0 1 = (cc a.0) in absurd (omega arith)
              | inr q ↦ let z : ◌≡◌ {A = ℕ} 0 1 = (cc a.1) in absurd (omega arith)
            ]
        go (Some y) here = (y, here)
