-- The joined weights of tied runs.
use Rattle.std.proofs.Common.{◌≡◌, ℕ, suc, ◌-◌, ◌<◌, ◌⊎◌, [], length, get_or, sym, refl, ap, ◌∙◌, inl, inr, arith}
use native.Mathlib.Decide.{ℕ_discrete}
use Rattle.algebra.specs.Model.{Model, Laws}
use Rattle.algebra.specs.Coefficients.{Coef}
use Rattle.runs.specs.Runs.{Ticks, tie, Tied}
use Rattle.runs.specs.Joined.{Joined, joins}
use Rattle.runs.specs.Weights.{weight, weight_at, Weighs}
use Rattle.runs.proofs.Ticks.{tie_length, tie_seam, tie_past}
use Rattle.runs.proofs.Filled.{Filled}
use Rattle.runs.proofs.Joined.{gate, Sum, Gated, same, or, sum, gated, range}
use Rattle.runs.proofs.Forms.{tied_row}
use Rattle.runs.proofs.Weights.{Row, weight_append}

module _ (m : Model) {X : Type 0} (weigh : X → m.Carrier) (A B : Ticks X → Type 0) where
  -- the second run begins at tick n
  abbrev pub Begun : ℕ → m.Carrier → Type 0
  Begun n w = Sum m (Weighs m weigh A n) (Weighs m weigh B 0) w

  -- the second run has gone on k + 1 ticks since it began
  abbrev pub Since : ℕ → m.Carrier → Type 0
  Since n w = (k : ℕ) × (k < n) × Gated m (Weighs m weigh A (n - suc k)) (Weighs m weigh B (suc k)) w

module _ (m : Model) (laws : Laws m) {X : Type 0} (weigh : X → m.Carrier) where
  pub tied_there : (A B : Ticks X → Type 0) → Filled A → Filled B → (n : ℕ) (w : m.Carrier) → Weighs m weigh (Tied A B) n w
      → Begun m weigh A B n w ⊎ Since m weigh A B n w
  tied_there A B fa fb n w h =
      let t = h.of_set in
      let xs = t.first in
      let ys = t.second in
      let px : 0 < length xs = fa xs t.of_first in
      let py : 0 < length ys = fb ys t.of_second in
      let len : length h.run ≡ length (tie xs ys) = ap length t.made in
      let long : length h.run ≡ suc n = h.long in
      let sum = tie_length xs ys px py in
      let here : w ≡ weight_at m weigh (tie xs ys) n = sym h.weighs ∙ ap (λ ts. weight_at m weigh ts n) t.made in
      elim (ℕ_discrete (length ys) 1) [
        | yes e ↦
            inl (
              weight_at m weigh xs n,
              weight_at m weigh ys 0,
              record { run = xs; of_set = t.of_first; long = omega arith; weighs = refl },
              record { run = ys; of_set = t.of_second; long = e; weighs = refl },
              here ∙ ap (weight m weigh) (tie_seam xs ys n (omega arith)) ∙ weight_append m laws weigh (get_or xs n []) (get_or ys 0 []),
            )
        | no e ↦
            let k : ℕ = length ys - 2 in
            inr (
              k,
              omega arith,
              (
                (weight_at m weigh xs (n - suc k), record { run = xs; of_set = t.of_first; long = omega arith; weighs = refl }),
                record { run = ys; of_set = t.of_second; long = omega arith; weighs = sym (here ∙ ap (weight m weigh) (tie_past xs ys k n px (omega arith))) },
              ),
            )
      ]

  pub tied_back : (A B : Ticks X → Type 0) (n : ℕ) (w : m.Carrier) → Begun m weigh A B n w ⊎ Since m weigh A B n w → Weighs m weigh (Tied A B) n w
  tied_back A B n w (inl h) =
      let xs = h.2.run in
      let ys = h.3.run in
      let lx : length xs ≡ suc n = h.2.long in
      let ly : length ys ≡ 1 = h.3.long in
      let wx : weight_at m weigh xs n ≡ h.0 = h.2.weighs in
      let wy : weight_at m weigh ys 0 ≡ h.1 = h.3.weighs in
      record {
        run = tie xs ys;
        of_set = record { first = xs; second = ys; of_first = h.2.of_set; of_second = h.3.of_set; made = refl };
        long = omega (arith, tie_length xs ys (omega arith) (omega arith));
        weighs = ap (weight m weigh) (tie_seam xs ys n lx) ∙ weight_append m laws weigh (get_or xs n []) (get_or ys 0 []) ∙ (cc h.4);
      }
  tied_back A B n w (inr h) =
      let k = h.0 in
      let below : k < n = h.1 in
      let xs = h.2.0.1.run in
      let ys = h.2.1.run in
      let lx : length xs ≡ suc (n - suc k) = h.2.0.1.long in
      let ly : length ys ≡ suc (suc k) = h.2.1.long in
      record {
        run = tie xs ys;
        of_set = record { first = xs; second = ys; of_first = h.2.0.1.of_set; of_second = h.2.1.of_set; made = refl };
        long = omega (arith, tie_length xs ys (omega arith) (omega arith));
        weighs = ap (weight m weigh) (tie_past xs ys k n (omega arith) (omega arith)) ∙ h.2.1.weighs;
      }

  pub since : (A B : Ticks X → Type 0) {a b : ℕ → Coef m} (n : ℕ) → ((i : ℕ) → i < n → Joined m (Weighs m weigh A i) (a i)) → Row m weigh B b
      → Joined m (Since m weigh A B n) (joins m (λ k. gate m (a (n - suc k)) (b (suc k))) n)
  since A B n j k = range m laws n (λ i l. gated m laws (j (n - suc i) (omega arith)) (k (suc i)))

  pub tied : {A B : Ticks X → Type 0} {a b : ℕ → Coef m} → Filled A → Filled B → Row m weigh A a → Row m weigh B b
      → Row m weigh (Tied A B) (tied_row m a b)
  tied {A} {B} fa fb j k n =
      same m laws (tied_back A B n) (tied_there A B fa fb n) (or m laws (sum m laws (j n) (k 0)) (since A B n (λ i l. j i) k))
