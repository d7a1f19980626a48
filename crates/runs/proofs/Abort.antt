-- The joined weights of runs abreast, and of aborts.
use Rattle.std.proofs.Common.{◌≡◌, ℕ, zero, suc, ◌⊎◌, length, sym, refl, ap, ◌∙◌, inl, inr, arith}
use Rattle.algebra.specs.Model.{Model, Laws}
use Rattle.algebra.specs.Coefficients.{Coef, add}
use Rattle.runs.specs.Runs.{paused, left, Ticks, Family, over, Abreast, aborted}
use Rattle.runs.specs.Joined.{Joined}
use Rattle.runs.specs.Weights.{weight_at, Weighs}
use Rattle.runs.proofs.Ticks.{over_length}
use Rattle.runs.proofs.Filled.{Filled}
use Rattle.runs.proofs.Joined.{Sum, Gated, one, same, or, sum, gated}
use Rattle.runs.proofs.Forms.{alive, abort_leaves}
use Rattle.runs.proofs.Weights.{Row, weighed, over_sum, sum_over, past_weight}

module _ (m : Model) (laws : Laws m) {X : Type 0} (weigh : X → m.Carrier) where
  abreast_there : (A B : Ticks X → Type 0) (n : ℕ) (w : m.Carrier) (ts : Ticks X) → Abreast A B ts → length ts ≡ suc n → weight_at m weigh ts n ≡ w
      → Sum m (Weighs m weigh A n) (Weighs m weigh B n) w
  abreast_there A B n w ts t l h =
      let xs = t.first in
      let ys = t.second in
      let len : length ts ≡ length (over xs ys) = ap length t.made in
      let o = over_length xs ys in (
        weight_at m weigh xs n,
        weight_at m weigh ys n,
        weighed m weigh A xs n t.of_first (omega (arith, t.even)),
        weighed m weigh B ys n t.of_second (omega (arith, t.even)),
        over_sum m laws weigh ts xs ys n w t.made h,
      )

  abreast_back : (A B : Ticks X → Type 0) (n : ℕ) (w : m.Carrier) → Sum m (Weighs m weigh A n) (Weighs m weigh B n) w
      → Weighs m weigh (Abreast A B) n w
  abreast_back A B n w h =
      let x = h.2 in
      let y = h.3 in
      record {
        run = over x.run y.run;
        of_set = record { first = x.run; second = y.run; of_first = x.of_set; of_second = y.of_set; even = x.long ∙ sym y.long; made = refl };
        long = omega (arith, over_length x.run y.run, x.long, y.long);
        weighs = sum_over m laws weigh x.run y.run n h.0 h.1 w x.weighs y.weighs h.4;
      }

  pub abreast : {A B : Ticks X → Type 0} {a b : ℕ → Coef m} → Row m weigh A a → Row m weigh B b → Row m weigh (Abreast A B) (λ n. add m (a n) (b n))
  abreast {A} {B} j k n = same m laws (abreast_back A B n) (λ w h. abreast_there A B n w h.run h.of_set h.long h.weighs) (sum m laws (j n) (k n))

  -- tick 0, or some run was paused one tick before: it adds the unit
  abbrev Alive : (Ticks X → Type 0) → ℕ → m.Carrier → Type 0
  Alive A zero w = w ≡ m.unit
  Alive A (suc n) w = Gated m (Weighs m weigh A n) (λ v. v ≡ m.unit) w

  still : {A : Ticks X → Type 0} {p : ℕ → Coef m} → Row m weigh A p → (n : ℕ) → Joined m (Alive A n) (alive m p n)
  still row zero = one m laws refl (λ w h. h)
  still row (suc n) = gated m laws (row n) (one m laws {W = λ w. w ≡ m.unit} refl (λ w h. h))

  module _ (H A : Family X) (fa : Filled (A paused)) where
    -- H left where A was still there, or A left beside H
    abbrev AbortLeaves : ℕ → m.Carrier → Type 0
    AbortLeaves n w = Sum m (Weighs m weigh (H left) n) (Alive (A paused) n) w ⊎ Sum m (Weighs m weigh (H paused) n) (Weighs m weigh (A left) n) w

    abort_there : (n : ℕ) (w : m.Carrier) (ts : Ticks X) → aborted H A left ts → length ts ≡ suc n → weight_at m weigh ts n ≡ w → AbortLeaves n w
    abort_there zero w ts (inl k) l h = inl (w, m.unit, record { run = ts; of_set = k.0; long = l; weighs = h }, refl, sym (laws.add_unit w))
    abort_there (suc n) w ts (inl k) l h = absurd (omega (arith, k.1))
    abort_there zero w ts (inr (inl k)) l h =
        absurd (omega (arith, ap length k.made, over_length k.first k.second, k.later, fa k.second k.of_second))
    abort_there (suc n) w ts (inr (inl k)) l h =
        let xs = k.first in
        let ys = k.second in
        let len : length ts ≡ length (over xs ys) = ap length k.made in
        let o = over_length xs ys in
        let lx : length xs ≡ suc (suc n) = omega (arith, k.later) in
        let ly : length ys ≡ suc n = omega (arith, k.later) in
        inl (
          weight_at m weigh xs (suc n),
          m.unit,
          weighed m weigh (H left) xs (suc n) k.of_first lx,
          ((weight_at m weigh ys n, weighed m weigh (A paused) ys n k.of_second ly), refl),
          over_sum m laws weigh ts xs ys (suc n) w k.made h ∙ ap (m.add (weight_at m weigh xs (suc n))) (past_weight m laws weigh ys (suc n) (omega arith)),
        )
    abort_there n w ts (inr (inr k)) l h = inr (abreast_there (H paused) (A left) n w ts k l h)

    abort_back : (n : ℕ) (w : m.Carrier) → AbortLeaves n w → Weighs m weigh (aborted H A left) n w
    abort_back zero w (inl h) =
        let x = h.2 in
        record {
          run = x.run;
          of_set = inl (x.of_set, x.long);
          long = x.long;
          weighs = x.weighs ∙ sym (h.4 ∙ ap (m.add h.0) h.3 ∙ laws.add_unit h.0);
        }
    abort_back (suc n) w (inl h) =
        let x = h.2 in
        let y = h.3.0.1 in
        let past : weight_at m weigh y.run (suc n) ≡ m.unit = past_weight m laws weigh y.run (suc n) (omega (arith, y.long)) in
        record {
          run = over x.run y.run;
          of_set = inr (inl (record { first = x.run; second = y.run; of_first = x.of_set; of_second = y.of_set; later = omega (arith, x.long, y.long); made = refl }));
          long = omega (arith, over_length x.run y.run, x.long, y.long);
          weighs = sum_over m laws weigh x.run y.run (suc n) h.0 h.1 w x.weighs (past ∙ sym h.3.1) h.4;
        }
    abort_back n w (inr h) =
        let t = abreast_back (H paused) (A left) n w h in
        record { run = t.run; of_set = inr (inr t.of_set); long = t.long; weighs = t.weighs }

  pub aborted_leaves : (H A : Family X) {ph eh pa ea : ℕ → Coef m} → Filled (A paused)
      → Row m weigh (H paused) ph → Row m weigh (H left) eh → Row m weigh (A paused) pa → Row m weigh (A left) ea
      → Row m weigh (aborted H A left) (abort_leaves m ph eh pa ea)
  aborted_leaves H A fa hp he p e n =
      same m laws (abort_back H A fa n) (λ w h. abort_there H A fa n w h.run h.of_set h.long h.weighs)
      (or m laws (sum m laws (he n) (still p n)) (sum m laws (hp n) (e n)))
