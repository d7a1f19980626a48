-- The joined weights of forks.
use Rattle.std.proofs.Common.{◌≡◌, ℕ, zero, suc, ◌-◌, ◌<◌, ◌≤◌, ◌⊎◌, length, sym, refl, ap, ◌∙◌, subst, inl, inr, arith}
use native.Mathlib.Decide.{ℕ_discrete}
use Rattle.algebra.specs.Model.{Model, Laws}
use Rattle.algebra.specs.Coefficients.{Coef, join}
use Rattle.runs.specs.Runs.{End, paused, left, both, Ticks, Family, over, Forked}
use Rattle.runs.specs.Joined.{Joined}
use Rattle.runs.specs.Weights.{weight_at, Weighs}
use Rattle.runs.proofs.Ends.{left_not_paused}
use Rattle.runs.proofs.Ticks.{over_length}
use Rattle.runs.proofs.Filled.{Filled}
use Rattle.runs.proofs.Joined.{Sum, Gated, empty, one, same, or, sum, gated}
use Rattle.runs.proofs.Forms.{mark, fork_pauses, fork_leaves}
use Rattle.runs.proofs.Weights.{Row, weighed, over_sum, sum_over, past_weight}

module _ (m : Model) (laws : Laws m) {X : Type 0} (weigh : X → m.Carrier) where
  -- some run has ended before tick n, and adds the unit there
  abbrev Gone : (Ticks X → Type 0) → ℕ → m.Carrier → Type 0
  Gone A n w = ((k : ℕ) × (k < n) × ((v : m.Carrier) × Weighs m weigh A k v)) × (w ≡ m.unit)

  gone : {A : Ticks X → Type 0} {e : ℕ → Coef m} → Row m weigh A e → (n : ℕ) → Joined m (Gone A n) (mark m e n)
  gone row zero = empty m laws (λ w h. omega (arith, h.0.1))
  gone {A} row (suc n) = same m laws there back (gated m laws (or m laws (gone row n) (row n)) (one m laws {W = λ w. w ≡ m.unit} refl (λ w h. h)))
    where
      there : (w : m.Carrier) → Gated m (λ v. Gone A n v ⊎ Weighs m weigh A n v) (λ v. v ≡ m.unit) w → Gone A (suc n) w
      there w h =
          elim h.0.1 [
            | inl g ↦ ((g.0.0, omega (arith, g.0.1), g.0.2), h.1)
            | inr k ↦ ((n, omega arith, (h.0.0, k)), h.1)
          ]

      back : (w : m.Carrier) → Gone A (suc n) w → Gated m (λ v. Gone A n v ⊎ Weighs m weigh A n v) (λ v. v ≡ m.unit) w
      back w h =
          let k = h.0.0 in
          let l : k < suc n = h.0.1 in
          elim (ℕ_discrete k n) [
            | yes e ↦ ((h.0.2.0, inr (subst (λ i. Weighs m weigh A i h.0.2.0) e h.0.2.1)), h.1)
            | no e ↦ ((m.unit, inl ((k, omega arith, h.0.2), refl)), h.1)
          ]

  -- a run that has ended at tick n or before, with what it adds there
  record Within (A : Ticks X → Type 0) (n : ℕ) (w : m.Carrier) : Type 0 where
    pub run : Ticks X
    pub of_set : A run
    pub short : length run ≤ suc n
    pub weighs : weight_at m weigh run n ≡ w

  -- a run of k + 1 ticks, k below n
  gone_run : (A : Ticks X → Type 0) (ts : Ticks X) (n : ℕ) → A ts → 0 < length ts → length ts ≤ n → Gone A n (weight_at m weigh ts n)
  gone_run A ts n a p l =
      let k : ℕ = length ts - 1 in
      ((k, omega arith, (weight_at m weigh ts k, weighed m weigh A ts k a (omega arith))), past_weight m laws weigh ts n l)

  gone_within : (A : Ticks X → Type 0) (n : ℕ) (w : m.Carrier) → Gone A n w → Within A n w
  gone_within A n w h =
      let r = h.0.2.1 in
      let l : length r.run ≤ n = omega (arith, h.0.1, r.long) in
      record { run = r.run; of_set = r.of_set; short = omega arith; weighs = past_weight m laws weigh r.run n l ∙ sym h.1 }

  within : {A : Ticks X → Type 0} {e : ℕ → Coef m} → Filled A → Row m weigh A e → (n : ℕ) → Joined m (Within A n) (join m (e n) (mark m e n))
  within {A} fa row n = same m laws there back (or m laws (row n) (gone row n))
    where
      there : (w : m.Carrier) → Weighs m weigh A n w ⊎ Gone A n w → Within A n w
      there w (inl h) = record { run = h.run; of_set = h.of_set; short = omega (arith, h.long); weighs = h.weighs }
      there w (inr h) = gone_within A n w h

      back : (w : m.Carrier) → Within A n w → Weighs m weigh A n w ⊎ Gone A n w
      back w h =
          let l : length h.run ≤ suc n = h.short in
          elim (ℕ_discrete (length h.run) (suc n)) [
            | yes e ↦ inl (record { run = h.run; of_set = h.of_set; long = e; weighs = h.weighs })
            | no e ↦ inr (subst (Gone A n) h.weighs (gone_run A h.run n h.of_set (fa h.run h.of_set) (omega arith)))
          ]

  within_run : (A : Ticks X → Type 0) (ts : Ticks X) (n : ℕ) → A ts → length ts ≤ suc n → Within A n (weight_at m weigh ts n)
  within_run A ts n a l = record { run = ts; of_set = a; short = l; weighs = refl }

  -- two runs side by side, as a run of the fork
  forked_run : (A B : Family X) (e c d : End) (xs ys : Ticks X) (n : ℕ) (v u w : m.Carrier) → A c xs → B d ys
      → (c ≡ paused → length ys ≤ length xs) → (d ≡ paused → length xs ≤ length ys) → e ≡ both c d → length (over xs ys) ≡ suc n
      → weight_at m weigh xs n ≡ v → weight_at m weigh ys n ≡ u → w ≡ m.add v u → Weighs m weigh (Forked A B e) n w
  forked_run A B e c d xs ys n v u w a b fl sl ends l wx wy sums = record {
    run = over xs ys;
    of_set = record {
      first_end = c;
      second_end = d;
      first = xs;
      second = ys;
      of_first = a;
      of_second = b;
      first_lasts = fl;
      second_lasts = sl;
      has_ended = ends;
      made = refl;
    };
    long = l;
    weighs = sum_over m laws weigh xs ys n v u w wx wy sums;
  }

  module _ (A B : Family X) where
    -- A paused and B paused or left by then, or A left by then and B paused
    abbrev ForkPauses : ℕ → m.Carrier → Type 0
    ForkPauses n w =
        Sum m (Weighs m weigh (A paused) n) (λ u. Weighs m weigh (B paused) n u ⊎ Within (B left) n u) w
        ⊎ Sum m (Within (A left) n) (Weighs m weigh (B paused) n) w

    fork_pauses_there : (n : ℕ) (w : m.Carrier) (c d : End) (xs ys : Ticks X) → A c xs → B d ys
        → (c ≡ paused → length ys ≤ length xs) → (d ≡ paused → length xs ≤ length ys) → paused ≡ both c d → length (over xs ys) ≡ suc n
        → w ≡ m.add (weight_at m weigh xs n) (weight_at m weigh ys n) → ForkPauses n w
    fork_pauses_there n w paused paused xs ys a b fl sl ends l sums =
        let even : length xs ≡ length ys = omega (arith, fl refl, sl refl) in
        let o = over_length xs ys in
        inl (weight_at m weigh xs n, weight_at m weigh ys n, weighed m weigh (A paused) xs n a (omega arith), inl (weighed m weigh (B paused) ys n b (omega arith)), sums)
    fork_pauses_there n w paused left xs ys a b fl sl ends l sums =
        let longer : length ys ≤ length xs = fl refl in
        let o = over_length xs ys in
        inl (weight_at m weigh xs n, weight_at m weigh ys n, weighed m weigh (A paused) xs n a (omega arith), inr (within_run (B left) ys n b (omega arith)), sums)
    fork_pauses_there n w left paused xs ys a b fl sl ends l sums =
        let longer : length xs ≤ length ys = sl refl in
        let o = over_length xs ys in
        inr (weight_at m weigh xs n, weight_at m weigh ys n, within_run (A left) xs n a (omega arith), weighed m weigh (B paused) ys n b (omega arith), sums)
    fork_pauses_there n w left left xs ys a b fl sl ends l sums = left_not_paused (sym ends)

    fork_pauses_back : (n : ℕ) (w : m.Carrier) → ForkPauses n w → Weighs m weigh (Forked A B paused) n w
    fork_pauses_back n w (inl h) =
        let x = h.2 in
        elim h.3 [
          | inl y ↦
              forked_run A B paused paused paused x.run y.run n h.0 h.1 w x.of_set y.of_set
              (λ q. omega (arith, x.long, y.long)) (λ q. omega (arith, x.long, y.long)) refl
              (omega (arith, over_length x.run y.run, x.long, y.long)) x.weighs y.weighs h.4
          | inr y ↦
              forked_run A B paused paused left x.run y.run n h.0 h.1 w x.of_set y.of_set
              (λ q. omega (arith, x.long, y.short)) left_not_paused refl
              (omega (arith, over_length x.run y.run, x.long, y.short)) x.weighs y.weighs h.4
        ]
    fork_pauses_back n w (inr h) =
        let x = h.2 in
        let y = h.3 in
        forked_run A B paused left paused x.run y.run n h.0 h.1 w x.of_set y.of_set
        left_not_paused (λ q. omega (arith, x.short, y.long)) refl
        (omega (arith, over_length x.run y.run, x.short, y.long)) x.weighs y.weighs h.4

    -- both left, A at tick n or A before and B at tick n
    abbrev ForkLeaves : ℕ → m.Carrier → Type 0
    ForkLeaves n w = Sum m (Weighs m weigh (A left) n) (Within (B left) n) w ⊎ Sum m (Gone (A left) n) (Weighs m weigh (B left) n) w

    fork_leaves_there : Filled (A left) → (n : ℕ) (w : m.Carrier) (c d : End) (xs ys : Ticks X) → A c xs → B d ys → left ≡ both c d → length (over xs ys) ≡ suc n
        → w ≡ m.add (weight_at m weigh xs n) (weight_at m weigh ys n) → ForkLeaves n w
    fork_leaves_there fa n w paused d xs ys a b ends l sums = left_not_paused ends
    fork_leaves_there fa n w left paused xs ys a b ends l sums = left_not_paused ends
    fork_leaves_there fa n w left left xs ys a b ends l sums =
        let o = over_length xs ys in
        elim (ℕ_discrete (length xs) (suc n)) [
          | yes q ↦ inl (weight_at m weigh xs n, weight_at m weigh ys n, weighed m weigh (A left) xs n a q, within_run (B left) ys n b (omega arith), sums)
          | no q ↦ inr (weight_at m weigh xs n, weight_at m weigh ys n, gone_run (A left) xs n a (fa xs a) (omega arith), weighed m weigh (B left) ys n b (omega arith), sums)
        ]

    fork_leaves_back : (n : ℕ) (w : m.Carrier) → ForkLeaves n w → Weighs m weigh (Forked A B left) n w
    fork_leaves_back n w (inl h) =
        let x = h.2 in
        let y = h.3 in
        forked_run A B left left left x.run y.run n h.0 h.1 w x.of_set y.of_set left_not_paused left_not_paused refl
        (omega (arith, over_length x.run y.run, x.long, y.short)) x.weighs y.weighs h.4
    fork_leaves_back n w (inr h) =
        let x = gone_within (A left) n h.0 h.2 in
        let y = h.3 in
        forked_run A B left left left x.run y.run n h.0 h.1 w x.of_set y.of_set left_not_paused left_not_paused refl
        (omega (arith, over_length x.run y.run, x.short, y.long)) x.weighs y.weighs h.4

  pub forked_pauses : (A B : Family X) {pa ea pb eb : ℕ → Coef m} → Filled (A left) → Filled (B left)
      → Row m weigh (A paused) pa → Row m weigh (A left) ea → Row m weigh (B paused) pb → Row m weigh (B left) eb
      → Row m weigh (Forked A B paused) (fork_pauses m pa ea pb eb)
  forked_pauses A B fa fb p e q f n =
      same m laws (fork_pauses_back A B n) there (or m laws (sum m laws (p n) (or m laws (q n) (within fb f n))) (sum m laws (within fa e n) (q n)))
    where
      there : (w : m.Carrier) → Weighs m weigh (Forked A B paused) n w → ForkPauses A B n w
      there w h =
          let r = h.of_set in
          fork_pauses_there A B n w r.first_end r.second_end r.first r.second r.of_first r.of_second r.first_lasts r.second_lasts
          r.has_ended (sym (ap length r.made) ∙ h.long) (over_sum m laws weigh h.run r.first r.second n w r.made h.weighs)

  pub forked_leaves : (A B : Family X) {ea eb : ℕ → Coef m} → Filled (A left) → Filled (B left)
      → Row m weigh (A left) ea → Row m weigh (B left) eb → Row m weigh (Forked A B left) (fork_leaves m ea eb)
  forked_leaves A B fa fb e f n =
      same m laws (fork_leaves_back A B n) there (or m laws (sum m laws (e n) (within fb f n)) (sum m laws (gone e n) (f n)))
    where
      there : (w : m.Carrier) → Weighs m weigh (Forked A B left) n w → ForkLeaves A B n w
      there w h =
          let r = h.of_set in
          fork_leaves_there A B fa n w r.first_end r.second_end r.first r.second r.of_first r.of_second
          r.has_ended (sym (ap length r.made) ∙ h.long) (over_sum m laws weigh h.run r.first r.second n w r.made h.weighs)
