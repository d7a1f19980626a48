-- The figure covers every tick of every run, and the first tick that reaches it.
use Rattle.std.proofs.Common.{◌≡◌, ℕ, ◌<◌, ◌≢◌, ◌⊎◌, Some, sym, ap, ◌∙◌, subst, inl, inr, arith}
use Rattle.algebra.specs.Model.{Model, Laws}
use Rattle.algebra.specs.Coefficients.{Coef, join}
use Rattle.runs.specs.Plan.{Plan}
use Rattle.runs.specs.Runs.{End, paused, left, Runs}
use Rattle.runs.specs.Joined.{Joined}
use Rattle.runs.specs.Weights.{weight_at, Weighs, JoinedRows}
use Rattle.runs.specs.Figure.{Repeats, figure, Occurs, Covers, FirstAt}
use Rattle.runs.proofs.Joined.{Below, below_trans, below_antisym, widen, or, range, joins_above, member}
use Rattle.runs.proofs.Earlier.{last_there}

module _ (m : Model) (laws : Laws m) {X : Type 0} (weigh : X → m.Carrier) {plan : Plan X} {p e : ℕ → Coef m} (r : JoinedRows m weigh plan p e) where
  abbrev cell : ℕ → Coef m
  cell n = join m (p n) (e n)

  -- a weight at the last tick of a run
  abbrev AtLast : ℕ → m.Carrier → Type 0
  AtLast n w = Weighs m weigh (Runs plan paused) n w ⊎ Weighs m weigh (Runs plan left) n w

  at_last : (n : ℕ) → Joined m (AtLast n) (cell n)
  at_last n = or m laws (r.pauses n) (r.leaves n)

  occurs_last : (n : ℕ) (w : m.Carrier) → Occurs m weigh plan n w → AtLast n w
  occurs_last n w o =
      let h = last_there m laws weigh plan o.end o.run o.of_plan n o.within in
      subst (AtLast n) o.weighs (by_end h.0 h.1)
    where
      by_end : (f : End) → Weighs m weigh (Runs plan f) n (weight_at m weigh o.run n) → AtLast n (weight_at m weigh o.run n)
      by_end paused k = inl k
      by_end left k = inr k

  last_occurs : (f : End) (n : ℕ) (w : m.Carrier) → Weighs m weigh (Runs plan f) n w → Occurs m weigh plan n w
  last_occurs f n w h = record { end = f; run = h.run; of_plan = h.of_set; within = omega (arith, h.long); weighs = h.weighs }

  module _ (N : ℕ) (repeats : Repeats m p e N) where
    below_figure : (n : ℕ) → Below m (cell n) (figure m p e N)
    below_figure n =
        let k = repeats n in
        subst (λ c. Below m c (figure m p e N)) (sym (ap (λ c. join m c (e n)) k.2 ∙ ap (join m (p k.0)) k.3)) (joins_above m laws cell k.0 N k.1)

    occurs_below : (n : ℕ) (w : m.Carrier) → Occurs m weigh plan n w → Below m (Some w) (figure m p e N)
    occurs_below n w o = below_trans m laws (Some w) (cell n) (figure m p e N) ((at_last n).upper w (occurs_last n w o)) (below_figure n)

    figure_joined : Joined m (λ w. (n : ℕ) × Occurs m weigh plan n w) (figure m p e N)
    figure_joined = widen m laws there (λ w h. occurs_below h.0 w h.1) (range m laws N (λ k l. at_last k))
      where
        there : (w : m.Carrier) → (k : ℕ) × (k < N) × AtLast k w → (n : ℕ) × Occurs m weigh plan n w
        there w h =
            elim h.2 [
              | inl k ↦ (h.0, last_occurs paused h.0 w k)
              | inr k ↦ (h.0, last_occurs left h.0 w k)
            ]

    pub covers : Covers m weigh plan (figure m p e N)
    covers = record {
      some_weights = figure_joined.members;
      made = figure_joined.made;
      unbettered = λ n w o better. better (occurs_below n w o);
    }

    pub first_at : ((a b : m.Carrier) → (m.join a b ≡ a) ⊎ (m.join a b ≡ b)) → (w : m.Carrier) → figure m p e N ≡ Some w
        → (t : ℕ) → cell t ≡ Some w → ((n : ℕ) → n < t → cell n ≢ Some w) → FirstAt m weigh plan t w
    first_at chosen w whole t here least =
        elim (member m laws chosen (subst (Joined m (AtLast t)) here (at_last t))) [
          | inl k ↦ record { end = paused; reached = k; earlier = not_earlier }
          | inr k ↦ record { end = left; reached = k; earlier = not_earlier }
        ]
      where
        not_earlier : (n : ℕ) → n < t → Occurs m weigh plan n w → ⊥
        not_earlier n l o =
            least n l (below_antisym m laws (cell n) (Some w) (subst (Below m (cell n)) whole (below_figure n)) ((at_last n).upper w (occurs_last n w o)))
