-- Weights of ticks put together, and weights of unions of sets of runs.
use Rattle.std.proofs.Common.{◌≡◌, ℕ, suc, ◌≤◌, ◌⊎◌, List, [], ◌∷◌, ◌++◌, length, get_or, sym, refl, ap, ◌∙◌, inl, inr}
use lib.ListN.{get_or-eq_default}
use Rattle.algebra.specs.Model.{Model, Laws}
use Rattle.algebra.specs.Coefficients.{Coef, join}
use Rattle.runs.specs.Runs.{Ticks, over}
use Rattle.runs.specs.Joined.{Joined}
use Rattle.runs.specs.Weights.{weight, weight_at, Weighs}
use Rattle.runs.proofs.Ticks.{over_at}
use Rattle.runs.proofs.Joined.{same, or}

-- a set of runs has these joined weights, tick by tick
abbrev pub Row : (m : Model) {X : Type 0} (weigh : X → m.Carrier) → (Ticks X → Type 0) → (ℕ → Coef m) → Type 0
Row m weigh A f = (n : ℕ) → Joined m (Weighs m weigh A n) (f n)

-- a larger set of runs has the weights of the smaller
pub weighs_more : (m : Model) {X : Type 0} (weigh : X → m.Carrier) {A B : Ticks X → Type 0} → ((ts : Ticks X) → A ts → B ts)
    → (n : ℕ) (w : m.Carrier) → Weighs m weigh A n w → Weighs m weigh B n w
weighs_more m weigh f n w h = record { run = h.run; of_set = f h.run h.of_set; long = h.long; weighs = h.weighs }

-- a run itself, for its weight at its last tick
pub weighed : (m : Model) {X : Type 0} (weigh : X → m.Carrier) (A : Ticks X → Type 0) (ts : Ticks X) (n : ℕ) → A ts → length ts ≡ suc n
    → Weighs m weigh A n (weight_at m weigh ts n)
weighed m weigh A ts n a l = record { run = ts; of_set = a; long = l; weighs = refl }

module _ (m : Model) (laws : Laws m) {X : Type 0} (weigh : X → m.Carrier) where
  unit_add : (w : m.Carrier) → m.add m.unit w ≡ w
  unit_add w = laws.add_comm m.unit w ∙ laws.add_unit w

  pub weight_append : (xs ys : List X) → weight m weigh (xs ++ ys) ≡ m.add (weight m weigh xs) (weight m weigh ys)
  weight_append [] ys = sym (unit_add (weight m weigh ys))
  weight_append (x ∷ xs) ys = ap (m.add (weigh x)) (weight_append xs ys) ∙ sym (laws.add_assoc (weigh x) (weight m weigh xs) (weight m weigh ys))

  over_weight : (xs ys : Ticks X) (n : ℕ) → weight_at m weigh (over xs ys) n ≡ m.add (weight_at m weigh xs n) (weight_at m weigh ys n)
  over_weight xs ys n = ap (weight m weigh) (over_at xs ys n) ∙ weight_append (get_or xs n []) (get_or ys n [])

  -- of two runs laid over one another
  pub over_sum : (ts xs ys : Ticks X) (n : ℕ) (w : m.Carrier) → ts ≡ over xs ys → weight_at m weigh ts n ≡ w → w ≡ m.add (weight_at m weigh xs n) (weight_at m weigh ys n)
  over_sum ts xs ys n w made h = sym h ∙ ap (λ us. weight_at m weigh us n) made ∙ over_weight xs ys n

  pub sum_over : (xs ys : Ticks X) (n : ℕ) (v u w : m.Carrier) → weight_at m weigh xs n ≡ v → weight_at m weigh ys n ≡ u → w ≡ m.add v u
      → weight_at m weigh (over xs ys) n ≡ w
  sum_over xs ys n v u w x y sums = over_weight xs ys n ∙ (cc)

  -- past its end a run weighs the unit
  pub past_weight : (ts : Ticks X) (n : ℕ) → length ts ≤ n → weight_at m weigh ts n ≡ m.unit
  past_weight ts n l = ap (weight m weigh) (get_or-eq_default ts [] l)

  pub same_row : {A B : Ticks X → Type 0} {f : ℕ → Coef m} → ((ts : Ticks X) → A ts → B ts) → ((ts : Ticks X) → B ts → A ts)
      → Row m weigh A f → Row m weigh B f
  same_row f g j n = same m laws (weighs_more m weigh f n) (weighs_more m weigh g n) (j n)

  -- a union of two sets of runs
  pub either_row : {A B : Ticks X → Type 0} {f g : ℕ → Coef m} → Row m weigh A f → Row m weigh B g
      → Row m weigh (λ ts. A ts ⊎ B ts) (λ n. join m (f n) (g n))
  either_row {A} {B} j k n = same m laws there back (or m laws (j n) (k n))
    where
      there : (w : m.Carrier) → Weighs m weigh A n w ⊎ Weighs m weigh B n w → Weighs m weigh (λ ts. A ts ⊎ B ts) n w
      there w (inl h) = weighs_more m weigh (λ ts. inl) n w h
      there w (inr h) = weighs_more m weigh (λ ts. inr) n w h

      back : (w : m.Carrier) → Weighs m weigh (λ ts. A ts ⊎ B ts) n w → Weighs m weigh A n w ⊎ Weighs m weigh B n w
      back w h =
          elim h.of_set [
            | inl a ↦ inl (record { run = h.run; of_set = a; long = h.long; weighs = h.weighs })
            | inr b ↦ inr (record { run = h.run; of_set = b; long = h.long; weighs = h.weighs })
          ]
