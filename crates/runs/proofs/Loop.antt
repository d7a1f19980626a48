-- The joined weights of loops, from any row of starts.
use Rattle.std.proofs.Common.{◌≡◌, ℕ, zero, suc, ◌<◌, ◌⊎◌, [], ◌∷◌, length, None, sym, refl, ap, ◌∙◌, subst, inl, inr, arith}
use Rattle.algebra.specs.Model.{Model, Laws}
use Rattle.algebra.specs.Coefficients.{Coef}
use Rattle.runs.specs.Runs.{paused, left, Ticks, Family, tie, Tied, chained, looped}
use Rattle.runs.specs.Joined.{Joined}
use Rattle.runs.specs.Weights.{weight_at, Weighs}
use Rattle.runs.specs.Computes.{never}
use Rattle.runs.proofs.Ticks.{tie_empty}
use Rattle.runs.proofs.Filled.{Filled, chained_filled}
use Rattle.runs.proofs.Joined.{none, empty, one, same}
use Rattle.runs.proofs.Forms.{tied_row, Starts}
use Rattle.runs.proofs.Weights.{Row, weighs_more, same_row}
use Rattle.runs.proofs.Tied.{Since, tied_there, tied_back, since, tied}

module _ {X : Type 0} where
  -- runs of A tied in a row, or one empty tick for none
  abbrev Before : (Ticks X → Type 0) → Ticks X → Type 0
  Before A ts = (ts ≡ [] ∷ []) ⊎ ((k : ℕ) × chained A k ts)

  before_filled : {A : Ticks X → Type 0} → Filled A → Filled (Before A)
  before_filled fa ts (inl e) = omega (arith, ap length e)
  before_filled fa ts (inr h) = chained_filled fa h.0 ts h.1

  -- what is tied to one empty tick is itself
  alone : {B : Ticks X → Type 0} → Filled B → {ts xs ys : Ticks X} → xs ≡ [] ∷ [] → B ys → ts ≡ tie xs ys → B ts
  alone {B} fb {ys = ys} e b made = subst B (sym (made ∙ ap (λ u. tie u ys) e ∙ tie_empty ys (fb ys b))) b

  before_tied : {A : Ticks X → Type 0} → Filled A → (ts : Ticks X) → Tied (Before A) A ts → Before A ts
  before_tied {A} fa ts t =
      elim t.of_first [
        | inl e ↦ inr (0, alone {B = A} fa e t.of_second t.made)
        | inr h ↦ inr (suc h.0, record { first = t.first; second = t.second; of_first = h.1; of_second = t.of_second; made = t.made })
      ]

  before_cases : {A : Ticks X → Type 0} → Filled A → (ts : Ticks X) (k : ℕ) → chained A k ts → Tied (Before A) A ts
  before_cases fa ts zero h = record { first = [] ∷ []; second = ts; of_first = inl refl; of_second = h; made = sym (tie_empty ts (fa ts h)) }
  before_cases fa ts (suc k) h = record { first = h.first; second = h.second; of_first = inr (k, h.of_first); of_second = h.of_second; made = h.made }

module _ (m : Model) (laws : Laws m) {X : Type 0} (weigh : X → m.Carrier) where
  module _ (A : Ticks X → Type 0) (fa : Filled A) (instant : (v : m.Carrier) → Weighs m weigh A 0 v → ⊥) where
    -- where no run of A is of one tick, the last run has gone on since
    since_tied : (n : ℕ) (w : m.Carrier) → Weighs m weigh (Tied (Before A) A) n w → Since m weigh (Before A) A n w
    since_tied n w h =
        elim (tied_there m laws weigh (Before A) A (before_filled fa) fa n w h) [ inl b ↦ absurd (instant b.1 b.3) | inr s ↦ s ]

    before_since : (n : ℕ) (w : m.Carrier) → Weighs m weigh (Before A) n w → ((n ≡ 0) × (w ≡ m.unit)) ⊎ Since m weigh (Before A) A n w
    before_since n w h =
        elim h.of_set [
          | inl e ↦
              let z : n ≡ 0 = omega (arith, ap length e, h.long) in
              inl (z, sym h.weighs ∙ ap (λ ts. weight_at m weigh ts n) e ∙ ap (λ i. weight_at m weigh ([] ∷ []) i) z)
          | inr c ↦
              inr (since_tied n w (record { run = h.run; of_set = before_cases fa h.run c.0 c.1; long = h.long; weighs = h.weighs }))
        ]

    since_before : (n : ℕ) (w : m.Carrier) → Since m weigh (Before A) A n w → Weighs m weigh (Before A) n w
    since_before n w s = weighs_more m weigh (before_tied fa) n w (tied_back m laws weigh (Before A) A n w (inr s))

    starts_below : {e S : ℕ → Coef m} → Row m weigh A e → Starts m e S → (n i : ℕ) → i < n → Joined m (Weighs m weigh (Before A) i) (S i)
    starts_below row s zero i l = absurd (omega arith)
    starts_below row s (suc n) zero l =
        subst (Joined m (Weighs m weigh (Before A) 0)) (sym s.first)
        (one m laws (record { run = [] ∷ []; of_set = inl refl; long = refl; weighs = refl }) only)
      where
        only : (w : m.Carrier) → Weighs m weigh (Before A) 0 w → w ≡ m.unit
        only w h = elim (before_since 0 w h) [ inl e ↦ e.1 | inr k ↦ absurd (omega (arith, k.1)) ]
    starts_below {e} {S} row s (suc n) (suc i) l =
        subst (Joined m (Weighs m weigh (Before A) (suc i))) (sym (s.next i))
        (same m laws (since_before (suc i)) back (since m laws weigh (Before A) A {a = S} {b = e} (suc i) (λ j k. starts_below row s n j (omega arith)) row))
      where
        back : (w : m.Carrier) → Weighs m weigh (Before A) (suc i) w → Since m weigh (Before A) A (suc i) w
        back w h = elim (before_since (suc i) w h) [ inl z ↦ absurd (omega (arith, z.0)) | inr k ↦ k ]

  pub looped_pauses : (A : Family X) {p e S : ℕ → Coef m} → Filled (A paused) → Filled (A left) → Row m weigh (A paused) p → Row m weigh (A left) e
      → e 0 ≡ None → Starts m e S → Row m weigh (looped A paused) (tied_row m S p)
  looped_pauses A {p} {e} {S} fp fl rp re no_instant s = same_row m laws weigh there back (tied m laws weigh (before_filled fl) fp row rp)
    where
      row : Row m weigh (Before (A left)) S
      row n = starts_below (A left) fl (λ v h. none m laws (subst (Joined m (Weighs m weigh (A left) 0)) no_instant (re 0)) h) re s (suc n) n (omega arith)

      there : (ts : Ticks X) → Tied (Before (A left)) (A paused) ts → looped A paused ts
      there ts t =
          elim t.of_first [
            | inl e ↦ inl (alone {B = A paused} fp e t.of_second t.made)
            | inr h ↦ inr (h.0, record { first = t.first; second = t.second; of_first = h.1; of_second = t.of_second; made = t.made })
          ]

      back : (ts : Ticks X) → looped A paused ts → Tied (Before (A left)) (A paused) ts
      back ts (inl h) = record { first = [] ∷ []; second = ts; of_first = inl refl; of_second = h; made = sym (tie_empty ts (fp ts h)) }
      back ts (inr h) = record { first = h.1.first; second = h.1.second; of_first = inr (h.0, h.1.of_first); of_second = h.1.of_second; made = h.1.made }

  pub looped_leaves : (A : Family X) → Row m weigh (looped A left) (never m)
  looped_leaves A n = empty m laws (λ w h. h.of_set)
