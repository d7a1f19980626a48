-- Rows in their least shape have one shape, and one way to keep it in cells.
use Rattle.std.proofs.Common.{◌≡◌, ℕ, ◌+◌, ◌-◌, ◌*◌, ◌%◌, ◌<◌, ◌≤◌, ◌↔◌, List, get_or, None, sym, ap, ◌∙◌, subst, ⊎_elim, mod-eq_of_lt, le_antisymm, arith}
use Rattle.std.proofs.lemmas.Bool.{cases_lt}
use Rattle.algebra.specs.Model.{Model}
use Rattle.algebra.specs.Coefficients.{Coef}
use Rattle.rows.specs.Phases.{phase}
use Rattle.rows.specs.Repeats.{Repeats, LeastShape}
use Rattle.rows.proofs.PhaseLaws.{phase_within, phase_early, phase_late}
use Rattle.rows.proofs.Periods.{at_phase}
use Rattle.runs.specs.OneShape.{cell, given, Shelved}

-- up to transient plus period, a tick is its own phase
own_phase : (t d : ℕ) → 1 ≤ d → (k : ℕ) → k < t + d → phase t d k ≡ k
own_phase t d pos k l = ⊎_elim
    (λ early. phase_early t d pos k early)
    (λ late. let low : (k - t) % d ≡ k - t = mod-eq_of_lt (omega arith) in phase_late t d pos k late ∙ omega arith)
    (cases_lt k t)

module _ {X : Type 0} where
  pub repeats_too : (r r' : ℕ → X) → ((n : ℕ) → r n ≡ r' n) → (t d : ℕ) → Repeats r t d → Repeats r' t d
  repeats_too r r' same t d h n l = sym (same (n + d)) ∙ h n l ∙ same n

  -- the least shape of a row is no larger than that of an equal row
  no_larger : (r r' : ℕ → X) (t d t' d' : ℕ) → LeastShape r t d → LeastShape r' t' d' → ((n : ℕ) → r n ≡ r' n) → d ≤ d'
  no_larger r r' t d t' d' s s' same = s.least_period t' d' s'.positive (repeats_too r' r (λ n. sym (same n)) t' d' s'.repeats)

  pub one_shape : (r r' : ℕ → X) (t d t' d' : ℕ) → LeastShape r t d → LeastShape r' t' d'
      → ((n : ℕ) → r n ≡ r' n) ↔ ((t ≡ t') × (d ≡ d') × ((k : ℕ) → k < t + d → r k ≡ r' k))
  one_shape r r' t d t' d' s s' = (there, back)
    where
      there : ((n : ℕ) → r n ≡ r' n) → (t ≡ t') × (d ≡ d') × ((k : ℕ) → k < t + d → r k ≡ r' k)
      there same =
          let e : d ≡ d' = le_antisymm (no_larger r r' t d t' d' s s' same) (no_larger r' r t' d' t d s' s (λ n. sym (same n))) in
          let f : t ≡ t' = le_antisymm
          (s.least_transient t' (repeats_too r' r (λ n. sym (same n)) t' d (subst (Repeats r' t') (sym e) s'.repeats)))
          (s'.least_transient t (repeats_too r r' same t d' (subst (Repeats r t) e s.repeats))) in
          (f, e, λ k l. same k)

      back : (t ≡ t') × (d ≡ d') × ((k : ℕ) → k < t + d → r k ≡ r' k) → (n : ℕ) → r n ≡ r' n
      back h n =
          at_phase r t d s.positive s.repeats n
          ∙ h.2 (phase t d n) (phase_within t d s.positive n)
          ∙ ap r' (ap (λ (x : ℕ). phase x d n) h.0 ∙ ap (λ (x : ℕ). phase t' x n) h.1)
          ∙ sym (at_phase r' t' d' s'.positive s'.repeats n)

module _ (m : Model) (cells cells' : List (Coef m)) (k k' t d : ℕ) (s : Shelved m cells k t d) (s' : Shelved m cells' k' t d) where
  -- shelves of one shape: what they give is what they hold
  pauses : ((n : ℕ) → given m cells k t d n ≡ given m cells' k' t d n) → (i : ℕ) → i < 64 → cell m cells k i ≡ cell m cells' k' i
  pauses same i l = ⊎_elim
      (λ below.
      let e : phase t d i ≡ i = own_phase t d s.least.positive i below in
      subst (λ (x : ℕ). cell m cells k x ≡ cell m cells' k' x) e (ap (λ c. c.0) (same i)))
      (λ past. s.past_pause i past l ∙ sym (s'.past_pause i past l))
      (cases_lt i (t + d))

  exits : ((n : ℕ) → given m cells k t d n ≡ given m cells' k' t d n) → (i : ℕ) → i < 64 → cell m cells k (64 + i) ≡ cell m cells' k' (64 + i)
  exits same i l = ⊎_elim
      (λ below.
      let e : phase t d i ≡ i = own_phase t d s.least.positive i below in
      ap (λ (x : ℕ). get_or cells x None) {y = 128 * k + 64 + i} (omega arith)
      ∙ subst (λ (x : ℕ). get_or cells (128 * k + 64 + x) None ≡ get_or cells' (128 * k' + 64 + x) None) e (ap (λ c. c.1) (same i))
      ∙ ap (λ (x : ℕ). get_or cells' x None) {x = 128 * k' + 64 + i} (omega arith))
      (λ past. s.past_exit i past l ∙ sym (s'.past_exit i past l))
      (cases_lt i (t + d))

  same_cells : ((n : ℕ) → given m cells k t d n ≡ given m cells' k' t d n) → (i : ℕ) → i < 128 → cell m cells k i ≡ cell m cells' k' i
  same_cells same i l = ⊎_elim
      (λ low. pauses same i low)
      (λ high. let e : 64 + (i - 64) ≡ i = omega arith in subst (λ (x : ℕ). cell m cells k x ≡ cell m cells' k' x) e (exits same (i - 64) (omega arith)))
      (cases_lt i 64)

  same_given : ((i : ℕ) → i < 128 → cell m cells k i ≡ cell m cells' k' i) → (n : ℕ) → given m cells k t d n ≡ given m cells' k' t d n
  same_given same n =
      let l : phase t d n < t + d = phase_within t d s.least.positive n in
      let p = same (phase t d n) (omega (arith, s.fits)) in
      let e : get_or cells (128 * k + 64 + phase t d n) None ≡ get_or cells' (128 * k' + 64 + phase t d n) None =
      ap (λ (x : ℕ). get_or cells x None) {y = 128 * k + (64 + phase t d n)} (omega arith)
      ∙ same (64 + phase t d n) (omega (arith, s.fits))
      ∙ ap (λ (x : ℕ). get_or cells' x None) {x = 128 * k' + (64 + phase t d n)} (omega arith) in
      (cc (p, e))

module _ (m : Model) (cells cells' : List (Coef m)) (k k' t d t' d' : ℕ) (s : Shelved m cells k t d) (s' : Shelved m cells' k' t' d') where
  -- at equal shapes, the second shelf in the shape of the first
  same_shape : t ≡ t' → d ≡ d' → Shelved m cells' k' t d
  same_shape e f = subst (λ (x : ℕ). Shelved m cells' k' t x) (sym f) (subst (λ (x : ℕ). Shelved m cells' k' x d') (sym e) s')

  gives_same : t ≡ t' → d ≡ d' → (n : ℕ) → given m cells' k' t d n ≡ given m cells' k' t' d' n
  gives_same e f n = ap (λ (x : ℕ). given m cells' k' x d n) e ∙ ap (λ (x : ℕ). given m cells' k' t' x n) f

  pub one_keeping : ((n : ℕ) → given m cells k t d n ≡ given m cells' k' t' d' n) ↔ ((t ≡ t') × (d ≡ d') × ((i : ℕ) → i < 128 → cell m cells k i ≡ cell m cells' k' i))
  one_keeping = (there, λ h n. same_given m cells cells' k k' t d s (same_shape h.0 h.1) h.2 n ∙ gives_same h.0 h.1 n)
    where
      there : ((n : ℕ) → given m cells k t d n ≡ given m cells' k' t' d' n) → (t ≡ t') × (d ≡ d') × ((i : ℕ) → i < 128 → cell m cells k i ≡ cell m cells' k' i)
      there same =
          let h = (one_shape (given m cells k t d) (given m cells' k' t' d') t d t' d' s.least s'.least).0 same in
          (h.0, h.1, same_cells m cells cells' k k' t d s (same_shape h.0 h.1) (λ n. same n ∙ sym (gives_same h.0 h.1 n)))
