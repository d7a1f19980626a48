-- A set of phases holds those of all ages at which what began still pauses; joined over it, a row gives the join over ages.
use Rattle.std.proofs.Common.{◌≡◌, ℕ, zero, suc, ◌-◌, ◌<◌, ◌≤◌, Bool, true, false, cond, ◌&&◌, is_some, Some, None, Option, sym, refl, ap, ◌∙◌, subst, ⊎_elim, arith}
use Rattle.std.proofs.lemmas.Bool.{both_ways, cases_Bool, cond-true, cond-false, cond_both, and_parts, and_from}
use Rattle.algebra.specs.Model.{Model, Laws}
use Rattle.algebra.specs.Coefficients.{Coef, join}
use Rattle.algebra.proofs.Coefficients.{coef_laws}
use Rattle.rows.specs.Sets.{has, with_member, joins as joins_in}
use Rattle.rows.specs.Pieces.{Rows, size, next_phase, moved}
use Rattle.rows.proofs.PhaseLaws.{phase_within}
use Rattle.rows.proofs.SetLaws.{has_none, with_has, with_old, with_new, image_has, image_from}
use Rattle.runs.specs.Joined.{joins}
use Rattle.runs.proofs.Joined.{gate, gate_present, gate_some, Below, below_antisym, joins_above, joins_below}
use Rattle.runs.proofs.Situations.{phase_of}

-- the sets M of phases of B: what begins at a tick, where a start is present, is one tick old at the next, and grows older while p is present
pub record Ages {m : Model} (B : Rows m) (start : ℕ → Coef m) (begins : ℕ → Bool) (M : ℕ → ℕ) : Type 0 where
  pub first : M 0 ≡ 0
  pub next : (n : ℕ) → M (suc n) ≡ cond (begins n) (with_member (moved B (M n)) (next_phase B 0)) (moved B (M n))
  pub began : (n : ℕ) → begins n ≡ true → is_some (start n) ≡ true
  pub begun : (n : ℕ) → is_some (start n) ≡ true → is_some (B.p 0) ≡ true → begins n ≡ true

-- where the row is present, p is present at every earlier tick
abbrev pub Lasting : {m : Model} → Rows m → (ℕ → Coef m) → Type 0
Lasting B row = (k n : ℕ) → k < n → is_some (row (phase_of B n)) ≡ true → is_some (B.p (phase_of B k)) ≡ true

module _ {m : Model} {B : Rows m} {start : ℕ → Coef m} {begins : ℕ → Bool} {M : ℕ → ℕ} (ages : Ages B start begins M) where
  -- i + 1 is an age at tick n whose phase is j, from a start that was present
  abbrev Aged : (n j : ℕ) → Type 0
  Aged n j = (i : ℕ) × (i < n) × (phase_of B (suc i) ≡ j) × (is_some (start (n - suc i)) ≡ true)

  aged : (n j : ℕ) → has (M n) j ≡ true → Aged n j
  aged zero j h = absurd (both_ways (has 0 j) (has_none j) (ap (λ (set : ℕ). has set j) (sym ages.first) ∙ h))
  aged (suc n) j h = ⊎_elim
      (λ yes. ⊎_elim
      (λ old. older (aged n) old)
      (λ new. (0, omega arith, new, ap (λ k. is_some (start k)) {y = n} (omega arith) ∙ ages.began n yes))
      (with_has (moved B (M n)) (next_phase B 0) j (ap (λ (set : ℕ). has set j) (sym (ages.next n ∙ cond-true (begins n) _ _ yes)) ∙ h)))
      (λ no. older (aged n) (ap (λ (set : ℕ). has set j) (sym (ages.next n ∙ cond-false (begins n) _ _ no)) ∙ h))
      (cases_Bool (begins n))
    where
      older : ((k : ℕ) → has (M n) k ≡ true → Aged n k) → has (moved B (M n)) j ≡ true → Aged (suc n) j
      older before h =
          let i = image_from (λ k. has (M n) k && is_some (B.p k)) (next_phase B) (size B) j h in
          let a = before i.0 (and_parts (has (M n) i.0) (is_some (B.p i.0)) i.2).0 in
          (suc a.0, omega (arith, a.1), ap (next_phase B) a.2 ∙ i.3, ap (λ k. is_some (start k)) {y = n - suc a.0} (omega arith) ∙ a.3)

  module _ (pos : 1 ≤ B.period) where
    held : (n i : ℕ) → i < n → is_some (start (n - suc i)) ≡ true → ((k : ℕ) → k ≤ i → is_some (B.p (phase_of B k)) ≡ true)
        → has (M n) (phase_of B (suc i)) ≡ true
    held zero i l s p = absurd (omega arith)
    held (suc n) zero l s p =
        ap (λ (set : ℕ). has set (next_phase B 0))
        (ages.next n ∙ cond-true (begins n) _ _ (ages.begun n (ap (λ k. is_some (start k)) {x = n} (omega arith) ∙ s) (p 0 (omega arith))))
        ∙ with_new (moved B (M n)) (next_phase B 0)
    held (suc n) (suc i) l s p =
        let old : has (M n) (phase_of B (suc i)) ≡ true =
        held n i (omega arith) (ap (λ k. is_some (start k)) {x = n - suc i} (omega arith) ∙ s) (λ k h. p k (omega arith)) in
        let more : has (moved B (M n)) (phase_of B (suc (suc i))) ≡ true =
        image_has (λ k. has (M n) k && is_some (B.p k)) (next_phase B) (size B) (phase_of B (suc i))
        (phase_within B.transient B.period pos (suc i))
        (and_from (has (M n) (phase_of B (suc i))) (is_some (B.p (phase_of B (suc i)))) old (p (suc i) (omega arith))) in
        ap (λ (set : ℕ). has set (phase_of B (suc (suc i)))) (ages.next n)
        ∙ cond_both (begins n) (with_member (moved B (M n)) (next_phase B 0)) (moved B (M n)) (λ (set : ℕ). has set (phase_of B (suc (suc i))) ≡ true)
        (λ yes. with_old (moved B (M n)) (next_phase B 0) (phase_of B (suc (suc i))) more)
        (λ no. more)

-- a row at the members, else absent
abbrev inside : {X : Type 0} → (test : ℕ → Bool) (row : ℕ → Option X) → ℕ → Option X
inside test row j = cond (test j) (row j) None

-- a row at the age i + 1, at tick n, where the start was present
abbrev aging : {m : Model} → Rows m → (start row : ℕ → Coef m) (n i : ℕ) → Coef m
aging {m} B start row n i = gate m (start (n - suc i)) (row (phase_of B (suc i)))

-- a join over the members, as a join over all numbers
members : (m : Model) → Laws m → (test : ℕ → Bool) (row : ℕ → Coef m) (n : ℕ) → joins_in m test row n ≡ joins m (inside test row) n
members m laws test row zero = refl
members m laws test row (suc n) = go (test n) (members m laws test row n)
  where
    go : (b : Bool) → joins_in m test row n ≡ joins m (inside test row) n
        → cond b (join m (joins_in m test row n) (row n)) (joins_in m test row n) ≡ join m (joins m (inside test row) n) (cond b (row n) None)
    go true e = ap (λ c. join m c (row n)) e
    go false e = e ∙ sym ((coef_laws m laws).join_absent (joins m (inside test row) n))

module _ (m : Model) (laws : Laws m) {B : Rows m} {start : ℕ → Coef m} {begins : ℕ → Bool} {M : ℕ → ℕ} (ages : Ages B start begins M) (pos : 1 ≤ B.period) where
  -- the join of a lasting row over the set is its join over the ages
  pub joins_ages : (row : ℕ → Coef m) → Lasting B row → (n : ℕ) → joins_in m (has (M n)) row (size B) ≡ joins m (aging B start row n) n
  joins_ages row lasting n =
      members m laws (has (M n)) row (size B)
      ∙ below_antisym m laws (joins m (inside (has (M n)) row) (size B)) (joins m (aging B start row n) n)
      (joins_below m laws (inside (has (M n)) row) (size B) (joins m (aging B start row n) n) there)
      (joins_below m laws (aging B start row n) n (joins m (inside (has (M n)) row) (size B)) (λ i l. back i l (aging B start row n i) refl))
    where
      there : (j : ℕ) → j < size B → Below m (inside (has (M n)) row j) (joins m (aging B start row n) n)
      there j l =
          cond_both (has (M n) j) (row j) None (λ c. Below m c (joins m (aging B start row n) n))
          (λ h.
          let a = aged ages n j h in
          subst (λ c. Below m c (joins m (aging B start row n) n))
          (gate_present m (start (n - suc a.0)) (row (phase_of B (suc a.0))) a.3 ∙ ap row a.2)
          (joins_above m laws (aging B start row n) a.0 n a.1))
          (λ h. refl)

      back : (i : ℕ) → i < n → (c : Coef m) → aging B start row n i ≡ c → Below m c (joins m (inside (has (M n)) row) (size B))
      back i l None e = refl
      back i l (Some x) e =
          let g = gate_some m (start (n - suc i)) (row (phase_of B (suc i))) x e in
          let h : has (M n) (phase_of B (suc i)) ≡ true = held ages pos n i l g.0 (λ k le. lasting k (suc i) (omega arith) (ap is_some g.1)) in
          subst (λ c. Below m c (joins m (inside (has (M n)) row) (size B)))
          (cond-true (has (M n) (phase_of B (suc i))) (row (phase_of B (suc i))) None h ∙ g.1)
          (joins_above m laws (inside (has (M n)) row) (phase_of B (suc i)) (size B) (phase_within B.transient B.period pos (suc i)))
