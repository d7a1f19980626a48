-- Members of small sets.
use Rattle.std.proofs.Common.{◌≡◌, ℕ, zero, suc, ◌+◌, ◌-◌, ◌/◌, ◌%◌, ◌^◌, ◌<◌, ◌≤◌, max, Bool, true, false, cond, ◌||◌, eqb, ◌⊎◌, sym, refl, ap, ◌∙◌, inl, inr, ⊎_elim, le_refl, lt_of_lt_of_le, pow-suc, arith, pow_pos, pow_mono, pow-add}
use native.Mathlib.Nat.{div-eq_of_lt, div_self, mul-mod_left}
use lib.Bits.{bit_or, or_step, or_shr}
use lib.Pow.{pow-lt, shl-shr}
use Rattle.std.proofs.lemmas.Bool.{both_ways, cases_eq, cases_order, eq-eqb, ne_eqb, eqb-true, or_cases, or_left, or_right}
use Rattle.std.proofs.lemmas.Bool.Decides.{nat_tests}
use Rattle.rows.specs.Sets.{has, with_member, image}

-- a set of numbers below n has no member from n on
pub has_past : (set n k : ℕ) → set < 2 ^ n → n ≤ k → has set k ≡ false
has_past set n k small far =
    ap (λ (x : ℕ). eqb (x % 2) 1) (div-eq_of_lt (lt_of_lt_of_le small (pow_mono far)))

lowest_or : (a b : ℕ) → eqb (bit_or a b % 2) 1 ≡ (eqb (a % 2) 1 || eqb (b % 2) 1)
lowest_or a b = let l : bit_or a b % 2 ≡ max (a % 2) (b % 2) = omega (arith, or_step a b) in grind (arith, nat_tests)

-- a union has the members of both
pub has_or : (a b k : ℕ) → has (bit_or a b) k ≡ (has a k || has b k)
has_or a b k = ap (λ (x : ℕ). eqb (x % 2) 1) (or_shr a b k) ∙ lowest_or (a / 2 ^ k) (b / 2 ^ k)

-- the set with the one member j
pub has_power : (j k : ℕ) → has (2 ^ j) k ≡ eqb j k
has_power j k = ⊎_elim
    (λ e.
    ap (λ (i : ℕ). has (2 ^ i) k) e ∙ ap (λ (x : ℕ). eqb (x % 2) 1) (div_self (pow_pos k)) ∙ sym (eq-eqb j k e))
    (⊎_elim
    (λ less. has_past (2 ^ j) k k (pow-lt less) (le_refl k) ∙ sym (ne_eqb j k (omega arith)))
    (λ more.
    ap (λ (i : ℕ). has (2 ^ i) k) {y = suc (j - suc k) + k} (omega arith)
    ∙ ap (λ (x : ℕ). eqb (x / 2 ^ k % 2) 1) (pow-add 2 (suc (j - suc k)) k)
    ∙ ap (λ (x : ℕ). eqb (x % 2) 1) (shl-shr (2 ^ suc (j - suc k)) k ∙ pow-suc 2 (j - suc k))
    ∙ ap (λ (x : ℕ). eqb x 1) (mul-mod_left (2 ^ (j - suc k)) 2)
    ∙ sym (ne_eqb j k (omega arith))))
    (cases_order j k)

pub has_with : (set j k : ℕ) → has (with_member set j) k ≡ (has set k || eqb j k)
has_with set j k = has_or set (2 ^ j) k ∙ ap (λ b. has set k || b) (has_power j k)

-- a member of the set with j in it: one of the set, or j
pub with_has : (set j k : ℕ) → has (with_member set j) k ≡ true → (has set k ≡ true) ⊎ (j ≡ k)
with_has set j k h = ⊎_elim inl (λ e. inr (eqb-true j k e)) (or_cases (has set k) (eqb j k) (sym (has_with set j k) ∙ h))

pub with_old : (set j k : ℕ) → has set k ≡ true → has (with_member set j) k ≡ true
with_old set j k h = has_with set j k ∙ or_left (has set k) (eqb j k) h

pub with_new : (set j : ℕ) → has (with_member set j) j ≡ true
with_new set j = has_with set j j ∙ or_right (has set j) (eqb j j) (eq-eqb j j refl)

pub has_none : (k : ℕ) → has 0 k ≡ false
has_none k = has_past 0 0 k (omega arith) (omega arith)

-- the members of an image
module _ (test : ℕ → Bool) (f : ℕ → ℕ) where
  pub image_has : (n i : ℕ) → i < n → test i ≡ true → has (image test f n) (f i) ≡ true
  image_has zero i l passes = absurd (omega arith)
  image_has (suc n) i l passes = go (test n) refl (λ before. image_has n i before passes)
    where
      go : (b : Bool) → test n ≡ b → (i < n → has (image test f n) (f i) ≡ true) → has (cond b (with_member (image test f n) (f n)) (image test f n)) (f i) ≡ true
      go true e earlier = ⊎_elim
          (λ here. ap (λ (j : ℕ). has (with_member (image test f n) (f n)) (f j)) here ∙ with_new (image test f n) (f n))
          (λ other. with_old (image test f n) (f n) (f i) (earlier (omega arith)))
          (cases_eq i n)
      go false e earlier = ⊎_elim
          (λ here. absurd (both_ways (test n) e (sym (ap test here) ∙ passes)))
          (λ other. earlier (omega arith))
          (cases_eq i n)

  pub image_from : (n k : ℕ) → has (image test f n) k ≡ true → (i : ℕ) × (i < n) × (test i ≡ true) × (f i ≡ k)
  image_from zero k h = absurd (both_ways (has 0 k) (has_none k) h)
  image_from (suc n) k h = go (test n) refl (image_from n k) h
    where
      more : (i : ℕ) × (i < n) × (test i ≡ true) × (f i ≡ k) → (i : ℕ) × (i < suc n) × (test i ≡ true) × (f i ≡ k)
      more m = (m.0, omega (arith, m.1), m.2, m.3)

      go : (b : Bool) → test n ≡ b → (has (image test f n) k ≡ true → (i : ℕ) × (i < n) × (test i ≡ true) × (f i ≡ k))
          → has (cond b (with_member (image test f n) (f n)) (image test f n)) k ≡ true → (i : ℕ) × (i < suc n) × (test i ≡ true) × (f i ≡ k)
      go true e earlier h = ⊎_elim (λ old. more (earlier old)) (λ new. (n, omega arith, e, new)) (with_has (image test f n) (f n) k h)
      go false e earlier h = more (earlier h)
