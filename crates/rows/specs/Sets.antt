-- Small sets of numbers, one bit for each member, and what is joined over one.
use Rattle.std.specs.Prelude.{ℕ, zero, suc, ◌/◌, ◌%◌, ◌^◌, Bool, cond, None, ◌==◌, bit_or}
use Rattle.algebra.specs.Model.{Model}
use Rattle.algebra.specs.Coefficients.{Coef, join}

-- is k a member?
abbrev pub has : (set k : ℕ) → Bool
has set k = (set / 2 ^ k % 2) == 1

-- the set with k in it
abbrev pub with_member : (set k : ℕ) → ℕ
with_member set k = bit_or set (2 ^ k)

-- the set of the f k for all k below n that pass the test
abbrev pub image : (ℕ → Bool) → (ℕ → ℕ) → (n : ℕ) → ℕ
image test f zero = 0
image test f (suc n) = cond (test n) (with_member (image test f n) (f n)) (image test f n)

-- the join of the row's coefficients at all k below n that pass the test
abbrev pub joins : (m : Model) → (ℕ → Bool) → (ℕ → Coef m) → (n : ℕ) → Coef m
joins m test row zero = None
joins m test row (suc n) = cond (test n) (join m (joins m test row n) (row n)) (joins m test row n)
