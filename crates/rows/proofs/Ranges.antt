-- What holds of every number of a range, one number more.
use Rattle.std.proofs.Common.{ℕ, ◌+◌, ◌<◌, ◌≤◌, sym, subst, ⊎_elim, arith}
use Rattle.std.proofs.lemmas.Bool.{cases_eq}

-- one more at the end
pub up_to : (P : ℕ → Type 0) (i k : ℕ) → ((j : ℕ) → i ≤ j → j < k → P j) → P k → (j : ℕ) → i ≤ j → j < k + 1 → P j
up_to P i k below here j low high = ⊎_elim
    (λ e. subst P (sym e) here)
    (λ ne. below j low (omega arith))
    (cases_eq j k)
