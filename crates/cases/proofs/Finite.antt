-- What holds of the first n numbers, as one test that computes.
use Rattle.std.proofs.Common.{◌≡◌, ℕ, zero, suc, ◌<◌, Bool, true, not, ◌&&◌, eqb, Decides, refl, ap}
use Rattle.std.proofs.lemmas.Bool.Decides.{Decides-eqb, Decides-not, Decides-below_and}
use Rattle.rows.specs.Repeats.{NoRepeat}

abbrev pub each : (ℕ → Bool) → ℕ → Bool
each test zero = true
each test (suc n) = test n && each test n

pub decides_each : (test : ℕ → Bool) (P : ℕ → Type 0) → ((k : ℕ) → Decides (test k) (P k)) → (n : ℕ) → Decides (each test n) ((k : ℕ) → k < n → P k)
decides_each test P one n = Decides-below_and test P (each test) one refl (λ k. refl) n

-- no two of the first n keys are equal
abbrev pub apart : (ℕ → ℕ) → ℕ → Bool
apart key = each (λ k. each (λ j. not (eqb (key j) (key k))) k)

-- where some key tells them apart, situations are fresh
pub fresh : {S : Type 0} (at : ℕ → S) (key : S → ℕ) (n : ℕ) → apart (λ k. key (at k)) n ≡ true → NoRepeat at n
fresh at key n test j k less few e =
    (decides_each _ _ (λ k. decides_each _ _ (λ j. Decides-not _ (Decides-eqb (key (at j)) (key (at k)))) k) n).0 test k few j less (ap key e)
