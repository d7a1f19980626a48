-- Lengths, ticks and beginnings of runs laid over one another, and of runs tied.
use Rattle.std.proofs.Common.{◌≡◌, ℕ, zero, suc, ◌+◌, ◌<◌, max, [], ◌∷◌, ◌++◌, length, get_or, take, sym, refl, ap, ◌∙◌, arith}
use lib.Seq.{take-nil}
use Rattle.std.proofs.lemmas.List.{append-nil}
use Rattle.runs.specs.Runs.{Ticks, over, tie}

module _ {X : Type 0} where
  pub over_at : (xs ys : Ticks X) (n : ℕ) → get_or (over xs ys) n [] ≡ get_or xs n [] ++ get_or ys n []
  over_at [] ys n = refl
  over_at (x ∷ xs) [] n = sym (append-nil (get_or (x ∷ xs) n []))
  over_at (x ∷ xs) (y ∷ ys) zero = refl
  over_at (x ∷ xs) (y ∷ ys) (suc n) = over_at xs ys n

  pub over_length : (xs ys : Ticks X) → length (over xs ys) ≡ max (length xs) (length ys)
  over_length [] ys = omega arith
  over_length (x ∷ xs) [] = omega arith
  over_length (x ∷ xs) (y ∷ ys) = omega (arith, over_length xs ys)

  pub over_take : (xs ys : Ticks X) (n : ℕ) → take n (over xs ys) ≡ over (take n xs) (take n ys)
  over_take xs ys zero = refl
  over_take [] ys (suc n) = refl
  over_take (x ∷ xs) [] (suc n) = refl
  over_take (x ∷ xs) (y ∷ ys) (suc n) = ap {B = Ticks X} (λ r. (x ++ y) ∷ r) (over_take xs ys n)

  pub tie_length : (xs ys : Ticks X) → 0 < length xs → 0 < length ys → suc (length (tie xs ys)) ≡ length xs + length ys
  tie_length [] ys p q = absurd (omega arith)
  tie_length (x ∷ []) [] p q = absurd (omega arith)
  tie_length (x ∷ []) (y ∷ ys) p q = omega arith
  tie_length (x ∷ x' ∷ xs) ys p q = omega (arith, tie_length (x' ∷ xs) ys (omega arith) q)

  -- the tick that two tied runs share
  pub tie_seam : (xs ys : Ticks X) (a : ℕ) → length xs ≡ suc a → get_or (tie xs ys) a [] ≡ get_or xs a [] ++ get_or ys 0 []
  tie_seam [] ys a e = absurd (omega arith)
  tie_seam (x ∷ []) ys zero e = over_at (x ∷ []) ys 0
  tie_seam (x ∷ []) ys (suc a) e = absurd (omega arith)
  tie_seam (x ∷ x' ∷ xs) ys zero e = absurd (omega arith)
  tie_seam (x ∷ x' ∷ xs) ys (suc a) e = tie_seam (x' ∷ xs) ys a (omega arith)

  -- a tick past it
  pub tie_past : (xs ys : Ticks X) (k n : ℕ) → 0 < length xs → length xs + k ≡ n → get_or (tie xs ys) n [] ≡ get_or ys (suc k) []
  tie_past [] ys k n p e = absurd (omega arith)
  tie_past (x ∷ []) ys k zero p e = absurd (omega arith)
  tie_past (x ∷ []) ys k (suc n) p e = over_at (x ∷ []) ys (suc n) ∙ ap (λ i. get_or ys i []) (omega arith)
  tie_past (x ∷ x' ∷ xs) ys k zero p e = absurd (omega arith)
  tie_past (x ∷ x' ∷ xs) ys k (suc n) p e = tie_past (x' ∷ xs) ys k n (omega arith) (omega arith)

  pub tie_take_early : (xs ys : Ticks X) (j : ℕ) → j < length xs → take j (tie xs ys) ≡ take j xs
  tie_take_early [] ys j l = absurd (omega arith)
  tie_take_early (x ∷ []) ys zero l = refl
  tie_take_early (x ∷ []) ys (suc j) l = absurd (omega arith)
  tie_take_early (x ∷ x' ∷ xs) ys zero l = refl
  tie_take_early (x ∷ x' ∷ xs) ys (suc j) l = ap {B = Ticks X} (λ r. x ∷ r) (tie_take_early (x' ∷ xs) ys j (omega arith))

  pub tie_take_late : (xs ys : Ticks X) (k n : ℕ) → 0 < length xs → length xs + k ≡ n → take n (tie xs ys) ≡ tie xs (take (suc k) ys)
  tie_take_late [] ys k n p e = absurd (omega arith)
  tie_take_late (x ∷ []) ys k zero p e = absurd (omega arith)
  tie_take_late (x ∷ []) [] k (suc n) p e = ap {B = Ticks X} (λ r. x ∷ r) (take-nil n)
  tie_take_late (x ∷ []) (y ∷ ys) k (suc n) p e = ap {B = Ticks X} (λ i. (x ++ y) ∷ take i ys) (omega arith)
  tie_take_late (x ∷ x' ∷ xs) ys k zero p e = absurd (omega arith)
  tie_take_late (x ∷ x' ∷ xs) ys k (suc n) p e = ap {B = Ticks X} (λ r. x ∷ r) (tie_take_late (x' ∷ xs) ys k n (omega arith) (omega arith))

  -- one empty tick ties to nothing new
  pub tie_empty : (ys : Ticks X) → 0 < length ys → tie ([] ∷ []) ys ≡ ys
  tie_empty [] l = absurd (omega arith)
  tie_empty (y ∷ ys) l = refl
