-- What a fold over the numbers below a bound gives.
use Rattle.std.proofs.Common.{◌≡◌, ℕ, zero, suc, ◌+◌, Bool, true, false, cond, List, [], ◌∷◌, Option, sym, refl, ap, ◌∙◌, add-one, arith}
use Rattle.std.specs.Fn.{Called}
use Rattle.std.specs.Iterator.{Drains}
use Rattle.std.specs.List.{FoldsTo, fold, filter, range_with_len}
use Rattle.std.proofs.lemmas.Fn.{fold_over}
use Rattle.std.proofs.lemmas.Iterator.{YieldsList}
use Rattle.std.proofs.lemmas.List.Sums.{fold-append}
use denote.Param.Members.{Mut}

-- what a chain folds to, as w reads it, where each call is a step h as w reads it
pub fold_read : {S A B C D F : Type 0} {steps : S → Option A → S → Type 0} {v : A → B} {s : S} {all : List B} (g : Mut F (C × (A × Unit {0})) C) (w : C → D) (h : D → B → D) {f : F} (init r : C)
    → ((xs : List A) × (q : F) × Drains steps s xs × FoldsTo {P = F × C} (λ a x b. Called g a.0 (a.1, (x, tt)) b.1 b.0) (f, init) xs (q, r)) → YieldsList steps v s all
    → ((a : C) (x : A) (b : C) (q : F) → Called g f (a, (x, tt)) b q → (q ≡ f) × (w b ≡ h (w a) (v x))) → w r ≡ fold h (w init) all
fold_read {steps = steps} {v = v} {s = s} {all = all} g w h {f} init r ran yields call =
    fold_over steps v g (λ ys a. w a ≡ fold h (w init) ys) f
    (λ ys a x b q same k. let e = call a x b q k in (e.1 ∙ ap (λ d. h d (v x)) same ∙ sym (fold-append h (w init) ys (v x ∷ [])), e.0))
    s all init r yields.runs refl ran

-- a fold over the items that pass a test
fold-filter : {A B : Type 0} (step : B → A → B) (test : A → Bool) (xs : List A) (b : B) → fold step b (filter test xs) ≡ fold (λ c x. cond (test x) (step c x) c) b xs
fold-filter step test [] b = refl
fold-filter step test (x ∷ xs) b = first (test x) ∙ fold-filter step test xs (cond (test x) (step b x) b)
  where
    first : (passes : Bool) → fold step b (cond passes (x ∷ filter test xs) (filter test xs)) ≡ fold step (cond passes (step b x) b) (filter test xs)
    first true = refl
    first false = refl

-- a fold over n numbers, from k on and from 0 on
module _ {B : Type 0} (step : B → ℕ → B) (all : ℕ → B) (more : (k : ℕ) → all (suc k) ≡ step (all k) k) where
  fold-range_from : (n k : ℕ) → fold step (all k) (range_with_len k n) ≡ all (k + n)
  fold-range_from zero k = ap all {x = k} (omega arith)
  fold-range_from (suc n) k =
      ap (λ b. fold step b (range_with_len (k + 1) n)) (sym (ap all (add-one k) ∙ more k)) ∙ fold-range_from n (k + 1) ∙ ap all {x = k + 1 + n} (omega arith)

  pub fold-range : (n : ℕ) → fold step (all 0) (range_with_len 0 n) ≡ all n
  fold-range n = fold-range_from n 0 ∙ ap all {x = 0 + n} (omega arith)

-- a fold over the numbers below n that pass a test
pub fold_passing : {B : Type 0} (test : ℕ → Bool) (step : B → ℕ → B) (all : ℕ → B) → ((k : ℕ) → all (suc k) ≡ cond (test k) (step (all k) k) (all k)) → (n : ℕ) → fold step (all 0) (filter test (range_with_len 0 n)) ≡ all n
fold_passing test step all more n = fold-filter step test (range_with_len 0 n) (all 0) ∙ fold-range (λ b k. cond (test k) (step b k) b) all more n
