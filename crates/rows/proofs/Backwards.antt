-- What a search backwards over the numbers below a bound finds.
use Rattle.std.proofs.Common.{◌≡◌, ℕ, ◌+◌, ◌-◌, ◌<◌, ◌≤◌, Bool, true, false, None, Some, Option, MatchOption, IfSome, IsTrue, IsSomeAnd, sym, ◌∙◌, subst, arith}
use Rattle.std.specs.Fn.{CalledAt}
use Rattle.std.specs.Iterator.Runs.{Run, ItemsCountDown, CallKeepsClosure, NoItemPasses, EndsAtFirstPassing}
use Rattle.std.proofs.lemmas.Iterator.Adapters.{option_map_id}
use denote.Param.Members.{Mut}
use denote.Ref.{Bor}

-- p goes over the numbers below b, from the last one down
pub record Down {S : Type 0} {steps : S → Option ℕ → S → Type 0} (p : Run steps) (b : ℕ) : Type 0 where
  pub fits : p.len ≤ b
  pub all : p.whole ≡ true → p.len ≡ b
  pub at : (k : ℕ) → b < p.len + k + 1 → k < b → p.at (b - 1 - k) ≡ Some k
  pub nth : (k : ℕ) → k < p.len → p.at k ≡ Some (b - 1 - k)

pub down_from : {S T : Type 0} {steps : S → Option ℕ → S → Type 0} {others : T → Option ℕ → T → Type 0} (p : Run steps) (q : Run others) (a b n : ℕ) → a ≡ 0 → b ≡ n → ItemsCountDown q a b → q.len ≡ p.len → ((k : ℕ) → q.at k ≡ p.at k) → q.whole ≡ p.whole → Down p n
down_from p q a b n from to count len same whole =
    let nth : (k : ℕ) → k < p.len → p.at k ≡ Some (n - 1 - k) =
    λ k less. let there : b - 1 - k ≡ n - 1 - k = omega arith in sym (same k) ∙ sym (option_map_id (q.at k)) ∙ count.3 k (omega arith) ∙ (λ i. Some (there i)) in
    record {
      fits = omega (arith, count.0);
      all = λ w. omega (arith, count.1 (whole ∙ w));
      at = λ k far low.
          let same : n - 1 - (n - 1 - k) ≡ k = omega arith in nth (n - 1 - k) (omega arith) ∙ (λ i. Some (same i));
      nth = nth;
    }

module _ {S F : Type 0} {steps : S → Option ℕ → S → Type 0} (g : Mut F (Bor ℕ × Unit {0}) Bool) (f : F) (p : Run steps) (b : ℕ) (down : Down p b) (keeps : CallKeepsClosure g f) (Yes No : ℕ → Type 0) (yes : (x : ℕ) → CalledAt g f x true f → Yes x) (no : (x : ℕ) → CalledAt g f x false f → No x) where
  -- the last number that passes, or none does
  pub last_passing : (r : Option ℕ) → MatchOption r (IsTrue p.whole × NoItemPasses p g f) (EndsAtFirstPassing p g f) → MatchOption r ((k : ℕ) → k < b → No k) (λ k. (k < b) × Yes k × ((j : ℕ) → k < j → j < b → No j))
  last_passing None none = λ k low.
      no k (subst (λ o. IfSome o (λ x. CalledAt g f x false f)) (down.at k (omega (arith, down.all none.0)) low) (none.1 keeps (b - 1 - k)))
  last_passing (Some x) (i, long, at, passes) =
      let here : b - 1 - i ≡ x = cc (down.nth i (omega arith), at) in
      let fits = down.fits in (
        omega arith,
        yes x (passes keeps).0,
        λ j more low. no j (subst (λ o. IsSomeAnd o (λ y. CalledAt g f y false f)) (down.at j (omega arith) low) ((passes keeps).1 (b - 1 - j) (omega arith))),
      )
