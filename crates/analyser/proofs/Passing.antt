-- The next item that a `filter_map` over a range gives, said of the numbers in the range.
use Rattle.std.proofs.Common.{◌≡◌, ℕ, ◌+◌, ◌<◌, ◌≤◌, List, [], ◌∷◌, Some, None, Option, MatchOption, sym, refl, subst, ◌∙◌, ⊎_elim, arith}
use denote.Param.Members.{Mut}
use Rattle.std.specs.declared.ops.Range.{Range}
use Rattle.std.specs.Fn.{Called}
use Rattle.std.specs.Iterator.{Yields, YieldsThen}
use Rattle.std.specs.List.{FoldsTo}
use Rattle.std.specs.Option.{IsSome}
use Rattle.std.proofs.iter.Yields.{nat_range_steps}
use Rattle.std.proofs.lemmas.Bool.{false≢true, cases_eq}

module _ {F C : Type 0} (g : Mut F (ℕ × Unit {0}) (Option C)) where
  abbrev Skips : F → ℕ → F → Type 0
  Skips p k q = Called g p (k, tt) None q

  -- a call of `next` takes the range from s to u and the closure from p to h, and gives r
  abbrev pub Steps : F → Range ℕ → Option C → Range ℕ → F → Type 0
  Steps p s r u h = (xs : List ℕ) × (o : Option ℕ) × (q : F) × YieldsThen nat_range_steps s xs o u × FoldsTo Skips p xs q
      × MatchOption o ((r ≡ None) × (h ≡ q)) (λ x. Called g q (x, tt) r h × IsSome r)

-- the closure stays f, and gives None at number k where No holds of k, and else what Yes says
module _ {F C : Type 0} (g : Mut F (ℕ × Unit {0}) (Option C)) (f : F) (No : ℕ → Type 0) (Yes : ℕ → C → Type 0) (gives : (k : ℕ) (r : Option C) (q : F) → Called g f (k, tt) r q → (q ≡ f) × MatchOption r (No k) (Yes k)) where
  -- No holds of each number that is passed over
  passed : (xs : List ℕ) (s t : Range ℕ) (q : F) → Yields nat_range_steps s xs t → FoldsTo (Skips g) f xs q
      → (q ≡ f) × (t.end ≡ s.end) × (s.start ≤ t.start) × ((k : ℕ) → s.start ≤ k → k < t.start → No k)
  passed [] s t q y folds =
      subst (λ u. (q ≡ f) × (u.end ≡ s.end) × (s.start ≤ u.start) × ((k : ℕ) → s.start ≤ k → k < u.start → No k)) y
      (sym folds, refl, omega arith, λ k low less. absurd (omega arith))
  passed (x ∷ xs) s t q y folds =
      let here = gives x None folds.0 folds.1 in
      let more = passed xs y.0 t q y.2 (subst (λ p. FoldsTo (Skips g) p xs q) here.0 folds.2) in (
        more.0,
        more.1 ∙ y.1.0,
        omega (arith, more.2, y.1.1),
        λ k low less. ⊎_elim (λ same. subst No (y.1.1.1 ∙ sym same) here.1) (λ other. more.3 k (omega (arith, y.1.1, other)) less) (cases_eq k s.start),
      )

  -- None: No holds of each number from s on; v: number k gives it, No holds of those before, and u is left
  abbrev pub Next : Range ℕ → Option C → Range ℕ → F → Type 0
  Next s None u h = (k : ℕ) → s.start ≤ k → k < s.end → No k
  Next s (Some v) u h = (k : ℕ) × (k < s.end) × Yes k v × ((j : ℕ) → s.start ≤ j → j < k → No j) × (s.start ≤ k) × (u.start ≡ k + 1) × (u.end ≡ s.end) × (h ≡ f)

  by : (xs : List ℕ) (o : Option ℕ) (s t u : Range ℕ) (q h : F) (r : Option C) → Yields nat_range_steps s xs t → nat_range_steps t o u → FoldsTo (Skips g) f xs q
      → MatchOption o ((r ≡ None) × (h ≡ q)) (λ x. Called g q (x, tt) r h × IsSome r) → Next s r u h
  by xs None s t u q h r y step folds last =
      let p = passed xs s t q y folds in
      subst (λ r. Next s r u h) (sym last.0) (λ k low less. p.3 k low (omega (arith, p.1, step.1)))
  by xs (Some x) s t u q h None y step folds last = absurd (false≢true last.1)
  by xs (Some x) s t u q h (Some v) y step folds last =
      let p = passed xs s t q y folds in
      let took = gives x (Some v) h (subst (λ p. Called g p (x, tt) (Some v) h) p.0 last.0) in
      (x, omega (arith, p.1, step.1), took.1, λ j low less. p.3 j low (omega (arith, step.1)), omega (arith, p.2, step.1), omega (arith, step.1), step.0 ∙ p.1, took.0)

  -- a call of `next`
  pub next : (s u : Range ℕ) (h : F) (r : Option C) → Steps g f s r u h → Next s r u h
  next s u h r d = by d.0 d.1 s d.3.0 u d.2 h r d.3.1 d.3.2 d.4 d.5
