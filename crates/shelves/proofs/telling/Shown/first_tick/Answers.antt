use Rattle.std.proofs.Common.{◌≡◌, ℕ, ◌+◌, ◌<◌, ◌≤◌, ◌≢◌, Some, None, Option, MatchOption, IsSome, sym, ◌∙◌, subst, arith, rules}
use borrow.Author.Tests.{tests}
use Rattle.std.specs.Option.{option_map}
use Rattle.std.proofs.lemmas.Iterator.{first_from_Range}
use Rattle.algebra.specs.Coefficients.{join}
use Rattle.rows.specs.Pieces.{pause_at, exit_at}
use Rattle.shelves.specs.Told.{given}
use Rattle.shelves.proofs.Reaching.{reached}
use Rattle.shelves.proofs.telling.Shown.first_tick.Goals as goal

-- the first number below n at which f is x, or None where there is none
abbrev First : {X : Type 0} (f : ℕ → X) (x : X) (n : ℕ) → Option ℕ → Type 0
First f x n found = MatchOption found ((k : ℕ) → 0 ≤ k → k < n → f k ≡ x → ⊥) (λ i. (0 ≤ i) × (i < n) × (f i ≡ x) × ((k : ℕ) → 0 ≤ k → k < i → f k ≡ x → ⊥))

-- one is found unless f is nowhere x
some_found : {X : Type 0} (f : ℕ → X) (x : X) (n : ℕ) (found : Option ℕ) → First f x n found → (((k : ℕ) → k < n → f k ≢ x) → ⊥) → IsSome found
some_found f x n None none some = absurd (some (λ k less. none k (omega arith) less))
some_found f x n (Some i) first some = search rules

pub unwrap-requires : goal.unwrap-requires
unwrap-requires g c =
    let m = g.V.Algebra.model in
    let rows = given m g.V.Algebra.means c.args.self.now in
    let both = λ (n : ℕ). join m (pause_at rows n) (exit_at rows n) in
    let figure = option_map g.V.Algebra.means c.args.figure in
    let found : First both figure c.size.result c.find.result = first_from_Range _ _ _ _ _ _ c.find.ensures.ran (λ x q k. search (rules, tests)) (λ x q k. search (rules, tests)) in
    some_found both figure c.size.result c.find.result found
    (λ none. reached m (g.met.V.Algebra.chosen c.requires.chooses) both (rows.transient + rows.period) (omega arith) (λ k less e. none k (omega (arith, c.size.ensures)) (e ∙ sym c.requires.whole)))

pub returns : goal.returns
returns g c =
    let m = g.V.Algebra.model in
    let rows = given m g.V.Algebra.means c.args.self.now in
    let both = λ (n : ℕ). join m (pause_at rows n) (exit_at rows n) in
    let figure = option_map g.V.Algebra.means c.args.figure in
    let found : First both figure c.size.result c.find.result = first_from_Range _ _ _ _ _ _ c.find.ensures.ran (λ x q k. search (rules, tests)) (λ x q k. search (rules, tests)) in
    let first : First both figure c.size.result (Some c.unwrap.result) = subst (First both figure c.size.result) c.unwrap.ensures found in
    (first.2, λ n less. first.3 n (omega arith) less)
