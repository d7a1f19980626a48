-- A case from its first ticks: rows that repeat are compared up to the end of the first round.
use Rattle.std.proofs.Common.{◌≡◌, ℕ, ◌+◌, ◌-◌, ◌*◌, ◌<◌, ◌≤◌, Bool, true, cond, leb, Decides, ap, subst, arith}
use Rattle.std.proofs.lemmas.Bool.{leb-true}
use Rattle.algebra.specs.Model.{Model, Laws}
use Rattle.algebra.specs.Coefficients.{Coef}
use Rattle.rows.specs.declared.situation.Situation.{Situation}
use Rattle.rows.specs.Pieces.{Rows, given_at}
use Rattle.rows.specs.Repeats.{Repeats}
use Rattle.rows.specs.Rules.Rule.{Rule, at, rows}
use Rattle.rows.proofs.Periods.{repeating}
use Rattle.runs.specs.Computes.{Computes}
use Rattle.runs.specs.Weights.{JoinedRows}
use Rattle.runs.proofs.EachKind.{same_rows}
use Rattle.cases.specs.Case.{Case, Stands, Works}
use Rattle.cases.proofs.Finite.{each, decides_each, apart, fresh}
use Rattle.cases.proofs.Shapes.{agree, given_repeats, tight, positive, least}

-- an algebra whose coefficients can be compared
pub record Compared (m : Model) : Type 0 where
  pub laws : Laws m
  pub same : Coef m × Coef m → Coef m × Coef m → Bool
  pub decides : (x y : Coef m × Coef m) → Decides (same x y) (x ≡ y)

-- the fields of a situation as one number
abbrev number : Situation → ℕ
number s = s.a + 64 * (s.b + 64 * (cond s.wa 1 0 + 2 * cond s.wb 1 0 + 4 * s.set))

module _ {m : Model} (by : Compared m) (c : Case m) where
  abbrev A : Rows m
  A = c.rows

  -- the shape of the listed rows is their least
  abbrev pub Tight : Type 0
  Tight = tight by.same (given_at A) A.transient A.period ≡ true

  some : Tight → 1 ≤ A.period
  some = positive by.same (given_at A) A.transient A.period

  again : Tight → Repeats (given_at A) A.transient A.period
  again shape = given_repeats A (some shape)

  -- rows that repeat as the listed ones do, and have their first ticks
  pub comes_to : Tight → (r : ℕ → Coef m × Coef m) (i : ℕ) → A.transient ≤ i → Repeats r i A.period
      → ((k : ℕ) → k < i + A.period → r k ≡ given_at A k) → (n : ℕ) → r n ≡ given_at A n
  comes_to shape r i late round =
      agree r (given_at A) i A.period (some shape) round (λ n l. again shape n (omega arith))

  pub stands : Tight → (p e : ℕ → Coef m) → JoinedRows m m.weigh c.plan p e
      → ((n : ℕ) → ◌≡◌ {A = Coef m × Coef m} (p n, e n) (given_at A n)) → Stands c
  stands shape p e weights is = record {
    weights = same_rows m by.laws m.weigh weights (λ n. ap (λ x. x.0) (is n)) (λ n. ap (λ x. x.1) (is n));
    least = least by.same (given_at A) by.decides A.transient A.period shape (again shape);
  }

  module _ (rule : Rule m) (i : ℕ) where
    -- situation i is past the transient, no situation before the reply's repeats, and up to there the rows are as listed
    abbrev Begins : Type 0
    Begins = (leb A.transient i ≡ true) × (apart (λ k. number (at rule k)) (i + A.period) ≡ true) × (each (λ k. by.same (rows rule k) (given_at A k)) (i + A.period) ≡ true)

    -- and one period later situation i comes again
    pub works : Tight → Begins → at rule i ≡ at rule (i + A.period) → Computes m rule c.plan → Works rule (i + A.period) c
    works shape begins comes computes = record {
      stands = stands shape _ _ computes is;
      worked = is;
      replies = record { earlier = (i, less, comes); fresh = fresh (at rule) number (i + A.period) begins.1 };
    }
      where
        less : i < i + A.period
        less = omega (arith, some shape)

        round : Repeats (rows rule) i A.period
        round = subst (Repeats (rows rule) i) {x = i + A.period - i} (omega arith) (repeating rule i (i + A.period) less comes)

        is : (n : ℕ) → rows rule n ≡ given_at A n
        is = comes_to shape (rows rule) i (leb-true A.transient i begins.0) round
            ((decides_each _ _ (λ k. by.decides (rows rule k) (given_at A k)) (i + A.period)).0 begins.2)
