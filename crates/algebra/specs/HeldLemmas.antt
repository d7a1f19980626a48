-- The laws of numbers up to a top, for every top.
use Rattle.std.specs.Prelude.{◌≡◌, ℕ, ◌≤◌, ◌⊎◌, Decides, ◌==◌}
use Rattle.std.proofs.Common.{inl, inr, ap, arith}
use Rattle.std.proofs.Math.Bridge.{le_prop}
use Rattle.std.proofs.Math.Decide.{dec_le}
use mathlib.Core.HLevel.{is_prop→PathP}
use Rattle.std.proofs.lemmas.Bool.Decides.{Decides-eqb, Decides-like}
use Rattle.algebra.specs.Held.{Held, held, larger, smaller, sum}

-- two numbers up to one top are equal when their amounts are
pub same_amount : {top : ℕ} {a b : Held top} → a.amount ≡ b.amount → a ≡ b
same_amount {top} {a} {b} p = λ i. record {
  amount = p i;
  within = is_prop→PathP (λ j. p j ≤ top) (λ j. le_prop) a.within b.within i;
}

module _ {top : ℕ} where
  pub larger_assoc : (a b c : Held top) → larger (larger a b) c ≡ larger a (larger b c)
  larger_assoc a b c = same_amount (omega arith)

  pub larger_comm : (a b : Held top) → larger a b ≡ larger b a
  larger_comm a b = same_amount (omega arith)

  pub larger_self : (a : Held top) → larger a a ≡ a
  larger_self a = same_amount (omega arith)

  pub smaller_assoc : (a b c : Held top) → smaller (smaller a b) c ≡ smaller a (smaller b c)
  smaller_assoc a b c = same_amount (omega arith)

  pub smaller_comm : (a b : Held top) → smaller a b ≡ smaller b a
  smaller_comm a b = same_amount (omega arith)

  pub smaller_self : (a : Held top) → smaller a a ≡ a
  smaller_self a = same_amount (omega arith)

  pub sum_assoc : (a b c : Held top) → sum (sum a b) c ≡ sum a (sum b c)
  sum_assoc a b c = same_amount (omega arith)

  pub sum_comm : (a b : Held top) → sum a b ≡ sum b a
  sum_comm a b = same_amount (omega arith)

  pub sum_zero : (a : Held top) → sum a (held top 0) ≡ a
  sum_zero a = same_amount (omega arith)

  pub sum_larger : (a b c : Held top) → sum a (larger b c) ≡ larger (sum a b) (sum a c)
  sum_larger a b c = same_amount (omega arith)

  pub sum_smaller : (a b c : Held top) → sum a (smaller b c) ≡ smaller (sum a b) (sum a c)
  sum_smaller a b c = same_amount (omega arith)

  pub larger_chooses : (a b : Held top) → (larger a b ≡ a) ⊎ (larger a b ≡ b)
  larger_chooses a b = elim (dec_le a.amount b.amount) [
    | yes h ↦ inr (same_amount (omega arith))
    | no h ↦ inl (same_amount (omega arith))
  ]

  pub smaller_chooses : (a b : Held top) → (smaller a b ≡ a) ⊎ (smaller a b ≡ b)
  smaller_chooses a b = elim (dec_le a.amount b.amount) [
    | yes h ↦ inl (same_amount (omega arith))
    | no h ↦ inr (same_amount (omega arith))
  ]

  -- a test of amounts decides whether two numbers are one
  pub decides_same : (a b : Held top) → Decides (a.amount == b.amount) (a ≡ b)
  decides_same a b =
      Decides-like _ same_amount (ap (λ (x : Held top). x.amount)) (Decides-eqb a.amount b.amount)
