-- Numbers up to a top, with the sum held at the top.
use Rattle.std.specs.Prelude.{ℕ, ◌+◌, ◌≤◌, min, max}
use Rattle.std.proofs.Common.{arith}

-- a number that is at most the top
pub record Held (top : ℕ) : Type 0 where
  pub amount : ℕ
  pub within : amount ≤ top

-- n, or the top where n is past it
abbrev pub held : (top n : ℕ) → Held top
held top n = record { amount = min n top; within = omega arith }

abbrev pub larger : {top : ℕ} → Held top → Held top → Held top
larger a b = record { amount = max a.amount b.amount; within = omega arith }

abbrev pub smaller : {top : ℕ} → Held top → Held top → Held top
smaller a b = record { amount = min a.amount b.amount; within = omega arith }

-- the sum, held at the top
abbrev pub sum : {top : ℕ} → Held top → Held top → Held top
sum {top} a b = held top (a.amount + b.amount)
