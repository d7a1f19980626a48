-- The two ends of runs.
use Rattle.std.proofs.Common.{◌≡◌, ℕ, refl, arith}
use Rattle.runs.specs.Runs.{End, paused, left, both}

pub left_not_paused : {P : Type 0} → left ≡ paused → P
left_not_paused e = let z : ◌≡◌ {A = ℕ} 0 1 = cc in absurd (omega arith)

pub both_paused : (e : End) → both e paused ≡ paused
both_paused paused = refl
both_paused left = refl
