-- Nodes and pauses of any cycles.
use Rattle.std.proofs.Common.{◌≡◌, ℕ, zero, suc, ◌+◌, ◌<◌, refl, ap, arith}
use Rattle.algebra.specs.Coefficients.{Coef}
use Rattle.algebra.specs.Models.{worst}
use Rattle.rows.specs.Pieces.{given_at}
use Rattle.rows.specs.Repeats.{Repeats}
use Rattle.runs.specs.Computes.{never, at_first, at_second}
use Rattle.runs.proofs.EachKind.{node_rows, pause_rows}
use Rattle.cases.specs.Case.{Stands}
use Rattle.cases.specs.Cases.{cost, node_of, pause_of}
use Rattle.cases.proofs.Cycles.{worsts}
use Rattle.cases.proofs.Working.{Tight, stands, comes_to}

module _ (x : ℕ) where
  abbrev node_row : ℕ → Coef worst × Coef worst
  node_row n = (never worst n, at_first worst (worst.weigh (cost x)) n)

  node_again : Repeats node_row 1 1
  node_again zero h = absurd (omega arith)
  node_again (suc n) h = ap node_row {x = suc n + 1} {y = suc (suc n)} (omega arith)

  node_first : (k : ℕ) → k < 2 → node_row k ≡ given_at (node_of x).rows k
  node_first zero l = refl
  node_first (suc zero) l = refl
  node_first (suc (suc k)) l = absurd (omega arith)

  pub nodes_stand : Stands (node_of x)
  nodes_stand =
      let shape : Tight worsts (node_of x) = refl in
      stands worsts (node_of x) shape _ _ (node_rows worst worsts.laws worst.weigh (cost x))
      (comes_to worsts (node_of x) shape node_row 1 (omega arith) node_again node_first)

  abbrev pause_row : ℕ → Coef worst × Coef worst
  pause_row n = (at_first worst (worst.weigh (cost x)) n, at_second worst n)

  pause_again : Repeats pause_row 2 1
  pause_again zero h = absurd (omega arith)
  pause_again (suc zero) h = absurd (omega arith)
  pause_again (suc (suc n)) h = ap pause_row {x = suc (suc n) + 1} {y = suc (suc (suc n))} (omega arith)

  pause_first : (k : ℕ) → k < 3 → pause_row k ≡ given_at (pause_of x).rows k
  pause_first zero l = refl
  pause_first (suc zero) l = refl
  pause_first (suc (suc zero)) l = refl
  pause_first (suc (suc (suc k))) l = absurd (omega arith)

  pub pauses_stand : Stands (pause_of x)
  pauses_stand =
      let shape : Tight worsts (pause_of x) = refl in
      stands worsts (pause_of x) shape _ _ (pause_rows worst worsts.laws worst.weigh (cost x))
      (comes_to worsts (pause_of x) shape pause_row 2 (omega arith) pause_again pause_first)
