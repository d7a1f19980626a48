-- The rows of a piece that gives a plan's joined weights are lasting: where one is present, pause is present before.
use Rattle.std.proofs.Common.{◌≡◌, ℕ, true, is_some, Some, None, Option, refl, ap, inl, inr, arith}
use Rattle.algebra.specs.Model.{Model, Laws}
use Rattle.rows.specs.Pieces.{Rows, pause_at, exit_at}
use Rattle.runs.specs.Plan.{Plan}
use Rattle.runs.specs.Weights.{JoinedRows}
use Rattle.runs.proofs.Ages.{Lasting}
use Rattle.runs.proofs.Earlier.{present_before}

pub there : {X : Type 0} (c : Option X) → is_some c ≡ true → (x : X) × (c ≡ Some x)
there None h = let z : ◌≡◌ {A = ℕ} 0 1 = cc in absurd (omega arith)
there (Some x) h = (x, refl)

module _ (m : Model) (laws : Laws m) {X : Type 0} (weigh : X → m.Carrier) (A : Rows m) {a : Plan X} (r : JoinedRows m weigh a (pause_at A) (exit_at A)) where
  pub pauses_last : Lasting A A.p
  pauses_last k n l h = let x = there (pause_at A n) h in ap is_some (present_before m laws weigh r k n l x.0 (inl x.1)).1

  pub exits_last : Lasting A A.e
  exits_last k n l h = let x = there (exit_at A n) h in ap is_some (present_before m laws weigh r k n l x.0 (inr x.1)).1
