-- Whether a cell is present, and whether its meaning is.
use Rattle.std.proofs.Common.{◌≡◌, ℕ, List, get_or, is_some, None, Option, ap, ◌∙◌}
use Rattle.rows.specs.Pieces.{meanings}
use Rattle.rows.proofs.Meanings.{present_means}
use Rattle.rows.proofs.Unrolling.{means_at}

pub present_at : {V C : Type 0} (f : V → C) (cells : List (Option V)) (j : ℕ) → is_some (get_or (meanings f cells) j None) ≡ is_some (get_or cells j None)
present_at f cells j = ap is_some (means_at f cells j) ∙ present_means f (get_or cells j None)
