-- What a shelf gives comes from its cells alone: where they are the same, its rows and their least shape are.
use Rattle.std.proofs.Common.{◌≡◌, ℕ, ◌+◌, ◌*◌, ◌≤◌, List, get_or, None, sym, ap, ◌∙◌, arith}
use Rattle.algebra.specs.Model.{Model}
use Rattle.algebra.specs.Coefficients.{Coef}
use Rattle.rows.specs.Phases.{phase}
use Rattle.rows.specs.Pieces.{on_shelf, pause_at, exit_at, given_at}
use Rattle.rows.specs.Repeats.{LeastShape}
use Rattle.rows.specs.Unrolled.{Keeps}
use Rattle.rows.proofs.PhaseLaws.{phase_within}
use Rattle.runs.specs.OneShape.{Shelved}
use Rattle.runs.proofs.OneShape.{repeats_too}
use Rattle.rows.specs.Filled.{OfShelf}

-- equal rows have one least shape
least_like : {X : Type 0} (row like : ℕ → X) (t d : ℕ) → ((n : ℕ) → row n ≡ like n) → LeastShape row t d → LeastShape like t d
least_like row like t d same s = record {
  positive = s.positive;
  repeats = repeats_too row like same t d s.repeats;
  least_period = λ t' c pos r. s.least_period t' c pos (repeats_too like row (λ n. sym (same n)) t' c r);
  least_transient = λ t' r. s.least_transient t' (repeats_too like row (λ n. sym (same n)) t' d r);
}

module _ (m : Model) (before after : List (Coef m)) (k : ℕ) (same : (j : ℕ) → OfShelf k j → get_or after j None ≡ get_or before j None) (t d : ℕ)
    (pos : 1 ≤ d) (short : t + d ≤ 64) where
  pub same_pauses : (n : ℕ) → pause_at (on_shelf m before k t d) n ≡ pause_at (on_shelf m after k t d) n
  same_pauses n = let within = phase_within t d pos n in sym (same (128 * k + phase t d n) (omega arith, omega arith))

  pub same_exits : (n : ℕ) → exit_at (on_shelf m before k t d) n ≡ exit_at (on_shelf m after k t d) n
  same_exits n = let within = phase_within t d pos n in sym (same (128 * k + 64 + phase t d n) (omega arith, omega arith))

  pub same_shelved : Shelved m before k t d → Shelved m after k t d
  same_shelved s = record {
    fits = short;
    least = least_like (given_at (on_shelf m before k t d)) (given_at (on_shelf m after k t d)) t d (λ n i. (same_pauses n i, same_exits n i)) s.least;
    past_pause = λ i past low. same (128 * k + i) (omega arith, omega arith) ∙ s.past_pause i past low;
    past_exit = λ i past low. same (128 * k + (64 + i)) (omega arith, omega arith) ∙ s.past_exit i past low;
  }

-- a shelf that keeps rows is in its least shape
pub kept_shelved : (m : Model) (row : ℕ → Coef m × Coef m) (k t d : ℕ) (cells : List (Coef m)) → t + d ≤ 64 → Keeps m row k t d cells → Shelved m cells k t d
kept_shelved m row k t d cells short keeps = record {
  fits = short;
  least = least_like row (given_at (on_shelf m cells k t d)) t d (λ n. sym (keeps.gives n)) keeps.least;
  past_pause = keeps.no_pause;
  past_exit = λ i past low. ap (λ (j : ℕ). get_or cells j None) {y = 128 * k + 64 + i} (omega arith) ∙ keeps.no_exit i past low;
}
