-- The least shapes of a leaf's rows, and what a fill leaves of the other shelves.
use Rattle.std.proofs.Common.{◌≡◌, ℕ, zero, suc, ◌+◌, ◌-◌, ◌*◌, ◌<◌, ◌≤◌, ltb, ◌⊎◌, List, length, get_or, take, drop, set, Some, None, Option, sym, refl, ap, ◌∙◌, inl, inr, ⊎_elim, arith}
use Rattle.std.proofs.lemmas.List.{length-set}
use Rattle.std.proofs.lemmas.Bool.{cases_lt, cond-false, le-ltb}
use Rattle.std.specs.Option.{option_map}
use Rattle.std.proofs.lemmas.Option.{none-some}
use Rattle.algebra.specs.declared.label.Label.{Label}
use Rattle.algebra.specs.Model.{Model}
use Rattle.algebra.specs.Coefficients.{Coef}
use Rattle.rows.specs.Filled.{Filled}
use Rattle.rows.specs.Repeats.{Repeats, LeastShape}
use Rattle.rows.specs.Pieces.{meanings}
use Rattle.rows.specs.Search.{noted}
use Rattle.rows.specs.Unrolled.{Keeps}
use Rattle.rows.proofs.Ranges.{up_to}
use Rattle.rows.proofs.Unrolling.{apart, shelf_keeps, kept_below, agree_below, same_past}
use Rattle.rows.proofs.Walking.{noted_now, noted_then, shelves_same, past_same}
use Rattle.rows.specs.Filled.{OfShelf, OnlyShelf}
use Rattle.shelves.specs.Effects.{node_row, pause_row}

pub node_shape : (m : Model) (l : Label) → LeastShape (node_row m l) 1 1
node_shape m l = record {
  positive = omega arith;
  repeats = again;
  least_period = λ t d pos r. pos;
  least_transient = λ t r. ⊎_elim
      (λ less. absurd (none-some (m.weigh l) (ap (λ x. x.1) (r 0 (omega arith)))))
      (λ more. more)
      (cases_lt t 1);
}
  where
    again : Repeats (node_row m l) 1 1
    again zero h = absurd (omega arith)
    again (suc n) h = ap (node_row m l) {x = suc n + 1} {y = suc (suc n)} (omega arith)

pub pause_shape : (m : Model) (l : Label) → LeastShape (pause_row m l) 2 1
pause_shape m l = record {
  positive = omega arith;
  repeats = again;
  least_period = λ t d pos r. pos;
  least_transient = λ t r. ⊎_elim
      (λ less. absurd (none-some m.unit (ap (λ x. x.1) (r 1 (omega arith)))))
      (λ more. more)
      (cases_lt t 2);
}
  where
    again : Repeats (pause_row m l) 2 1
    again zero h = absurd (omega arith)
    again (suc zero) h = absurd (omega arith)
    again (suc (suc n)) h = ap (pause_row m l) {x = suc (suc n) + 1} {y = suc (suc (suc n))} (omega arith)

-- n ticks of a row are noted in the working cells, and nothing else has changed
module _ (m : Model) {V : Type 0} (f : V → m.Carrier) (row : ℕ → Coef m × Coef m) (before : List (Option V)) where
  pub record Noting (n : ℕ) (cells : List (Option V)) : Type 0 where
    pub rows : (k : ℕ) → 0 ≤ k → k < n → noted m (meanings f cells) k ≡ row k
    pub below : take 2048 cells ≡ take 2048 before
    pub past : drop 4096 cells ≡ drop 4096 before
    pub len : length cells ≡ length before

  pub noting_none : Noting 0 before
  noting_none = record { rows = λ k low less. absurd (omega arith); below = refl; past = refl; len = refl }

  pub noting_more : (n : ℕ) (cells more : List (Option V)) (p e : Option V) → 4096 ≤ length before → n < 1024 → Noting n cells → more ≡ set (set cells (2048 + n) p) (3072 + n) e → ◌≡◌ {A = Coef m × Coef m} (option_map f p, option_map f e) (row n) → Noting (n + 1) more
  noting_more n cells more p e room few noting wrote here =
      let space : 4096 ≤ length cells = omega (arith, noting.len) in
      record {
        rows = up_to (λ k. noted m (meanings f more) k ≡ row k) 0 n
            (λ k low less. ap (λ xs. noted m (meanings f xs) k) wrote ∙ noted_then m f cells n p e space few k less ∙ noting.rows k low less)
            (ap (λ xs. noted m (meanings f xs) n) wrote ∙ noted_now m f cells n p e space few ∙ here);
        below = ap (take 2048) wrote ∙ shelves_same f cells n p e space few ∙ noting.below;
        past = ap (drop 4096) wrote ∙ past_same f cells n p e space few ∙ noting.past;
        len = ap length wrote ∙ length-set _ (3072 + n) e ∙ length-set cells (2048 + n) p ∙ noting.len;
      }

  pub noting_kept : (t d : ℕ) (cells after : List (Option V)) (k : ℕ) → 4096 ≤ length before → k ≤ 15 → t + d ≤ 64 → Noting (t + d) cells → Filled cells after k (t + d) → LeastShape row t d → Keeps m row k t d (meanings f (take 2048 after))
  noting_kept t d cells after k room low short noting filled least =
      kept_below m f row after k t d low short
      (shelf_keeps m f row cells after k t d (t + d) filled short (omega arith) (λ j less. noting.rows j (omega arith) less) least)

-- a fill leaves the other shelves as they were, where the working cells alone had changed
pub fill_only : {X : Type 0} (before cells after : List (Option X)) (k size : ℕ) → Filled cells after k size → k ≤ 15 → take 2048 cells ≡ take 2048 before → drop 4096 cells ≡ drop 4096 before → OnlyShelf k before after
fill_only before cells after k size filled low below past = record {
  others = λ j less out. filled.others j (apart k j out) ∙ agree_below cells before 2048 below j less;
  past = same_past after cells 4096 filled.len (λ j far. filled.others j (inr (omega arith))) ∙ past;
}

-- a shelf filled with nothing is absent everywhere
pub filled_blank : {X : Type 0} (cells after : List (Option X)) (k : ℕ) → Filled cells after k 0 → (j : ℕ) → OfShelf k j → get_or after j None ≡ None
filled_blank cells after k filled j of = ⊎_elim
    (λ near.
    ap (λ (i : ℕ). get_or after i None) {y = 128 * k + (j - 128 * k)} (omega arith)
    ∙ filled.pauses (j - 128 * k) (omega arith)
    ∙ cond-false (ltb (j - 128 * k) 0) _ _ (le-ltb (j - 128 * k) 0 (omega arith)))
    (λ far.
    ap (λ (i : ℕ). get_or after i None) {y = 128 * k + 64 + (j - (128 * k + 64))} (omega arith)
    ∙ filled.exits (j - (128 * k + 64)) (omega arith)
    ∙ cond-false (ltb (j - (128 * k + 64)) 0) _ _ (le-ltb (j - (128 * k + 64)) 0 (omega arith)))
    (cases_lt j (128 * k + 64))
