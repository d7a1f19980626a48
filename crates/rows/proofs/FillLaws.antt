-- A shelf whose two rows are filled.
use Rattle.std.proofs.Common.{◌≡◌, ℕ, ◌+◌, ◌*◌, ◌<◌, ◌≤◌, cond, ltb, ◌⊎◌, List, length, get_or, min, None, Option, sym, ap, ◌∙◌, inl, inr, ⊎_elim, arith}
use Rattle.std.proofs.lemmas.Bool.{cases_lt, cond-true, cond-false, lt-ltb, le-ltb}
use Rattle.rows.specs.Filled.{kept_at, Filled}

-- a row at its place, absent from the size on; every other cell is as it was
pub record RowFilled {X : Type 0} (before after : List (Option X)) (at from size : ℕ) : Type 0 where
  pub len : length after ≡ length before
  pub row : (k : ℕ) → k < 64 → get_or after (at + k) None ≡ kept_at before from size k
  pub others : (j : ℕ) → (j < at) ⊎ (at + 64 ≤ j) → get_or after j None ≡ get_or before j None

-- for the 64 phases of a shelf a size past 64 is as good as 64
kept_up_to : {X : Type 0} (cells : List (Option X)) (from size k : ℕ) → k < 64 → kept_at cells from (min size 64) k ≡ kept_at cells from size k
kept_up_to cells from size k less = ⊎_elim
    (λ near. cond-true (ltb k (min size 64)) _ _ (lt-ltb k (min size 64) (omega arith)) ∙ sym (cond-true (ltb k size) _ _ (lt-ltb k size near)))
    (λ past. cond-false (ltb k (min size 64)) _ _ (le-ltb k (min size 64) (omega arith)) ∙ sym (cond-false (ltb k size) _ _ (le-ltb k size past)))
    (cases_lt k size)

-- the working cells of a row are none of the shelf's
kept_still : {X : Type 0} (before between : List (Option X)) (at from size k : ℕ) → at + 64 ≤ from → ((j : ℕ) → (j < at) ⊎ (at + 64 ≤ j) → get_or between j None ≡ get_or before j None) → kept_at between from size k ≡ kept_at before from size k
kept_still before between at from size k far others = ap (λ x. cond (ltb k size) x None) (others (from + k) (inr (omega arith)))

-- pause in the first 64 cells of a shelf and then exit in the other 64 fill it
pub both_filled : {X : Type 0} (before between after : List (Option X)) (shelf size few : ℕ) → shelf ≤ 15 → few ≡ min size 64 → RowFilled before between (128 * shelf) 2048 few → RowFilled between after (128 * shelf + 64) 3072 few → Filled before after shelf size
both_filled before between after shelf size few low is pause exit = record {
  len = exit.len ∙ pause.len;
  pauses = λ k less.
      exit.others (128 * shelf + k) (inl (omega arith)) ∙ pause.row k less ∙ ap (λ (n : ℕ). kept_at before 2048 n k) is ∙ kept_up_to before 2048 size k less;
  exits = λ k less.
      exit.row k less ∙ kept_still before between (128 * shelf) 3072 few k (omega arith) pause.others ∙ ap (λ (n : ℕ). kept_at before 3072 n k) is ∙ kept_up_to before 3072 size k less;
  others = λ j out. ⊎_elim
      (λ h. exit.others j (inl (omega arith)) ∙ pause.others j (inl h))
      (λ h. exit.others j (inr (omega arith)) ∙ pause.others j (inr (omega arith)))
      out;
}
