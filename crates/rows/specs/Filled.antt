-- A shelf filled from the working cells, and the cells that nothing fills.
use Rattle.std.specs.Prelude.{◌≡◌, ℕ, ◌+◌, ◌*◌, ◌<◌, ◌≤◌, cond, ◌⊎◌, List, length, drop, None, Option, nat_lt, slice_index_or}

module _ {X : Type 0} where
  -- what phase k of a row takes from the working cells: absent from the size on
  abbrev pub kept_at : List (Option X) → (from size k : ℕ) → Option X
  kept_at cells from size k = cond (nat_lt k size) (slice_index_or cells (from + k) None) None

  -- the shelf has the noted rows up to the size and absent past it; every other cell is as it was
  pub record Filled (before after : List (Option X)) (shelf size : ℕ) : Type 0 where
    pub len : length after ≡ length before
    pub pauses : (k : ℕ) → k < 64 → slice_index_or after (128 * shelf + k) None ≡ kept_at before 2048 size k
    pub exits : (k : ℕ) → k < 64 → slice_index_or after (128 * shelf + 64 + k) None ≡ kept_at before 3072 size k
    pub others : (j : ℕ) → (j < 128 * shelf) ⊎ (128 * shelf + 128 ≤ j) → slice_index_or after j None ≡ slice_index_or before j None

  -- the cells past the 4,096 that are used are as they were: a word and no invariant, since it is of before and after
  abbrev pub SamePast : (before after : List (Option X)) → Type 0
  SamePast before after = drop 4096 after ≡ drop 4096 before

-- cell j is one of shelf k's
abbrev pub OfShelf : (k j : ℕ) → Type 0
OfShelf k j = (128 * k ≤ j) × (j < 128 * k + 128)

-- of the lent cells, only those of shelf k and the working cells may have changed
pub record OnlyShelf {X : Type 0} (k : ℕ) (before after : List (Option X)) : Type 0 where
  pub others : (j : ℕ) → j < 2048 → (OfShelf k j → ⊥) → slice_index_or after j None ≡ slice_index_or before j None
  pub past : SamePast before after
