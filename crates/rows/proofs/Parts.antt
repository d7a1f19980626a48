-- A part of a list that is lent on and written, read by index.
use Rattle.std.proofs.Common.{◌≡◌, ℕ, ◌+◌, ◌-◌, ◌<◌, ◌≤◌, List, ◌++◌, length, get_or, take, drop, ap, ◌∙◌, arith}
use borrow.Rule.Slice.PartMut.{put_mid, post_of}
use Rattle.std.proofs.lemmas.List.{get_or_append_left, get_or-append_right, get_or-take, get_or-drop, length-take-le}

module _ {X : Type 0} (a k : ℕ) (xs ys : List X) (d : X) (within : a ≤ length xs) (j : ℕ) where
  pub part_before : j < a → get_or (put_mid a k xs ys) j d ≡ get_or xs j d
  part_before less =
      get_or_append_left (take a xs) (ys ++ post_of a k xs) d j (omega (arith, length-take-le a xs within)) ∙ get_or-take a xs j d less

  pub part_in : a ≤ j → j < a + length ys → get_or (put_mid a k xs ys) j d ≡ get_or ys (j - a) d
  part_in low less =
      get_or-append_right (take a xs) (ys ++ post_of a k xs) a j d (length-take-le a xs within) low
      ∙ get_or_append_left ys (post_of a k xs) d (j - a) (omega arith)

  pub part_after : length ys ≡ k → a + k ≤ j → get_or (put_mid a k xs ys) j d ≡ get_or xs j d
  part_after long far =
      get_or-append_right (take a xs) (ys ++ post_of a k xs) a j d (length-take-le a xs within) (omega arith)
      ∙ get_or-append_right ys (post_of a k xs) k (j - a) d long (omega arith)
      ∙ get_or-drop k (drop a xs) (j - a - k) d
      ∙ get_or-drop a xs (k + (j - a - k)) d
      ∙ ap (λ (i : ℕ). get_or xs i d) {y = j} (omega arith)
