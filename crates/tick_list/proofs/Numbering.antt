-- Numbered items: one more comes last, with the number of those before it.
use Rattle.std.proofs.Common.{◌≡◌, ℕ, ◌+◌, ◌<◌, List, [], ◌∷◌, ◌++◌, Option, length, get_or, take, sym, ap, ◌∙◌, append_assoc, append-nil, arith, length-take, subst}
use Rattle.std.proofs.KnownBytes.{Appends-trans}
use Rattle.std.proofs.lemmas.List.{take_more}
use Rattle.std.specs.Io.KnownBytes.{Appends}
use Rattle.tick_list.specs.Listings.{numbered}

module _ {A : Type 0} (line : ℕ → A → List ℕ) where
  -- the lines of the items with one more are those of the items, and then its line
  numbered_more : (n m : ℕ) (xs : List A) (x : A) → n + length xs ≡ m → numbered line n (xs ++ x ∷ []) ≡ numbered line n xs ++ line m x
  numbered_more n m [] x is = append-nil (line n x) ∙ ap (λ (k : ℕ). line k x) (omega (arith, is))
  numbered_more n m (y ∷ xs) x is =
      ap (λ (l : List ℕ). line n y ++ l) (numbered_more (n + 1) m xs x (omega (arith, is)))
      ∙ sym (append_assoc (line n y) (numbered line (n + 1) xs) (line m x))

  -- a writer that got the lines of the first i items, and then one more
  pub written_more : (old out more : Option (List ℕ)) (xs : List A) (i : ℕ) (d : A) → i < length xs → Appends old out (numbered line 0 (take i xs)) → Appends out more (line i (get_or xs i d)) → Appends old more (numbered line 0 (take (i + 1) xs))
  written_more old out more xs i d h so on =
      let last : numbered line 0 (take (i + 1) xs) ≡ numbered line 0 (take i xs) ++ line i (get_or xs i d) =
      ap (numbered line 0) (take_more xs i d h) ∙ numbered_more 0 i (take i xs) (get_or xs i d) (omega (arith, length-take i xs)) in
      subst (Appends old more) (sym last) (Appends-trans old out more _ _ so on)
