-- Cells that are as they were, and what they mean.
use Rattle.std.proofs.Common.{◌≡◌, ℕ, ◌<◌, ◌≤◌, List, length, get_or, take, drop, None, Option, sym, ap, ◌∙◌, ⊎_elim, arith}
use Rattle.std.proofs.lemmas.List.{get_or_past, length-take, length-drop, length-map}
use Rattle.std.proofs.lemmas.Bool.{cases_lt}
use Rattle.std.specs.Option.{option_map}
use Rattle.rows.specs.Pieces.{meanings}
use Rattle.rows.proofs.Unrolling.{means_at, means_below}

-- cells that are as they were, but for some, mean what they meant
pub others_mean : {V C : Type 0} (f : V → C) (P : ℕ → Type 0) (before after : List (Option V)) → ((j : ℕ) → j < 2048 → (P j → ⊥) → get_or after j None ≡ get_or before j None) → (j : ℕ) → (P j → ⊥) → get_or (meanings f (take 2048 after)) j None ≡ get_or (meanings f (take 2048 before)) j None
others_mean f P before after same j out = ⊎_elim
    (λ less.
    means_below f after 2048 j less ∙ means_at f after j ∙ ap (option_map f) (same j less out)
    ∙ sym (means_at f before j) ∙ sym (means_below f before 2048 j less))
    (λ more. none after more ∙ sym (none before more))
    (cases_lt j 2048)
  where
    none : (cells : List (Option _)) → 2048 ≤ j → get_or (meanings f (take 2048 cells)) j None ≡ None
    none cells more = get_or_past (meanings f (take 2048 cells)) j None (simp (length-map, length-take) (omega arith))

-- cells that are absent mean nothing
pub blank_mean : {V C : Type 0} (f : V → C) (cells : List (Option V)) → ((j : ℕ) → j < 4096 → get_or cells j None ≡ None) → (j : ℕ) → get_or (meanings f (take 2048 cells)) j None ≡ None
blank_mean f cells blank j = ⊎_elim
    (λ less. means_below f cells 2048 j less ∙ means_at f cells j ∙ ap (option_map f) (blank j (omega arith)))
    (λ (more : 2048 ≤ j). get_or_past (meanings f (take 2048 cells)) j None (simp (length-map, length-take) (omega arith)))
    (cases_lt j 2048)

-- lists that are the same from an element on that both reach are of one length
pub same_length : {X : Type 0} (n : ℕ) (before after : List X) → n ≤ length before → n ≤ length after → drop n after ≡ drop n before → length after ≡ length before
same_length n before after long long' past = omega (arith, length-drop n before, length-drop n after, ap length past)
