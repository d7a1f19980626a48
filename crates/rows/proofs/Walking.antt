-- One tick more of a walk.
use Rattle.std.proofs.Common.{◌≡◌, ℕ, ◌+◌, ◌<◌, ◌≤◌, false, ◌≢◌, List, [], ◌∷◌, ◌++◌, length, get_or, take, drop, set, None, Option, sym, ap, ◌∙◌, subst, add-one, arith}
use Rattle.std.proofs.Math.Seq.{get_or-append_seam}
use Rattle.std.proofs.lemmas.List.{get_or_append_left, length-set, length-map, map-set, get_or-set_same, get_or-set_other, take-set-le, drop-set-lt}
use Rattle.std.specs.Option.{option_map}
use Rattle.algebra.specs.Model.{Model}
use Rattle.algebra.specs.Coefficients.{Coef}
use Rattle.rows.specs.declared.situation.Situation.{Situation}
use Rattle.rows.specs.Pieces.{meanings}
use Rattle.rows.specs.Repeats.{NoRepeat}
use Rattle.rows.specs.Rules.Rule.{Rule, at, rows, situation}
use Rattle.rows.specs.Search.{noted}
use Rattle.rows.specs.Walked.{Walked}
use Rattle.rows.proofs.Ranges.{up_to}

module _ {m : Model} (rule : Rule m) (n : ℕ) (s next : Situation) (situations : List Situation) (cells more : List (Coef m)) where
  pub walked_more : Walked rule n s situations cells → n ≡ length situations → ((k : ℕ) → k < n → get_or situations k (situation 0 0 0 false false) ≡ s → ⊥) → next ≡ rule.next s → noted m more n ≡ (rule.pause s, rule.exit s) → ((k : ℕ) → k < n → noted m more k ≡ noted m cells k) → Walked rule (n + 1) next (situations ++ s ∷ []) more
  walked_more w room unseen follows now before = record {
    here = follows ∙ ap rule.next w.here ∙ ap (at rule) (sym (add-one n));
    seen = up_to _ 0 n
        (λ k low less. get_or_append_left situations (s ∷ []) _ k (omega arith) ∙ w.seen k low less)
        (ap (λ (k : ℕ). get_or (situations ++ s ∷ []) k (situation 0 0 0 false false)) room ∙ get_or-append_seam situations s [] _ ∙ w.here);
    fresh = λ j k less upto.
        up_to (λ k'. (j' : ℕ) → j' < k' → at rule j' ≡ at rule k' → ⊥) 0 n
        (λ k' low less' j' l. w.fresh j' k' l less')
        (λ j' l e. unseen j' l (w.seen j' (omega arith) l ∙ e ∙ sym w.here))
        k (omega arith) upto j less;
    kept = up_to _ 0 n
        (λ k low less. before k less ∙ w.kept k low less)
        (now ∙ ap (λ t. (rule.pause t, rule.exit t)) w.here);
  }

-- as many ticks, in other words
pub walked_at : {m : Model} {rule : Rule m} {n k : ℕ} {s : Situation} {situations : List Situation} {cells : List (Coef m)} → n ≡ k → Walked rule n s situations cells → Walked rule k s situations cells
walked_at {m} {rule} {n} {k} {s} {situations} {cells} e w = subst (λ (i : ℕ). Walked rule i s situations cells) e w

-- what the cells hold once tick n is noted
module _ {V C : Type 0} (f : V → C) (cells : List (Option V)) (n : ℕ) (p e : Option V) (room : 4096 ≤ length cells) (few : n < 1024) where
  means_set : meanings f (set (set cells (2048 + n) p) (3072 + n) e) ≡ set (set (meanings f cells) (2048 + n) (option_map f p)) (3072 + n) (option_map f e)
  means_set = map-set (option_map f) (set cells (2048 + n) p) (3072 + n) e ∙ ap (λ xs. set xs (3072 + n) (option_map f e)) (map-set (option_map f) cells (2048 + n) p)

  other_cell : (k : ℕ) → k ≢ 2048 + n → k ≢ 3072 + n → get_or (meanings f (set (set cells (2048 + n) p) (3072 + n) e)) k None ≡ get_or (meanings f cells) k None
  other_cell k ne ne' =
      ap (λ xs. get_or xs k None) means_set
      ∙ get_or-set_other _ (3072 + n) k _ None ne'
      ∙ get_or-set_other _ (2048 + n) k _ None ne

  noted_here : get_or (meanings f (set (set cells (2048 + n) p) (3072 + n) e)) (2048 + n) None ≡ option_map f p
  noted_here =
      let ne : 2048 + n ≢ 3072 + n = omega arith in
      ap (λ xs. get_or xs (2048 + n) None) means_set
      ∙ get_or-set_other _ (3072 + n) (2048 + n) _ None ne
      ∙ get_or-set_same (meanings f cells) (2048 + n) (option_map f p) None (simp length-map (omega arith))

  noted_exit : get_or (meanings f (set (set cells (2048 + n) p) (3072 + n) e)) (3072 + n) None ≡ option_map f e
  noted_exit =
      ap (λ xs. get_or xs (3072 + n) None) means_set
      ∙ get_or-set_same _ (3072 + n) (option_map f e) None (simp (length-set, length-map) (omega arith))

  pub shelves_same : take 2048 (set (set cells (2048 + n) p) (3072 + n) e) ≡ take 2048 cells
  shelves_same =
      take-set-le 2048 (set cells (2048 + n) p) (3072 + n) e (omega arith) ∙ take-set-le 2048 cells (2048 + n) p (omega arith)

  pub past_same : drop 4096 (set (set cells (2048 + n) p) (3072 + n) e) ≡ drop 4096 cells
  past_same =
      drop-set-lt 4096 (set cells (2048 + n) p) (3072 + n) e (omega arith) ∙ drop-set-lt 4096 cells (2048 + n) p (omega arith)

-- the same, for tick n and the ticks before, as the walk reads them
module _ (m : Model) {V : Type 0} (f : V → m.Carrier) (cells : List (Option V)) (n : ℕ) (p e : Option V) (room : 4096 ≤ length cells) (few : n < 1024) where
  pub noted_now : noted m (meanings f (set (set cells (2048 + n) p) (3072 + n) e)) n ≡ (option_map f p, option_map f e)
  noted_now = λ i. (noted_here f cells n p e room few i, noted_exit f cells n p e room few i)

  pub noted_then : (k : ℕ) → k < n → noted m (meanings f (set (set cells (2048 + n) p) (3072 + n) e)) k ≡ noted m (meanings f cells) k
  noted_then k less = λ i. (other_cell f cells n p e room few (2048 + k) (omega arith) (omega arith) i, other_cell f cells n p e room few (3072 + k) (omega arith) (omega arith) i)
