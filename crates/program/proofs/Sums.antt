-- Folds that add up the weights of labels, and that count them.
use Rattle.std.proofs.Common.{◌≡◌, ℕ, ◌+◌, ◌≤◌, min, List, [], ◌∷◌, ◌++◌, map, length, Option, sym, refl, ap, ◌∙◌, append-nil, arith, length-append}
use Rattle.std.specs.Fn.{Called}
use Rattle.std.specs.Iterator.{Drains}
use Rattle.std.specs.List.{FoldsTo}
use Rattle.std.specs.Prelude.{fold}
use Rattle.std.proofs.lemmas.Fn.{fold_over}
use Rattle.std.proofs.lemmas.Iterator.{YieldsList}
use Rattle.std.proofs.lemmas.List.Concat.{flat_map-append}
use denote.Param.Members.{Mut}
use Rattle.algebra.specs.declared.label.Label.{Label}
use Rattle.algebra.specs.Model.{Model}
use Rattle.program.specs.declared.record.Record.{Record}
use Rattle.program.specs.Entries.{entry}
use Rattle.program.specs.Weights.{labels, all_labels, added}

module _ (m : Model) where
  added_append : (x : m.Carrier) (ls ks : List Label) → added m x (ls ++ ks) ≡ added m (added m x ls) ks
  added_append x [] ks = refl
  added_append x (l ∷ ls) ks = added_append (m.add x (m.weigh l)) ls ks

  -- what a chain folds to, as w reads it, where each call adds the labels of one item
  pub added_over : {S A B C F : Type 0} {steps : S → Option A → S → Type 0} {v : A → B} {s : S} {all : List B} (g : Mut F (C × (A × Unit {0})) C) (w : C → m.Carrier) (of : List B → List Label) (one : B → List Label) {f : F} (init r : C)
      → ((xs : List A) × (q : F) × Drains steps s xs × FoldsTo {P = F × C} (λ a x b. Called g a.0 (a.1, (x, tt)) b.1 b.0) (f, init) xs (q, r)) → YieldsList steps v s all
      → w init ≡ added m (w init) (of []) → ((ys : List B) (y : B) → of (ys ++ y ∷ []) ≡ of ys ++ one y)
      → ((a : C) (x : A) (b : C) (q : F) → Called g f (a, (x, tt)) b q → (q ≡ f) × (w b ≡ added m (w a) (one (v x)))) → w r ≡ added m (w init) (of all)
  added_over {steps = steps} {v = v} {s = s} {all = all} g w of one {f} init r ran yields none more call =
      fold_over steps v g (λ ys a. w a ≡ added m (w init) (of ys)) f
      (λ ys a x b q same k. let e = call a x b q k in (
        e.1 ∙ ap (λ z. added m z (one (v x))) same ∙ sym (added_append (w init) (of ys) (one (v x))) ∙ ap (added m (w init)) (sym (more ys (v x))),
        e.0,
      ))
      s all init r yields.runs none ran

-- the labels of one record more come last
pub labels_more : (rs : List Record) (r : Record) → all_labels (rs ++ r ∷ []) ≡ all_labels rs ++ labels (entry r)
labels_more rs r = flat_map-append (λ x. labels (entry x)) rs (r ∷ []) ∙ ap (λ ls. all_labels rs ++ ls) (append-nil (labels (entry r)))

-- numbers of labels added up and held at the top
pub counted : (x top : ℕ) → x ≤ top → (rs : List Record) → fold (λ (a n : ℕ). min (a + n) top) x (map (λ (r : Record). length (labels (entry r))) rs) ≡ min (x + length (all_labels rs)) top
counted x top h [] = omega (arith, h)
counted x top h (r ∷ rs) =
    counted (min (x + length (labels (entry r))) top) top (omega arith) rs
    ∙ omega (arith, length-append (labels (entry r)) (all_labels rs))
