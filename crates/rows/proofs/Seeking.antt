-- A situation looked for along its chain.
use Rattle.std.proofs.Common.{◌≡◌, ℕ, ◌<◌, ◌≤◌, false, List, length, map, get_or, Option, Some, sym, refl, ap, ◌∙◌, subst, ⊎_elim, arith}
use Rattle.std.proofs.lemmas.List.{get_or-map}
use Rattle.std.proofs.lemmas.Bool.{cases_eq}
use Rattle.rows.specs.declared.situation.Situation.{Situation}
use Rattle.rows.specs.Chains.{newest}
use Rattle.rows.specs.Rules.Rule.{situation}
use Rattle.rows.specs.Situations.{chain, nth}
use Rattle.rows.proofs.Chaining.{past, leads_as}

-- the key of a situation noted is its chain
key_of : (noted : List Situation) (k : ℕ) → k < length noted → get_or (map chain noted) k 0 ≡ chain (nth noted k)
key_of noted k less = get_or-map chain noted k (situation 0 0 0 false false) 0 less

-- on the way along the chain of s: each number of a situation that equals s is p or below it
pub record Ahead (noted : List Situation) (s : Situation) (p : Option ℕ) : Type 0 where
  pub within : past p ≤ length noted
  pub inside : (k : ℕ) → p ≡ Some k → get_or (map chain noted) k 0 ≡ chain s
  pub all : (j : ℕ) → j < length noted → nth noted j ≡ s → j < past p

module _ (noted : List Situation) (s : Situation) where
  pub ahead_first : (p : Option ℕ) → p ≡ newest (map chain noted) (length noted) (chain s) → Ahead noted s p
  ahead_first p is =
      let first = leads_as (map chain noted) (length noted) (chain s) is in
      record { within = first.within; inside = first.inside; all = λ j less e. first.all j less (key_of noted j less ∙ ap chain e) }

  pub ahead_next : (k : ℕ) (p : Option ℕ) → Ahead noted s (Some k) → (nth noted k ≡ s → ⊥) → p ≡ newest (map chain noted) k (get_or (map chain noted) k 0) → Ahead noted s p
  ahead_next k p ahead other is =
      let next = leads_as (map chain noted) k (chain s) (is ∙ ap (newest (map chain noted) k) (ahead.inside k refl)) in
      record {
        within = omega (arith, next.within, ahead.within);
        inside = next.inside;
        all = λ j less e. ⊎_elim
            (λ last. absurd (other (ap (nth noted) (sym last) ∙ e)))
            (λ ne. next.all j (omega (arith, ahead.all j less e)) (key_of noted j less ∙ ap chain e))
            (cases_eq j k);
      }
