-- Lists of calls: one call more, in the history and in what they do.
use Rattle.std.proofs.Common.{◌≡◌, ℕ, ◌+◌, ◌<◌, List, [], ◌∷◌, ◌++◌, map, length, get_or, take, set, sym, refl, ap, ◌∙◌, ap₂, subst, subst₂, arith}
use Rattle.std.proofs.lemmas.List.{map_push, take_more, take_more_set, length-map, length-take-le}
use Rattle.algebra.specs.Model.{Model}
use Rattle.shelves.specs.Calls.{Call, Reply, Event}
use Rattle.shelves.specs.Effects.{Does, DoesAll}
use Rattle.shelves.specs.Lists.{after_calls}
use Rattle.shelves.specs.State.{State}

module _ (m : Model) where
  after_push : (calls : List Call) (replies : List (Reply m)) (c : Call) (r : Reply m) (h : List (Event m)) → length calls ≡ length replies → after_calls m (calls ++ c ∷ []) (replies ++ r ∷ []) h ≡ record { call = c; reply = r } ∷ after_calls m calls replies h
  after_push [] [] c r h e = refl
  after_push [] (x ∷ replies) c r h e = absurd (omega arith)
  after_push (x ∷ calls) [] c r h e = absurd (omega arith)
  after_push (x ∷ calls) (y ∷ replies) c r h e = after_push calls replies c r (record { call = x; reply = y } ∷ h) (omega arith)

  -- the history of i + 1 calls is that of i with the last event added
  pub after_more : {C R : Type 0} (f : C → Call) (k : R → Reply m) (calls : List C) (replies : List R) (i : ℕ) (d : C) (r : R) (h : List (Event m)) → i < length calls → i < length replies → after_calls m (map f (take (i + 1) calls)) (map k (take (i + 1) (set replies i r))) h ≡ record { call = f (get_or calls i d); reply = k r } ∷ after_calls m (map f (take i calls)) (map k (take i replies)) h
  after_more f k calls replies i d r h less less' =
      let even : length (map f (take i calls)) ≡ length (map k (take i replies)) = simp length-map (length-take-le i calls (omega arith) ∙ sym (length-take-le i replies (omega arith))) in
      ap₂ (λ xs ys. after_calls m xs ys h)
      (ap (map f) (take_more calls i d less) ∙ map_push f (take i calls) (get_or calls i d))
      (ap (map k) (take_more_set replies i r less') ∙ map_push k (take i replies) r)
      ∙ after_push (map f (take i calls)) (map k (take i replies)) (f (get_or calls i d)) (k r) h even

  does_push : (calls : List Call) (replies : List (Reply m)) (c : Call) (r : Reply m) (s t s' : State m) → length calls ≡ length replies → DoesAll m calls replies s t → Does m c r t s' → DoesAll m (calls ++ c ∷ []) (replies ++ r ∷ []) s s'
  does_push [] [] c r s t s' e did does = (s', subst (λ u. Does m c r u s') did does, refl)
  does_push [] (x ∷ replies) c r s t s' e did does = absurd (omega arith)
  does_push (x ∷ calls) [] c r s t s' e did does = absurd (omega arith)
  does_push (x ∷ calls) (y ∷ replies) c r s t s' e did does = (did.0, did.1, does_push calls replies c r did.0 t s' (omega arith) did.2 does)

  -- what i calls did and then the next does
  pub does_more : {C R : Type 0} (f : C → Call) (k : R → Reply m) (calls : List C) (replies : List R) (i : ℕ) (d : C) (r : R) (s t s' : State m) → i < length calls → i < length replies → DoesAll m (map f (take i calls)) (map k (take i replies)) s t → Does m (f (get_or calls i d)) (k r) t s' → DoesAll m (map f (take (i + 1) calls)) (map k (take (i + 1) (set replies i r))) s s'
  does_more f k calls replies i d r s t s' less less' did does =
      let even : length (map f (take i calls)) ≡ length (map k (take i replies)) = simp length-map (length-take-le i calls (omega arith) ∙ sym (length-take-le i replies (omega arith))) in
      subst₂ (λ xs ys. DoesAll m xs ys s s')
      (sym (ap (map f) (take_more calls i d less) ∙ map_push f (take i calls) (get_or calls i d)))
      (sym (ap (map k) (take_more_set replies i r less') ∙ map_push k (take i replies) r))
      (does_push (map f (take i calls)) (map k (take i replies)) (f (get_or calls i d)) (k r) s t s' even did does)
