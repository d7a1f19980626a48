-- Looking for the one filled shelf: which shelves are passed over, and what the first two that are filled say.
use Rattle.std.proofs.Common.{◌≡◌, ℕ, ◌≤◌, Bool, true, false, List, [], ◌∷◌, is_some, Some, None, Ok, Err, Option, Result, MatchOption, sym, refl, ap, subst, ◌∙◌, inl, inr, ⊎_elim, arith}
use denote.Param.Members.{Mut}
use Rattle.std.specs.declared.ops.Range.{Range}
use Rattle.std.specs.Fn.{Called}
use Rattle.std.specs.Result.{result_ok}
use Rattle.std.proofs.lemmas.Bool.{false≢true, cases_eq, cases_lt}
use Rattle.algebra.specs.Model.{Model}
use Rattle.shelves.specs.declared.refusal.Refusal.{Refusal}
use Rattle.shelves.specs.declared.report.Report.{Report as Held}
use Rattle.shelves.specs.Calls.{report, reported}
use Rattle.shelves.specs.Promise.{Answers}
use Rattle.shelves.specs.Questions.{Yes, AllYes, FirstNo}
use Rattle.shelves.specs.Refusals.{order}
use Rattle.shelves.specs.State.{State, shelf_at}
use Rattle.shelves.specs.Told.{report_of, shown}
use Rattle.analyser.specs.Files.{Only, Sole}
use Rattle.analyser.proofs.Passing.{Steps, Next, next}

-- where every question says yes there is no first no
none_first : (yes_to : Refusal → Type 0) (qs : List Refusal) (r : Refusal) → AllYes yes_to qs → FirstNo yes_to qs r → ⊥
none_first yes_to [] r all found = found
none_first yes_to (q ∷ qs) r all (inl here) = here.1 all.0
none_first yes_to (q ∷ qs) r all (inr later) = none_first yes_to qs r all.1 later.1

module _ (m : Model) (s : State m) where
  abbrev pub filled : ℕ → Bool
  filled k = is_some (shelf_at s k).step

  -- a report of a filled shelf has no question that says no
  all_yes : (k : ℕ) → k ≤ 15 → filled k ≡ true → AllYes (Yes m s (report k)) order
  all_yes k low is = ((low, tt), ((tt, tt), (tt, ((is, tt), (tt, (tt, (tt, ((λ e. absurd (false≢true e)), (tt, (tt, (tt, (tt, tt))))))))))))

  -- so a refused one found the shelf empty
  refused_empty : (k : ℕ) → k ≤ 15 → (q : Refusal) → FirstNo (Yes m s (report k)) order q → filled k ≡ false
  refused_empty k low q found = go (filled k) refl
    where
      go : (b : Bool) → filled k ≡ b → filled k ≡ false
      go true is = absurd (none_first (Yes m s (report k)) order q (all_yes k low is) found)
      go false is = is

  -- shelf k is passed over
  abbrev pub Empty : ℕ → Type 0
  Empty k = k ≤ 15 → filled k ≡ false

  module _ {V : Type 0} (means : V → m.Carrier) where
    -- shelf k has this report
    abbrev pub Has : ℕ → Held V → Type 0
    Has k r = Answers m (report k) (reported (report_of m means r)) s s

    -- a look at shelf k finds it empty, or gives its report
    pub looked : (k : ℕ) (found : Result (Held V) Refusal) (r : Option (Held V)) → Answers m (report k) (shown m means found) s s → r ≡ result_ok found → MatchOption r (Empty k) (Has k)
    looked k found r answers is = subst (λ o. MatchOption o (Empty k) (Has k)) (sym is) (go found answers)
      where
        go : (a : Result (Held V) Refusal) → Answers m (report k) (shown m means a) s s → MatchOption (result_ok a) (Empty k) (Has k)
        go (Ok r) has = has
        go (Err q) refused = λ low. refused_empty k low q refused.does.0

    filled_of : (k : ℕ) (r : Held V) → Has k r → filled k ≡ true
    filled_of k r has = has.does.0.1.1.1.0.0

    -- the closure looks at a shelf, and two calls of `next` begin at shelf 0
    module _ {F : Type 0} (g : Mut F (ℕ × Unit {0}) (Option (Held V))) (f : F) (gives : (k : ℕ) (r : Option (Held V)) (q : F) → Called g f (k, tt) r q → (q ≡ f) × MatchOption r (Empty k) (Has k))
        (u w : Range ℕ) (h : F) (a : Option (Held V)) (all : u ≡ record { start = 0; end = 16 }) (first : Steps g f u a w h) where
      starts : u.start ≡ 0
      starts = ap (λ r. r.start) all

      ends : u.end ≡ 16
      ends = ap (λ r. r.end) all

      -- none is found
      pub none_found : a ≡ None → (k : ℕ) → Only m s k → ⊥
      none_found is k only =
          let empty = subst (λ r. Next g f Empty Has gives u r w h) is (next g f Empty Has gives u w h a first) in
          false≢true (sym (empty k (omega (arith, starts)) (omega (arith, ends, only.low)) only.low) ∙ only.filled)

      module _ (r : Held V) (is : a ≡ Some r) (w' : Range ℕ) (h' : F) (b : Option (Held V)) (second : Steps g h w b w' h') where
        found : Next g f Empty Has gives u (Some r) w h
        found = subst (λ r. Next g f Empty Has gives u r w h) is (next g f Empty Has gives u w h a first)

        then : Next g f Empty Has gives w b w' h'
        then = next g f Empty Has gives w w' h' b (subst (λ p. Steps g p w b w' h') found.7 second)

        -- one is found, and no other
        pub one_found : b ≡ None → Sole m s (report_of m means r)
        one_found end =
            let rest = subst (λ r. Next g f Empty Has gives w r w' h') end then in
            record {
              shelf = found.0;
              only = record {
                low = omega (arith, ends, found.1);
                filled = filled_of found.0 r found.2;
                others = λ j low apart. ⊎_elim (λ less. found.3 j (omega (arith, starts)) less low) (λ more. rest j (omega (arith, found.5, apart)) (omega (arith, ends, found.6)) low) (cases_lt j found.0);
              };
              answers = found.2;
            }

        -- two are found
        pub two_found : (q : Held V) → b ≡ Some q → (k : ℕ) → Only m s k → ⊥
        two_found q more k only =
            let other = subst (λ r. Next g f Empty Has gives w r w' h') more then in
            ⊎_elim
            (λ same. false≢true (sym (only.others other.0 (omega (arith, ends, other.1, found.6)) (λ e. omega (arith, same, e, other.4, found.5))) ∙ filled_of other.0 q other.2))
            (λ apart. false≢true (sym (only.others found.0 (omega (arith, ends, found.1)) apart) ∙ filled_of found.0 r found.2))
            (cases_eq found.0 k)
