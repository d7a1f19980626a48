-- Arcs gathered: in parts, along the chain of a state, and over the states of a set.
use Rattle.std.proofs.Common.{◌≡◌, ℕ, zero, suc, ◌^◌, ◌<◌, ◌≤◌, min, Bool, true, false, cond, not, ◌&&◌, eqb, List, [], ◌∷◌, ◌++◌, length, map, get_or, take, drop, filter, fold, Option, Some, None, sym, refl, ap, ◌∙◌, subst, ⊎_elim, le_refl, arith}
use Rattle.std.proofs.Math.Seq.{take-suc, take-length}
use lib.Bits.{bit_or, or_comm, or_zero_r}
use Rattle.std.proofs.Math.Nat.{min_comm}
use Rattle.std.proofs.lemmas.List.{get_or-map, take_min}
use Rattle.std.proofs.lemmas.Bool.{cases_eq, cases_order, cond_both, eq-eqb, ne_eqb}
use Rattle.algebra.specs.declared.arc.Arc.{Arc}
use Rattle.algebra.specs.Model.{Model, Laws}
use Rattle.algebra.specs.Coefficients.{Coef, join}
use Rattle.algebra.specs.Bits.{or_assoc}
use Rattle.algebra.proofs.Coefficients.{coef_laws}
use Rattle.rows.specs.Chains.{newest}
use Rattle.rows.specs.declared.table.Gathered.{Gathered as Held}
use Rattle.rows.specs.Gathered.{Gathered, nothing, one, together, gathered, held}
use Rattle.rows.specs.Sets.{has, with_member}
use Rattle.rows.specs.Rules.Table.{stays, weights, reached}
use Rattle.rows.proofs.Chaining.{past, leads_as}
use Rattle.rows.proofs.SetLaws.{has_past}

-- as many arcs as there are, up to a bound
pub first_arcs : (bound : ℕ) (arcs : List Arc) {n : ℕ} → n ≡ min (length arcs) bound → take n arcs ≡ take bound arcs
first_arcs bound arcs is = ap (λ (n : ℕ). take n arcs) (is ∙ min_comm (length arcs) bound) ∙ take_min bound arcs

pub same_gathered : {m : Model} {a b c d : Coef m} {s t : ℕ} → a ≡ b → c ≡ d → s ≡ t → ◌≡◌ {A = Gathered m} (record { stay = a; out = c; states = s }) (record { stay = b; out = d; states = t })
same_gathered p q r = λ i. record { stay = p i; out = q i; states = r i }

module _ (m : Model) (laws : Laws m) where
  assoc : (a b c : Gathered m) → together m (together m a b) c ≡ together m a (together m b c)
  assoc a b c = same_gathered
      ((coef_laws m laws).join_assoc a.stay b.stay c.stay)
      ((coef_laws m laws).join_assoc a.out b.out c.out)
      (or_assoc a.states b.states c.states)

  comm : (a b : Gathered m) → together m a b ≡ together m b a
  comm a b = same_gathered
      ((coef_laws m laws).join_comm a.stay b.stay)
      ((coef_laws m laws).join_comm a.out b.out)
      (or_comm a.states b.states)

  pub and_nothing : (a : Gathered m) → together m a (nothing m) ≡ a
  and_nothing a = same_gathered ((coef_laws m laws).join_absent a.stay) ((coef_laws m laws).join_absent a.out) (or_zero_r a.states)

  pub nothing_and : (a : Gathered m) → together m (nothing m) a ≡ a
  nothing_and a = comm (nothing m) a ∙ and_nothing a

  crossed : (a b c d : Gathered m) → together m (together m a b) (together m c d) ≡ together m (together m a c) (together m b d)
  crossed a b c d =
      assoc a b (together m c d)
      ∙ ap (together m a) (sym (assoc b c d) ∙ ap (λ x. together m x d) (comm b c) ∙ assoc c b d)
      ∙ sym (assoc a c (together m b d))

  -- what an arc adds where it passes the test
  abbrev adds : Bool → Arc → Gathered m
  adds passes arc = cond passes (one m arc) (nothing m)

  gathered_first : (test : Arc → Bool) (arc : Arc) (arcs : List Arc) → gathered m test (arc ∷ arcs) ≡ together m (adds (test arc) arc) (gathered m test arcs)
  gathered_first test arc arcs = first (test arc)
    where
      first : (passes : Bool) → cond passes (together m (one m arc) (gathered m test arcs)) (gathered m test arcs) ≡ together m (adds passes arc) (gathered m test arcs)
      first true = refl
      first false = sym (nothing_and (gathered m test arcs))

  -- in parts
  pub gathered-append : (test : Arc → Bool) (xs ys : List Arc) → gathered m test (xs ++ ys) ≡ together m (gathered m test xs) (gathered m test ys)
  gathered-append test [] ys = sym (nothing_and (gathered m test ys))
  gathered-append test (arc ∷ xs) ys =
      gathered_first test arc (xs ++ ys)
      ∙ ap (together m (adds (test arc) arc)) (gathered-append test xs ys)
      ∙ sym (assoc (adds (test arc) arc) (gathered m test xs) (gathered m test ys))
      ∙ ap (λ x. together m x (gathered m test ys)) (sym (gathered_first test arc xs))

  -- one arc more
  gathered_more : (test : Arc → Bool) (xs : List Arc) (n : ℕ) (d : Arc) → n < length xs → gathered m test (take (suc n) xs) ≡ together m (gathered m test (take n xs)) (adds (test (get_or xs n d)) (get_or xs n d))
  gathered_more test xs n d less =
      ap (gathered m test) (take-suc xs n d less)
      ∙ gathered-append test (take n xs) (get_or xs n d ∷ [])
      ∙ ap (together m (gathered m test (take n xs)))
      (gathered_first test (get_or xs n d) [] ∙ and_nothing (adds (test (get_or xs n d)) (get_or xs n d)))

  -- an arc more at a time
  pub fold_gathered : (test : Arc → Bool) (start : Gathered m) (arcs : List Arc) → fold (λ g arc. together m g (one m arc)) start (filter test arcs) ≡ together m start (gathered m test arcs)
  fold_gathered test start [] = sym (and_nothing start)
  fold_gathered test start (arc ∷ arcs) = step (test arc) (fold_gathered test (together m start (one m arc)) arcs) (fold_gathered test start arcs)
    where
      step : (b : Bool) → fold (λ g a. together m g (one m a)) (together m start (one m arc)) (filter test arcs) ≡ together m (together m start (one m arc)) (gathered m test arcs)
          → fold (λ g a. together m g (one m a)) start (filter test arcs) ≡ together m start (gathered m test arcs)
          → fold (λ g a. together m g (one m a)) start (cond b (arc ∷ filter test arcs) (filter test arcs)) ≡ together m start (cond b (together m (one m arc) (gathered m test arcs)) (gathered m test arcs))
      step true with_it without = with_it ∙ assoc start (one m arc) (gathered m test arcs)
      step false with_it without = without

  module _ (xs : List Arc) (q : ℕ) where
    abbrev from_it : Arc → Bool
    from_it a = eqb a.from q

    -- between a number of the chain and the one after it no arc begins at the state
    skipped : (n : ℕ) → n ≤ length xs → gathered m from_it (take (past (newest (map (λ a. a.from) xs) n q)) xs) ≡ gathered m from_it (take n xs)
    skipped zero low = refl
    skipped (suc n) low =
        let arc = get_or xs n (record { from = 0; to = 0; label = record { cycles = 0; ports = 0 } }) in
        let key : get_or (map (λ a. a.from) xs) n 0 ≡ arc.from = get_or-map (λ a. a.from) xs n _ 0 (omega arith) in
        cond_both (eqb (get_or (map (λ a. a.from) xs) n 0) q) (Some n) (newest (map (λ a. a.from) xs) n q)
        (λ p. gathered m from_it (take (past p) xs) ≡ gathered m from_it (take (suc n) xs))
        (λ same. refl)
        (λ other. skipped n (omega arith)
        ∙ sym (gathered_more from_it xs n _ (omega arith)
        ∙ ap (λ b. together m (gathered m from_it (take n xs)) (adds b arc)) (ap (λ (k : ℕ). eqb k q) (sym key) ∙ other)
        ∙ and_nothing (gathered m from_it (take n xs))))

-- on the way along the chain of a state: what is gathered, with what lies before, comes to the same as at first with all
pub record Along (m : Model) {V : Type 0} (means : V → m.Carrier) (xs : List Arc) (q : ℕ) (start : Held V) (p : Option ℕ) (all : Held V) : Type 0 where
  pub within : past p ≤ length xs
  pub inside : (k : ℕ) → p ≡ Some k → get_or (map (λ a. a.from) xs) k 0 ≡ q
  pub same : together m (held m means all) (gathered m (λ a. eqb a.from q) (take (past p) xs)) ≡ together m (held m means start) (gathered m (λ a. eqb a.from q) xs)

pub along_low : {m : Model} {V : Type 0} {means : V → m.Carrier} {xs : List Arc} {q : ℕ} {start : Held V} {p : Option ℕ} {all : Held V} → Along m means xs q start p all → (k : ℕ) → p ≡ Some k → k < length xs
along_low along k e = let is = ap past e in omega (arith, along.within)

module _ (m : Model) (laws : Laws m) {V : Type 0} (means : V → m.Carrier) (xs : List Arc) (q : ℕ) (start : Held V) where
  pub along_first : (p : Option ℕ) → p ≡ newest (map (λ a. a.from) xs) (length xs) q → Along m means xs q start p start
  along_first p is =
      let first = leads_as (map (λ a. a.from) xs) (length xs) q is in
      record {
        within = first.within;
        inside = first.inside;
        same = ap (together m (held m means start))
            (ap (λ r. gathered m (λ a. eqb a.from q) (take (past r) xs)) is
            ∙ skipped m laws xs q (length xs) (le_refl (length xs))
            ∙ ap (gathered m (λ a. eqb a.from q)) (take-length xs));
      }

  pub along_next : (k : ℕ) (p : Option ℕ) (all more : Held V) (arc d : Arc) → Along m means xs q start (Some k) all → arc ≡ get_or xs k d → held m means more ≡ together m (held m means all) (one m arc) → p ≡ newest (map (λ a. a.from) xs) k (get_or (map (λ a. a.from) xs) k 0) → Along m means xs q start p more
  along_next k p all more arc d before read is next =
      let test = λ (a : Arc). eqb a.from q in
      let low : k < length xs = before.within in
      let key = before.inside k refl in
      let next' = next ∙ ap (newest (map (λ a. a.from) xs) k) key in
      let below = leads_as (map (λ a. a.from) xs) k q next' in
      let passes : test arc ≡ true = eq-eqb _ _ (ap (λ a. a.from) read ∙ sym (get_or-map (λ a. a.from) xs k d 0 low) ∙ key) in
      record {
        within = omega (arith, below.within);
        inside = below.inside;
        same =
            ap (λ x. together m x (gathered m test (take (past p) xs))) is
            ∙ ap (together m (together m (held m means all) (one m arc)))
            (ap (λ r. gathered m test (take (past r) xs)) next' ∙ skipped m laws xs q k (omega arith))
            ∙ assoc m laws (held m means all) (one m arc) (gathered m test (take k xs))
            ∙ ap (together m (held m means all))
            (comm m laws (one m arc) (gathered m test (take k xs))
            ∙ sym (gathered_more m laws test xs k d low
            ∙ ap (together m (gathered m test (take k xs)))
            (ap (λ a. adds m laws (test a) a) (sym read) ∙ ap (λ b. adds m laws b arc) passes)))
            ∙ before.same;
      }

  pub along_end : (p : Option ℕ) (all : Held V) → p ≡ None → Along m means xs q start p all → held m means all ≡ together m (held m means start) (gathered m (λ a. eqb a.from q) xs)
  along_end p all none along =
      sym (and_nothing m laws (held m means all))
      ∙ ap (λ r. together m (held m means all) (gathered m (λ a. eqb a.from q) (take (past r) xs))) (sym none)
      ∙ along.same

-- what is gathered for each number below n in the set
abbrev pub over_states : (m : Model) (set : ℕ) → (ℕ → Gathered m) → ℕ → Gathered m
over_states m set f zero = nothing m
over_states m set f (suc n) = cond (has set n) (together m (over_states m set f n) (f n)) (over_states m set f n)

module _ (m : Model) (laws : Laws m) (set : ℕ) where
  over_none : (n : ℕ) → over_states m set (λ q. nothing m) n ≡ nothing m
  over_none zero = refl
  over_none (suc n) = cond_both (has set n) _ _ (λ x. x ≡ nothing m) (λ h. and_nothing m laws _ ∙ over_none n) (λ h. over_none n)

  over_same : (f g : ℕ → Gathered m) → ((q : ℕ) → f q ≡ g q) → (n : ℕ) → over_states m set f n ≡ over_states m set g n
  over_same f g same n = ap (λ (h : ℕ → Gathered m). over_states m set h n) (λ i q. same q i)

  over_both : (f g : ℕ → Gathered m) (n : ℕ) → over_states m set (λ q. together m (f q) (g q)) n ≡ together m (over_states m set f n) (over_states m set g n)
  over_both f g zero = sym (and_nothing m laws (nothing m))
  over_both f g (suc n) = step (has set n) (over_both f g n)
    where
      step : (b : Bool) → over_states m set (λ q. together m (f q) (g q)) n ≡ together m (over_states m set f n) (over_states m set g n)
          → cond b (together m (over_states m set (λ q. together m (f q) (g q)) n) (together m (f n) (g n))) (over_states m set (λ q. together m (f q) (g q)) n)
          ≡ together m (cond b (together m (over_states m set f n) (f n)) (over_states m set f n)) (cond b (together m (over_states m set g n) (g n)) (over_states m set g n))
      step true e = ap (λ x. together m x (together m (f n) (g n))) e ∙ crossed m laws _ _ (f n) (g n)
      step false e = e

  -- one number alone: past the end, and below it
  over_past : (arc : Arc) (n : ℕ) → n ≤ arc.from → over_states m set (λ q. adds m laws (eqb arc.from q) arc) n ≡ nothing m
  over_past arc zero far = refl
  over_past arc (suc n) far =
      let other : eqb arc.from n ≡ false = ne_eqb _ _ (omega arith) in
      let before = over_past arc n (omega arith) in
      cond_both (has set n) _ _ (λ x. x ≡ nothing m)
      (λ h. ap (λ b. together m (over_states m set (λ q. adds m laws (eqb arc.from q) arc) n) (adds m laws b arc)) other ∙ and_nothing m laws _ ∙ before)
      (λ h. before)

  over_one : (arc : Arc) (n : ℕ) → arc.from < n → over_states m set (λ q. adds m laws (eqb arc.from q) arc) n ≡ adds m laws (has set arc.from) arc
  over_one arc zero less = absurd (omega arith)
  over_one arc (suc n) less = ⊎_elim
      (λ here.
      ap (λ x. cond (has set n) (together m x (adds m laws (eqb arc.from n) arc)) x) (over_past arc n (omega arith))
      ∙ ap (λ b. cond (has set n) (together m (nothing m) (adds m laws b arc)) (nothing m)) (eq-eqb _ _ here)
      ∙ ap (λ x. cond (has set n) x (nothing m)) (nothing_and m laws (one m arc))
      ∙ ap (λ (k : ℕ). adds m laws (has set k) arc) (sym here))
      (λ there.
      let before = over_one arc n (omega arith) in
      cond_both (has set n) _ _ (λ x. x ≡ adds m laws (has set arc.from) arc)
      (λ h. ap (λ b. together m (over_states m set (λ q. adds m laws (eqb arc.from q) arc) n) (adds m laws b arc)) (ne_eqb _ _ there) ∙ and_nothing m laws _ ∙ before)
      (λ h. before))
      (cases_eq arc.from n)

  -- the arcs of each state of a set below n, state by state, are the arcs of the set
  pub state_by_state : (n : ℕ) → set < 2 ^ n → (arcs : List Arc) → over_states m set (λ q. gathered m (λ a. eqb a.from q) arcs) n ≡ gathered m (λ a. has set a.from) arcs
  state_by_state n small [] = over_none n
  state_by_state n small (arc ∷ arcs) =
      over_same _ _ (λ q. gathered_first m laws (λ a. eqb a.from q) arc arcs) n
      ∙ over_both (λ q. adds m laws (eqb arc.from q) arc) (λ q. gathered m (λ a. eqb a.from q) arcs) n
      ∙ ap (together m (over_states m set (λ q. adds m laws (eqb arc.from q) arc) n)) (state_by_state n small arcs)
      ∙ ap (λ x. together m x (gathered m (λ a. has set a.from) arcs))
      (⊎_elim
      (λ e. beyond (omega arith))
      (⊎_elim (λ low. over_one arc n low) (λ far. beyond (omega arith)))
      (cases_order arc.from n))
      ∙ sym (gathered_first m laws (λ a. has set a.from) arc arcs)
    where
      beyond : n ≤ arc.from → over_states m set (λ q. adds m laws (eqb arc.from q) arc) n ≡ adds m laws (has set arc.from) arc
      beyond far = over_past arc n far ∙ ap (λ b. adds m laws b arc) (sym (has_past set n arc.from small far))

module _ (m : Model) (set : ℕ) where
  -- the arcs of the set are what the rule joins and reaches
  pub stay_of : (arcs : List Arc) → (gathered m (λ a. has set a.from) arcs).stay ≡ weights m set true arcs
  stay_of [] = refl
  stay_of (arc ∷ arcs) = step (has set arc.from) (stays arc) (gathered m (λ a. has set a.from) arcs) (stay_of arcs)
    where
      step : (b s : Bool) (g : Gathered m) → g.stay ≡ weights m set true arcs
          → (cond b (together m (cond s (record { stay = Some (m.weigh arc.label); out = None; states = 2 ^ arc.to }) (record { stay = None; out = Some (m.weigh arc.label); states = 0 })) g) g).stay
          ≡ cond (b && s) (join m (Some (m.weigh arc.label)) (weights m set true arcs)) (weights m set true arcs)
      step true true g e = ap (join m (Some (m.weigh arc.label))) e
      step true false g e = e
      step false s g e = e

  pub out_of : (arcs : List Arc) → (gathered m (λ a. has set a.from) arcs).out ≡ weights m set false arcs
  out_of [] = refl
  out_of (arc ∷ arcs) = step (has set arc.from) (stays arc) (gathered m (λ a. has set a.from) arcs) (out_of arcs)
    where
      step : (b s : Bool) (g : Gathered m) → g.out ≡ weights m set false arcs
          → (cond b (together m (cond s (record { stay = Some (m.weigh arc.label); out = None; states = 2 ^ arc.to }) (record { stay = None; out = Some (m.weigh arc.label); states = 0 })) g) g).out
          ≡ cond (b && not s) (join m (Some (m.weigh arc.label)) (weights m set false arcs)) (weights m set false arcs)
      step true true g e = e
      step true false g e = ap (join m (Some (m.weigh arc.label))) e
      step false s g e = e

  pub states_of : (arcs : List Arc) → (gathered m (λ a. has set a.from) arcs).states ≡ reached set arcs
  states_of [] = refl
  states_of (arc ∷ arcs) = step (has set arc.from) (stays arc) (gathered m (λ a. has set a.from) arcs) (states_of arcs)
    where
      step : (b s : Bool) (g : Gathered m) → g.states ≡ reached set arcs
          → (cond b (together m (cond s (record { stay = Some (m.weigh arc.label); out = None; states = 2 ^ arc.to }) (record { stay = None; out = Some (m.weigh arc.label); states = 0 })) g) g).states
          ≡ cond (b && s) (with_member (reached set arcs) arc.to) (reached set arcs)
      step true true g e = or_comm (2 ^ arc.to) g.states ∙ ap (λ (x : ℕ). bit_or x (2 ^ arc.to)) e
      step true false g e = or_comm 0 g.states ∙ or_zero_r g.states ∙ e
      step false s g e = e
