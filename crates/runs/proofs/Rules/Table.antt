-- The table rule computes the table of its arcs.
use Rattle.std.proofs.Common.{◌≡◌, ℕ, zero, suc, ◌<◌, Bool, true, false, cond, not, ◌&&◌, eqb, List, [], ◌∷◌, Some, sym, refl, ap, ◌∙◌, subst, inl, inr, ⊎_elim, arith}
use mathlib.Core.List.Memᴰ
use mathlib.Core.List.{Memᴰ as Among}
use Rattle.std.proofs.lemmas.Bool.{both_ways, cases_Bool, eqb-true, eq-eqb, ne_eqb, ltb-true, lt-ltb, le-ltb, cond-true, cond-false, cond_both, and_parts, and_from}
use Rattle.algebra.specs.declared.arc.Arc.{Arc as Recorded}
use Rattle.algebra.specs.Model.{Model, Laws}
use Rattle.algebra.specs.Coefficients.{Coef, join}
use Rattle.rows.specs.Sets.{has, with_member}
use Rattle.rows.specs.Rules.Rule.{at}
use Rattle.rows.specs.Rules.Table.{stays, current, weights, reached, table as table_rule}
use Rattle.rows.proofs.SetLaws.{has_none, has_power, with_has, with_old, with_new}
use Rattle.runs.specs.Plan.{Lead, state, out, table}
use Rattle.runs.specs.Runs.{End, paused, left}
use Rattle.runs.specs.Arcs.{lead_of, arc_of, plan_arcs, LeadsOn}
use Rattle.runs.specs.Computes.{Computes}
use Rattle.runs.proofs.Joined.{joins_over}
use Rattle.runs.proofs.Forms.{Reached, arc_cell}
use Rattle.runs.proofs.EachKind.{same_rows, table_rows}

-- every arc of the list leads to a state or out
abbrev LeadOn : List Recorded → Type 0
LeadOn arcs = (arc : Recorded) → Among arc arcs → LeadsOn arc

-- the arcs that stay lead to a state, and only they
lead_stays : (arc : Recorded) → stays arc ≡ true → lead_of arc.to ≡ state arc.to
lead_stays arc h =
    let near : arc.to < 64 = ltb-true arc.to 64 h in
    cond-false (eqb arc.to 255) out (state arc.to) (ne_eqb arc.to 255 (omega arith))

stays_lead : (arc : Recorded) (s : ℕ) → LeadsOn arc → lead_of arc.to ≡ state s → (stays arc ≡ true) × (arc.to ≡ s)
stays_lead arc s (inl near) h =
    let stay : stays arc ≡ true = lt-ltb arc.to 64 (omega arith) in
    (stay, (cc (lead_stays arc stay)))
stays_lead arc s (inr far) h =
    let leads : lead_of arc.to ≡ out = cond-true (eqb arc.to 255) out (state arc.to) (eq-eqb arc.to 255 far) in
    let z : ◌≡◌ {A = ℕ} 0 1 = cc in absurd (omega arith)

-- a test whether an arc stays agrees with where it leads
abbrev Agree : Bool → Lead → Type 0
Agree true (state s) = Unit {0}
Agree true out = ⊥
Agree false (state s) = ⊥
Agree false out = Unit {0}

agrees : (arc : Recorded) → LeadsOn arc → Agree (stays arc) (lead_of arc.to)
agrees arc (inl near) =
    let stay : stays arc ≡ true = lt-ltb arc.to 64 (omega arith) in
    subst (λ b. Agree b (lead_of arc.to)) (sym stay) (subst (Agree true) (sym (lead_stays arc stay)) tt)
agrees arc (inr far) =
    subst (λ b. Agree b (lead_of arc.to)) (sym (le-ltb arc.to 64 (omega arith)))
    (subst (Agree false) (sym (cond-true (eqb arc.to 255) out (state arc.to) (eq-eqb arc.to 255 far))) tt)

-- the row of an end has the arcs that stay, or those that lead out
abbrev stay_of : End → Bool
stay_of paused = true
stay_of left = false

-- is an arc in the row of an end, by whether its state is current and whether it stays?
abbrev counts : End → (here stay : Bool) → Bool
counts paused here stay = here && stay
counts left here stay = here && not stay

module _ (m : Model) (set : ℕ) where
  one_cell : (e : End) (here stay : Bool) (lead : Lead) → Agree stay lead → (w : m.Carrier) (c : Coef m)
      → join m (arc_cell m e here lead w) c ≡ cond (counts e here stay) (join m (Some w) c) c
  one_cell paused false stay lead agree w c = refl
  one_cell left false stay lead agree w c = refl
  one_cell paused true true (state s) agree w c = refl
  one_cell paused true true out agree w c = absurd agree
  one_cell paused true false (state s) agree w c = absurd agree
  one_cell paused true false out agree w c = refl
  one_cell left true true (state s) agree w c = refl
  one_cell left true true out agree w c = absurd agree
  one_cell left true false (state s) agree w c = absurd agree
  one_cell left true false out agree w c = refl

  counted : (e : End) (arc : Recorded) → counts e (has set arc.from) (stays arc) ≡ current set (stay_of e) arc
  counted paused arc = refl
  counted left arc = refl

  all_arcs : (e : End) (arcs : List Recorded) → LeadOn arcs
      → joins_over m (λ a. arc_cell m e (has set a.from) a.lead (m.weigh a.label)) (plan_arcs arcs) ≡ weights m set (stay_of e) arcs
  all_arcs e [] on = refl
  all_arcs e (arc ∷ arcs) on =
      ap (join m (arc_cell m e (has set arc.from) (lead_of arc.to) (m.weigh arc.label))) (all_arcs e arcs (λ x h. on x (Among.tail h)))
      ∙ one_cell e (has set arc.from) (stays arc) (lead_of arc.to) (agrees arc (on arc (Among.head refl))) (m.weigh arc.label) (weights m set (stay_of e) arcs)
      ∙ ap (λ b. cond b (join m (Some (m.weigh arc.label)) (weights m set (stay_of e) arcs)) (weights m set (stay_of e) arcs)) (counted e arc)

module _ (set : ℕ) where
  -- a state that is reached, by an arc from the set
  abbrev Led : (arcs : List Recorded) (s : ℕ) → Type 0
  Led arcs s = (arc : Recorded) × Among arc arcs × (has set arc.from ≡ true) × (lead_of arc.to ≡ state s)

  led : (arcs : List Recorded) (s : ℕ) → has (reached set arcs) s ≡ true → Led arcs s
  led [] s h = absurd (both_ways (has 0 s) (has_none s) h)
  led (arc ∷ arcs) s h = ⊎_elim
      (λ yes.
      let cur = and_parts (has set arc.from) (stays arc) yes in
      ⊎_elim
      (λ old. later (led arcs s old))
      (λ new. (arc, Among.head refl, cur.0, lead_stays arc cur.1 ∙ ap state new))
      (with_has (reached set arcs) arc.to s (ap (λ (x : ℕ). has x s) (sym (cond-true (current set true arc) _ _ yes)) ∙ h)))
      (λ no. later (led arcs s (ap (λ (x : ℕ). has x s) (sym (cond-false (current set true arc) _ _ no)) ∙ h)))
      (cases_Bool (current set true arc))
    where
      later : Led arcs s → Led (arc ∷ arcs) s
      later l = (l.0, Among.tail l.1, l.2, l.3)

  leads : (arcs : List Recorded) → LeadOn arcs → (s : ℕ) → Led arcs s → has (reached set arcs) s ≡ true
  leads [] on s l = absurd (Memᴰ.not-nil l.1)
  leads (arc ∷ arcs) on s l = ⊎_elim
      (λ here.
      let stay = stays_lead l.0 s (on l.0 l.1) l.3 in
      let cur : current set true arc ≡ true =
      ap (current set true) (sym here) ∙ and_from (has set l.0.from) (stays l.0) l.2 stay.0 in
      ap (λ (x : ℕ). has x s) (cond-true (current set true arc) _ _ cur)
      ∙ ap (λ (x : ℕ). has (with_member (reached set arcs) arc.to) x) (sym stay.1 ∙ ap (λ x. x.to) here)
      ∙ with_new (reached set arcs) arc.to)
      (λ there.
      let old : has (reached set arcs) s ≡ true = leads arcs (λ x h. on x (Among.tail h)) s (l.0, there, l.2, l.3) in
      cond_both (current set true arc) (with_member (reached set arcs) arc.to) (reached set arcs) (λ (x : ℕ). has x s ≡ true)
      (λ yes. with_old (reached set arcs) arc.to s old)
      (λ no. old))
      (Memᴰ.cases_cons l.1)

module _ (m : Model) (arcs : List Recorded) (on : LeadOn arcs) where
  -- the states current at tick n
  abbrev R : ℕ → ℕ → Bool
  R n s = has (at (table_rule m arcs) n).set s

  there : (n s : ℕ) → R n s ≡ true → Reached (plan_arcs arcs) n s
  there zero s h = sym (eqb-true 0 s (sym (has_power 0 s) ∙ h))
  there (suc n) s h =
      let l = led (at (table_rule m arcs) n).set arcs s h in
      (arc_of l.0, Memᴰ.map arc_of l.1, there n l.0.from l.2, l.3)

  back : (n s : ℕ) → Reached (plan_arcs arcs) n s → R n s ≡ true
  back zero s h = has_power 0 s ∙ eq-eqb 0 s (sym h)
  back (suc n) s h =
      let a = Memᴰ.of_map arc_of arcs h.1 in
      leads (at (table_rule m arcs) n).set arcs on s (
        a.0,
        a.1,
        ap (λ x. R n x.from) a.2 ∙ back n h.0.from h.2,
        ap (λ x. x.lead) a.2 ∙ h.3,
      )

  pub table_computes : Laws m → Computes m (table_rule m arcs) (table (plan_arcs arcs))
  table_computes laws = same_rows m laws m.weigh (table_rows m laws m.weigh (plan_arcs arcs) R (λ n s. (there n s, back n s)))
      (λ n. all_arcs m (at (table_rule m arcs) n).set paused arcs on)
      (λ n. all_arcs m (at (table_rule m arcs) n).set left arcs on)
