-- A report of a sound shelf covers the plan of its page.
use Rattle.std.proofs.Common.{◌≡◌, ℕ, ◌+◌, Bool, true, false, is_some, Some, None, Option, sym, refl, ap, ◌∙◌, subst, arith}
use Rattle.algebra.specs.declared.label.Label.{Label}
use Rattle.algebra.specs.Model.{Model, Laws, Chosen}
use Rattle.algebra.specs.Coefficients.{Coef, join}
use Rattle.rows.specs.Phases.{phase}
use Rattle.rows.specs.Pieces.{Rows, pause_at, exit_at, given_at}
use Rattle.rows.specs.Repeats.{LeastShape}
use Rattle.rows.proofs.PhaseLaws.{phase_within}
use Rattle.rows.proofs.Periods.{at_phase}
use Rattle.runs.specs.Figure.{Repeats, figure, Covers, FirstAt}
use Rattle.runs.specs.Plan.{Plan}
use Rattle.runs.proofs.Figure.{covers, first_at}
use Rattle.runs.proofs.Joined.{joins_above}
use Rattle.runs.proofs.Rules.Lasting.{there as present_is}
use Rattle.shelves.specs.Calls.{Report}
use Rattle.shelves.specs.Effects.{FirstTick, Reports}
use Rattle.shelves.specs.Promise.{Figured}
use Rattle.shelves.specs.State.{State, shelf_at, shelf_rows}
use Rattle.shelves.proofs.Alive.{Present, join_first}
use Rattle.shelves.proofs.Invariant.{Sound}

module _ (m : Model) (laws : Laws m) (s : State m) (k : ℕ) (plan : Plan Label) (sound : Sound m s.cells s.steps s.arcs k (shelf_at s k) plan) where
  abbrev given : Rows m
  given = shelf_rows s k

  -- how many phases the shelf has
  abbrev many : ℕ
  many = (shelf_at s k).transient + (shelf_at s k).period

  abbrev whole : Coef m
  whole = figure m (pause_at given) (exit_at given) many

  repeats : Repeats m (pause_at given) (exit_at given) many
  repeats n =
      let least = sound.shelved.least in
      let same = at_phase (given_at given) given.transient given.period least.positive least.repeats n in
      (phase given.transient given.period n, phase_within given.transient given.period least.positive n, ap (λ x. x.0) same, ap (λ x. x.1) same)

  figure_present : Present m whole
  figure_present =
      let pos = sound.shelved.least.positive in
      let first = join m (pause_at given 0) (exit_at given 0) in
      sym (ap is_some (joins_above m laws (λ n. join m (pause_at given n) (exit_at given n)) 0 many (omega arith))) ∙ join_first m first whole sound.alive

  first_tick : Chosen m → m.chooses ≡ true → (w : m.Carrier) → whole ≡ Some w → (r : Report m) → r.figure ≡ whole → FirstTick m true r.figure given r.tick
      → (t : ℕ) × (r.tick ≡ Some t) × FirstAt m m.weigh plan t w
  first_tick chosen chooses w is r figured ticked = go r.tick refl ticked
    where
      shown : r.figure ≡ Some w
      shown = figured ∙ is

      go : (tick : Option ℕ) → r.tick ≡ tick → FirstTick m true r.figure given tick → (t : ℕ) × (r.tick ≡ Some t) × FirstAt m m.weigh plan t w
      go None e h = absurd h
      go (Some t) e h =
          (t, e, first_at m laws m.weigh sound.gives many repeats (chosen chooses) w is t (h.0 ∙ shown) (λ n less same. h.1 n less (same ∙ sym shown)))

  pub report_figured : Chosen m → (r : Report m) → Reports m given r → Figured m plan r
  report_figured chosen r reports =
      let there = present_is whole figure_present in
      let ticked : (b : Bool) → m.chooses ≡ b → FirstTick m b r.figure given r.tick = λ b is. subst (λ c. FirstTick m c r.figure given r.tick) is reports.tick in
      record {
        figure = there.0;
        is = reports.figure ∙ there.1;
        covers = subst (Covers m m.weigh plan) there.1 (covers m laws m.weigh sound.gives many repeats);
        first = λ chooses. first_tick chosen chooses there.0 there.1 r reports.figure (ticked true chooses);
        unnamed = λ not. ticked false not;
        shape = record {
          pauses = pause_at given;
          exits = exit_at given;
          weights = sound.gives;
          least = subst (λ (t : ℕ). LeastShape (given_at given) t r.period) (sym reports.transient) (subst (LeastShape (given_at given) given.transient) (sym reports.period) sound.shelved.least);
        };
      }
