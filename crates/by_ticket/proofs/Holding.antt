-- What the rack holds after the calls, and what a report says of it.
use Rattle.std.proofs.Common.{◌≡◌, ℕ, List, ◌∷◌, IfOk, Ok, Err, Result, sym, refl, ap, ◌∙◌, subst, subst₂}
use Rattle.algebra.specs.declared.arc.Arc.{Arc}
use Rattle.algebra.specs.declared.label.Label.{Label}
use Rattle.algebra.specs.Model.{Model}
use Rattle.runs.specs.Plan.{Plan}
use Rattle.tickets.specs.declared.ticket.Ticket.{Ticket}
use Rattle.shelves.specs.declared.call.Pairing.TheVariants.{Fork}
use Rattle.shelves.specs.declared.refusal.Refusal.{Refusal}
use Rattle.shelves.specs.declared.report.Report.{Report}
use Rattle.shelves.specs.Calls.{table, pair, report, accepted, Event}
use Rattle.shelves.specs.History.{Made}
use Rattle.shelves.specs.Promise.{Answers, Figured}
use Rattle.shelves.specs.State.{State}
use Rattle.shelves.specs.Told.{report_of, shown}
use Rattle.by_ticket.specs.Threads.{side_by_side, HoldsPlan}

module _ (m : Model) where
  module _ (s t u v : State m) (xs ys : List Arc) (i j : ℕ) (one : Answers m (table 0 xs) (accepted i) s t) (two : Answers m (table 1 ys) (accepted j) t u) where
    forked : (n : ℕ) → Answers m (pair Fork 0 1) (accepted n) u v → (h : List (Event m)) → Made m h s → HoldsPlan m v 0 (side_by_side xs ys)
    forked n both h made = (
      record { call = pair Fork 0 1; reply = accepted n } ∷ record { call = table 1 ys; reply = accepted j } ∷ record { call = table 0 xs; reply = accepted i } ∷ h,
      both.made _ (two.made _ (one.made h made)),
      refl,
    )

    -- two tables were accepted, and then perhaps their fork
    pub perhaps_forked : (a b : Ticket) → a.shelf ≡ 0 → b.shelf ≡ 1 → (r : Result Ticket Refusal)
        → IfOk r (λ ticket. ticket ≡ a)
        → IfOk r (λ _. (n : ℕ) × Answers m (pair Fork a.shelf b.shelf) (accepted n) u v)
        → IfOk r (λ ticket. (h : List (Event m)) → Made m h s → HoldsPlan m v ticket.shelf (side_by_side xs ys))
    perhaps_forked a b first second (Ok ticket) is both = λ h made.
        let there : Answers m (pair Fork 0 1) (accepted both.0) u v = subst₂ (λ (x y : ℕ). Answers m (pair Fork x y) (accepted both.0) u v) first second both.1 in
        subst (λ (k : ℕ). HoldsPlan m v k (side_by_side xs ys)) (sym (ap (λ (x : Ticket). x.shelf) is ∙ first)) (forked both.0 there h made)
    perhaps_forked a b first second (Err why) is both = tt

  -- a report of a shelf that holds a plan is of that plan
  pub told : {V : Type 0} (means : V → m.Carrier) (s : State m) (k : ℕ) (p : Plan Label) → HoldsPlan m s k p → (r : Result (Report V) Refusal) → Answers m (report k) (shown m means r) s s
      → IfOk r (λ given. Figured m p (report_of m means given))
  told means s k p holds (Ok given) answers =
      let found = (answers.kept holds.0 holds.1).told.0 in
      let same : found.0 ≡ p = (cc (found.1, holds.2)) in
      subst (λ (q : Plan Label). Figured m q (report_of m means given)) same found.2
  told means s k p holds (Err why) answers = tt
