-- The report of the one filled shelf is of the one plan that the entries spell.
use Rattle.std.proofs.Common.{◌≡◌, ℕ, false, List, [], is_some, Some, None, Ok, Option, Result, sym, refl, ap, ◌∙◌, subst}
use Rattle.std.proofs.lemmas.Bool.{false≢true}
use Rattle.algebra.specs.declared.label.Label.{Label}
use Rattle.algebra.specs.Model.{Model}
use Rattle.program.specs.declared.refusal.Refusal.{Refusal as FileRefusal}
use Rattle.program.specs.Entries.{Entry}
use Rattle.runs.specs.Plan.{Plan}
use Rattle.shelves.specs.Book.{book}
use Rattle.shelves.specs.Calls.{Report}
use Rattle.shelves.specs.History.{Fresh, new}
use Rattle.shelves.specs.Promise.{AsBooked}
use Rattle.shelves.specs.State.{State, shelf_at}
use Rattle.analyser.specs.declared.fault.Fault.{Fault}
use Rattle.analyser.specs.Files.{Takes, Sole, Works, Tells}
use Rattle.analyser.proofs.Taking.{taken}

module _ (m : Model) where
  -- an empty shelf's page is empty
  page_empty : (s : State m) (k : ℕ) (page : Option (Plan Label)) → AsBooked m s k page → is_some (shelf_at s k).step ≡ false → page ≡ None
  page_empty s k None booked empty = refl
  page_empty s k (Some plan) booked empty = absurd (false≢true (sym empty ∙ ap is_some booked.holds))

  sole_tells : (es : List Entry) (fresh_state s : State m) (r : Report m) → Fresh m fresh_state → Takes m es fresh_state s → Sole m s r → Tells m es r
  sole_tells es fresh_state s r fresh took sole =
      let t = taken m es fresh_state s [] (new fresh) took in
      let kept = sole.answers.kept t.history t.made in
      let told = kept.told.0 in
      record {
        shelf = sole.shelf;
        plan = told.0;
        low = sole.only.low;
        page = sym (t.pages sole.shelf) ∙ told.1;
        alone = λ j low apart. sym (t.pages j) ∙ page_empty s j (book t.history j) (kept.booked j low) (sole.only.others j low apart);
        figured = told.2;
      }

  pub works_tell : (es : List Entry) (ending : Option FileRefusal) (fresh_state s : State m) → Fresh m fresh_state
      → (found : Result (Report m) Fault) → Works m es ending fresh_state s found → (r : Report m) → found ≡ Ok r → Tells m es r
  works_tell es ending fresh_state s fresh found works r is =
      let accepted = subst (Works m es ending fresh_state s) is works in
      sole_tells es fresh_state s r fresh accepted.1 accepted.2
