-- Many calls: the promise of a list of them, and of all at once.
use Rattle.std.specs.Prelude.{List, [], ◌∷◌}
use Rattle.algebra.specs.Model.{Model}
use Rattle.shelves.specs.Calls.{Call, Reply, Event}
use Rattle.shelves.specs.Effects.{Does, DoesAll}
use Rattle.shelves.specs.History.{Fresh, Made}
use Rattle.shelves.specs.Promise.{Kept}
use Rattle.shelves.specs.State.{State}

module _ (m : Model) where
  -- the history after the calls with their replies, one after the other
  abbrev pub after_calls : List Call → List (Reply m) → List (Event m) → List (Event m)
  after_calls [] replies h = h
  after_calls (c ∷ calls) [] h = h
  after_calls (c ∷ calls) (r ∷ replies) h = after_calls calls replies (record { call = c; reply = r } ∷ h)

  -- a list of calls with their replies takes the rack from s to s', one after the other, and the promise is kept of all of them
  pub record AnswersAll (calls : List Call) (replies : List (Reply m)) (s s' : State m) : Type 0 where
    pub does : DoesAll m calls replies s s'
    pub made : (h : List (Event m)) → Made m h s → Made m (after_calls calls replies h) s'
    pub kept : (h : List (Event m)) → Made m h s → Kept m (after_calls calls replies h) s'

  -- what each call promises: after any history it adds one event, and the promise holds
  abbrev pub Promise : Type 0
  Promise = (h : List (Event m)) (s s' : State m) (e : Event m) → Made m h s → Does m e.call e.reply s s' → Made m (e ∷ h) s' × Kept m (e ∷ h) s'

  -- and of a rack just opened the promise holds before any call
  abbrev pub Opening : Type 0
  Opening = (s : State m) → Fresh m s → Made m [] s × Kept m [] s
