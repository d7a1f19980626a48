-- What the calls of a rack promise, said of what it holds before and after, and of replies as they are given.
use Rattle.std.specs.Prelude.{◌≡◌, ℕ, ◌<◌, min, List, [], map, length, take, drop, None, Option, Result, slice_index_or}
use Rattle.algebra.specs.Model.{Model}
use Rattle.rows.specs.Filled.{SamePast}
use Rattle.shelves.specs.declared.call.Call.{Call as Given}
use Rattle.shelves.specs.declared.core_state.Core.{Core}
use Rattle.shelves.specs.declared.refusal.Refusal.{Refusal}
use Rattle.shelves.specs.declared.reply.Answer.{Answer}
use Rattle.shelves.specs.Calls.{Call, Reply}
use Rattle.shelves.specs.Held.{state_of, call_of}
use Rattle.shelves.specs.History.{Fresh, Made}
use Rattle.shelves.specs.Lists.{AnswersAll}
use Rattle.shelves.specs.Promise.{Kept, Answers}
use Rattle.shelves.specs.Told.{reply_of}

module _ (m : Model) {V : Type 0} (means : V → m.Carrier) where
  -- a rack is opened over lent cells: the first 4,096 are absent, the others are as they were, and nothing is on the
  -- shelves or recorded; no call has been made, and the promise is kept
  pub record CoreOpens (cells : List (Option V)) (core : Core V) : Type 0 where
    pub blank : (j : ℕ) → j < 4096 → slice_index_or core.cells.lent.now j None ≡ None
    pub past : SamePast cells core.cells.lent.now
    pub lent : length core.cells.lent.now ≡ length cells
    pub fresh : Fresh m (state_of m means core)
    pub promise : Made m [] (state_of m means core) × Kept m [] (state_of m means core)

  -- the whole promise of a call with its reply, which takes the rack from before to after
  abbrev pub CoreAnswers : Call → Reply m → (before after : Core V) → Type 0
  CoreAnswers call reply before after = Answers m call reply (state_of m means before) (state_of m means after)

  -- and of a list of calls, each with its reply
  abbrev pub CoreAnswersAll : List Given → List (Result (Answer V) Refusal) → (before after : Core V) → Type 0
  CoreAnswersAll calls replies before after =
      AnswersAll m (map call_of calls) (map (reply_of m means) replies) (state_of m means before) (state_of m means after)

  -- the first n of a list of calls are answered, as many as there are replies lent for; the other replies are as they were
  pub record CoreRuns (calls : List Given) (old new : List (Result (Answer V) Refusal)) (n : ℕ) (before after : Core V) : Type 0 where
    pub count : n ≡ min (length calls) (length old)
    pub rest : drop n new ≡ drop n old
    pub answers : CoreAnswersAll (take n calls) (take n new) before after
