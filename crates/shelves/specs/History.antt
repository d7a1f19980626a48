-- Histories: what has been called of a rack since it was opened, and what was replied.
use Rattle.std.specs.Prelude.{◌≡◌, ℕ, List, [], ◌∷◌, replicate, None, slice_index_or}
use Rattle.algebra.specs.Model.{Model}
use Rattle.shelves.specs.Calls.{Call, Reply, accepted, reported, refused, Event}
use Rattle.shelves.specs.Effects.{Does}
use Rattle.shelves.specs.Questions.{Yes, AllYes, FirstNo}
use Rattle.shelves.specs.Refusals.{order}
use Rattle.shelves.specs.State.{State, empty_shelf}

module _ (m : Model) where
  -- a rack just opened: every cell absent, every shelf empty, nothing recorded
  pub record Fresh (s : State m) : Type 0 where
    pub cells : (j : ℕ) → slice_index_or s.cells j None ≡ None
    pub shelves : s.shelves ≡ replicate 16 empty_shelf
    pub steps : s.steps ≡ []
    pub arcs : s.arcs ≡ []

  -- the state comes from a new rack by the events, the newest first, each as its call does
  pub data Made : List (Event m) → State m → Type 0 where
    new : {s : State m} → Fresh s → Made [] s
    more : {h : List (Event m)} {s s' : State m} (e : Event m) → Made h s → Does m e.call e.reply s s' → Made (e ∷ h) s'

  -- a reply is the first no of the questions, or there is none
  abbrev pub Replies : Call → Reply m → State m → Type 0
  Replies c (refused r) s = FirstNo (Yes m s c) order r
  Replies c (accepted n) s = AllYes (Yes m s c) order
  Replies c (reported r) s = AllYes (Yes m s c) order

  -- every call was answered as the questions say at the state that it met
  abbrev pub Answered : List (Event m) → Type 0
  Answered [] = Unit {0}
  Answered (e ∷ h) = ((s : State m) × Made h s × Replies e.call e.reply s) × Answered h
