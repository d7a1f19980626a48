-- What a program file comes to on a new rack: a report of the one plan that it spells, or the first no.
use Rattle.std.specs.Prelude.{◌≡◌, ℕ, ◌<◌, ◌≤◌, true, false, ◌≢◌, List, [], ◌∷◌, ◌++◌, length, is_some, Some, None, Ok, Err, Option, Result}
use Rattle.algebra.specs.declared.label.Label.{Label}
use Rattle.algebra.specs.Model.{Model}
use Rattle.program.specs.declared.refusal.Refusal.{Refusal as FileRefusal}
use Rattle.program.specs.Entries.{Entry}
use Rattle.program.specs.Files.{Holds}
use Rattle.runs.specs.Plan.{Plan}
use Rattle.shelves.specs.declared.refusal.Refusal.{Refusal}
use Rattle.shelves.specs.declared.refusal.Refusal.TheVariants.{FewCells}
use Rattle.shelves.specs.declared.report.Report.{Report as Held}
use Rattle.shelves.specs.Calls.{Report, report, accepted, reported}
use Rattle.shelves.specs.Effects.{Does}
use Rattle.shelves.specs.History.{Fresh}
use Rattle.shelves.specs.Promise.{Figured, Answers}
use Rattle.shelves.specs.Questions.{Yes, FirstNo}
use Rattle.shelves.specs.Refusals.{order}
use Rattle.shelves.specs.State.{State, shelf_at}
use Rattle.shelves.specs.Told.{report_of}
use Rattle.analyser.specs.declared.fault.Fault.{Fault}
use Rattle.analyser.specs.declared.fault.Why.{Why}
use Rattle.analyser.specs.declared.fault.Why.TheVariants.{Rack, File, NotOne}
use Rattle.analyser.specs.Records.{as_call, spelled}

module _ (m : Model) where
  -- the entries are accepted one after the other, and take the rack from s to s'
  abbrev pub Takes : List Entry → State m → State m → Type 0
  Takes [] s s' = s' ≡ s
  Takes (e ∷ es) s s' = (number : ℕ) × (between : State m) × Does m (as_call e) (accepted number) s between × Takes es between s'

  -- the entries before e are accepted, and the first question that is answered no of e's call is q's
  pub record StopsAt (es : List Entry) (s s' : State m) (count : ℕ) (q : Refusal) : Type 0 where
    pub before : List Entry
    pub refused : Entry
    pub later : List Entry
    pub are : es ≡ before ++ refused ∷ later
    pub counted : count ≡ length before
    pub takes : Takes before s s'
    pub first_no : FirstNo (Yes m s' (as_call refused)) order q

  -- every entry is accepted, or the rack refuses the call of one, with how many were accepted before
  abbrev pub Took : List Entry → State m → State m → Result (Unit {0}) Fault → Type 0
  Took es s s' (Ok done) = Takes es s s'
  Took es s s' (Err fault) = (q : Refusal) × (fault.why ≡ Rack q) × StopsAt es s s' fault.accepted q

  -- shelf k alone is filled
  pub record Only (s : State m) (k : ℕ) : Type 0 where
    pub low : k ≤ 15
    pub filled : is_some (shelf_at s k).step ≡ true
    pub others : (j : ℕ) → j ≤ 15 → j ≢ k → is_some (shelf_at s j).step ≡ false

  -- the report of the one filled shelf, with its promise
  pub record Sole (s : State m) (r : Report m) : Type 0 where
    pub shelf : ℕ
    pub only : Only s shelf
    pub answers : Answers m (report shelf) (reported r) s s

  -- why a file stops: its call is refused by the rack, the file is refused after its last entry, or not one shelf is filled
  abbrev pub Stops : List Entry → Option FileRefusal → State m → State m → ℕ → Why → Type 0
  Stops es ending s s' count (Rack q) = StopsAt es s s' count q
  Stops es ending s s' count (File q) = (count ≡ length es) × (ending ≡ Some q) × Takes es s s'
  Stops es ending s s' count NotOne = (count ≡ length es) × (ending ≡ None) × Takes es s s' × ((k : ℕ) → Only s' k → ⊥)

  -- what the entries of a file with this ending do on a rack
  abbrev pub Works : List Entry → Option FileRefusal → State m → State m → Result (Report m) Fault → Type 0
  Works es ending s s' (Ok r) = (ending ≡ None) × Takes es s s' × Sole s' r
  Works es ending s s' (Err fault) = Stops es ending s s' fault.accepted fault.why

  -- the report is of the one plan that the entries spell by the book
  pub record Tells (es : List Entry) (r : Report m) : Type 0 where
    pub shelf : ℕ
    pub plan : Plan Label
    pub low : shelf ≤ 15
    pub page : spelled es shelf ≡ Some plan
    pub alone : (j : ℕ) → j ≤ 15 → j ≢ shelf → spelled es j ≡ None
    pub figured : Figured m plan r

  -- the bytes are those of a file whose entries, on a new rack, come to this
  pub record Runs (bytes : List ℕ) (found : Result (Report m) Fault) : Type 0 where
    pub entries : List Entry
    pub ending : Option FileRefusal
    pub holds : Holds bytes entries ending
    pub new : State m
    pub last : State m
    pub fresh : Fresh m new
    pub works : Works entries ending new last found
    pub tells : (r : Report m) → found ≡ Ok r → Tells entries r

  -- what a file comes to where this many cells are lent
  abbrev pub Analysed : (lent : ℕ) → List ℕ → Result (Report m) Fault → Type 0
  Analysed lent bytes found = (4096 ≤ lent → Runs bytes found) × (lent < 4096 → found ≡ Err (record { accepted = 0; why = Rack FewCells }))

  -- a report or a fault, by its meaning
  abbrev pub found_of : {V : Type 0} → (V → m.Carrier) → Result (Held V) Fault → Result (Report m) Fault
  found_of means (Ok r) = Ok (report_of m means r)
  found_of means (Err fault) = Err fault
