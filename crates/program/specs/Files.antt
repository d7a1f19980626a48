-- What a whole file holds.
use Rattle.std.specs.Prelude.{◌≡◌, ℕ, ◌<◌, ◌≤◌, List, [], ◌∷◌, length, Some, None, Option}
use Rattle.program.specs.declared.refusal.Refusal.{Refusal}
use Rattle.program.specs.declared.refusal.Refusal.TheVariants.{Large}
use Rattle.program.specs.Entries.{Entry}
use Rattle.program.specs.Format.{Spells, Refuses}

-- bytes with the entries that they spell one after another, up to the end or to the first refusal
pub data Listed : List ℕ → List Entry → Option Refusal → Type 0 where
  ended : Listed [] [] None
  stopped : {bs : List ℕ} {why : Refusal} → 0 < length bs → Refuses why bs → Listed bs [] (Some why)
  next : {bs rest : List ℕ} {e : Entry} {es : List Entry} {why : Option Refusal} → Spells bs e rest → Listed rest es why → Listed bs (e ∷ es) why

-- a file of more than 32,768 bytes is refused whole
pub record Holds (bs : List ℕ) (es : List Entry) (why : Option Refusal) : Type 0 where
  pub within : length bs ≤ 32768 → Listed bs es why
  pub large : 32768 < length bs → (es ≡ []) × (why ≡ Some Large)

-- only a file that is not refused whole, and begins with a record, asks for memory: the empty one does not
pub record AsksMemory (bs : List ℕ) : Type 0 where
  pub within : length bs ≤ 32768
  pub begins : (e : Entry) × (rest : List ℕ) × Spells bs e rest
