-- Bytes have one reading, and reading and writing undo each other.
use Rattle.std.specs.Prelude.{◌≡◌, ℕ, List, ◌++◌, length, None, Option, All}
use Rattle.std.specs.List.{flat_map}
use Rattle.program.specs.declared.refusal.Refusal.{Refusal}
use Rattle.program.specs.Entries.{Entry}
use Rattle.program.specs.Files.{Listed}
use Rattle.program.specs.Format.{long, bytes, Fits, Spells, Refuses}

-- no bytes have two readings: one entry with one rest, or one refusal
pub record OneReading : Type 0 where
  pub entry : (bs : List ℕ) (e f : Entry) (rest left : List ℕ) → Spells bs e rest → Spells bs f left → (e ≡ f) × (rest ≡ left)
  pub refusal : (bs : List ℕ) (why other : Refusal) → Refuses why bs → Refuses other bs → why ≡ other
  pub apart : (bs : List ℕ) (e : Entry) (rest : List ℕ) (why : Refusal) → Spells bs e rest → Refuses why bs → ⊥

-- what is written is read back with the bytes after it left, and what is read is written as the same bytes
pub record RoundTrip : Type 0 where
  pub size : (e : Entry) → length (bytes e) ≡ long e
  pub back : (e f : Entry) (more rest : List ℕ) → Fits e → Spells (bytes e ++ more) f rest → (f ≡ e) × (rest ≡ more)
  pub accepted : (e : Entry) (more : List ℕ) (why : Refusal) → Fits e → Refuses why (bytes e ++ more) → ⊥
  pub again : (bs rest : List ℕ) (e : Entry) → Spells bs e rest → bs ≡ bytes e ++ rest

-- the same of whole files
pub record FileRoundTrip : Type 0 where
  pub one : (bs : List ℕ) (es fs : List Entry) (why other : Option Refusal) → Listed bs es why → Listed bs fs other → (es ≡ fs) × (why ≡ other)
  pub back : (es : List Entry) → All Fits es → Listed (flat_map bytes es) es None
  pub again : (bs : List ℕ) (es : List Entry) → Listed bs es None → bs ≡ flat_map bytes es
