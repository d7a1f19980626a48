-- The bytes of a record, and which bytes the questions of a record refuse.
use Rattle.std.specs.Prelude.{◌≡◌, ℕ, ◌+◌, ◌*◌, ◌/◌, ◌%◌, ◌^◌, ◌<◌, ◌≤◌, List, [], ◌∷◌, ◌++◌, length, ◌≢◌, slice_index, All}
use Rattle.std.specs.List.{flat_map}
use Rattle.algebra.specs.declared.arc.Arc.{Arc}
use Rattle.algebra.specs.declared.label.Label.{Label}
use Rattle.program.specs.declared.fault.Fault.{Fault}
use Rattle.program.specs.declared.fault.Fault.TheVariants.{Refused, Memory}
use Rattle.program.specs.declared.kind.Kind as kinds
use Rattle.program.specs.declared.kind.Kind.{Kind}
use Rattle.program.specs.declared.refusal.Refusal.{Refusal}
use Rattle.program.specs.declared.refusal.Refusal.TheVariants.{Large, Cut, Unknown, Misfit}
use Rattle.program.specs.declared.unwritten.Unwritten.{Unwritten}
use Rattle.program.specs.declared.unwritten.Unwritten.TheVariants as unwritten
use Rattle.program.specs.Kinds.{number, due}
use Rattle.program.specs.Entries.{Entry, node, pause, table, choice, sequence, repeat, fork, abort, clear}

-- a number in two bytes and in four, the lowest first
abbrev pub two : ℕ → List ℕ
two n = n % 256 ∷ n / 256 % 256 ∷ []

abbrev pub four : ℕ → List ℕ
four n = n % 256 ∷ n / 256 % 256 ∷ n / 65536 % 256 ∷ n / 16777216 % 256 ∷ []

-- a label: its cycles, then its ports
abbrev pub label_bytes : Label → List ℕ
label_bytes l = four l.cycles ++ four l.ports

-- an arc: from, to, and its label
abbrev pub arc_bytes : Arc → List ℕ
arc_bytes a = a.from ∷ a.to ∷ label_bytes a.label

-- the kind of an entry
abbrev pub kind : Entry → Kind
kind (node s l) = kinds.TheVariants.Node
kind (pause s l) = kinds.TheVariants.Pause
kind (table s arcs) = kinds.TheVariants.Table
kind (choice a b) = kinds.TheVariants.Choice
kind (sequence a b) = kinds.TheVariants.Sequence
kind (repeat s) = kinds.TheVariants.Loop
kind (fork a b) = kinds.TheVariants.Fork
kind (abort a b) = kinds.TheVariants.Abort
kind (clear s) = kinds.TheVariants.Clear

-- the arcs of an entry
abbrev pub arcs_of : Entry → List Arc
arcs_of (node s l) = []
arcs_of (pause s l) = []
arcs_of (table s arcs) = arcs
arcs_of (choice a b) = []
arcs_of (sequence a b) = []
arcs_of (repeat s) = []
arcs_of (fork a b) = []
arcs_of (abort a b) = []
arcs_of (clear s) = []

-- the length of the whole record
abbrev pub long : Entry → ℕ
long e = due (kind e) (length (arcs_of e))

-- what stands after the length and the kind
abbrev pub body : Entry → List ℕ
body (node s l) = s ∷ label_bytes l
body (pause s l) = s ∷ label_bytes l
body (table s arcs) = s ∷ two (length arcs) ++ flat_map arc_bytes arcs
body (choice a b) = a ∷ b ∷ []
body (sequence a b) = a ∷ b ∷ []
body (repeat s) = s ∷ []
body (fork a b) = a ∷ b ∷ []
body (abort a b) = a ∷ b ∷ []
body (clear s) = s ∷ []

-- the bytes of an entry: its length, its kind, its body
abbrev pub bytes : Entry → List ℕ
bytes e = two (long e) ++ two (number (kind e)) ++ body e

-- each number is one that its bytes can hold
abbrev pub FitsLabel : Label → Type 0
FitsLabel l = (l.cycles < 2 ^ 32) × (l.ports < 2 ^ 32)

abbrev pub FitsArc : Arc → Type 0
FitsArc a = (a.from < 256) × (a.to < 256) × FitsLabel a.label

abbrev pub FitsBody : Entry → Type 0
FitsBody (node s l) = (s < 256) × FitsLabel l
FitsBody (pause s l) = (s < 256) × FitsLabel l
FitsBody (table s arcs) = (s < 256) × All FitsArc arcs
FitsBody (choice a b) = (a < 256) × (b < 256)
FitsBody (sequence a b) = (a < 256) × (b < 256)
FitsBody (repeat s) = s < 256
FitsBody (fork a b) = (a < 256) × (b < 256)
FitsBody (abort a b) = (a < 256) × (b < 256)
FitsBody (clear s) = s < 256

-- and two bytes hold the length
abbrev pub Fits : Entry → Type 0
Fits e = (long e < 65536) × FitsBody e

-- the bytes are those of an entry, and then the rest
abbrev pub Spells : List ℕ → Entry → List ℕ → Type 0
Spells bs e rest = Fits e × (bs ≡ bytes e ++ rest)

-- the length that the first two bytes give, the number of the kind in the next two, and the count of arcs of a table
abbrev pub length_in : List ℕ → ℕ
length_in bs = slice_index bs 0 + slice_index bs 1 * 256

abbrev pub kind_in : List ℕ → ℕ
kind_in bs = slice_index bs 2 + slice_index bs 3 * 256

abbrev pub count_in : List ℕ → ℕ
count_in bs = slice_index bs 5 + slice_index bs 6 * 256

-- four bytes are left, and the length is between 4 and the bytes left
abbrev pub Framed : List ℕ → Type 0
Framed bs = (4 ≤ length bs) × (4 ≤ length_in bs) × (length_in bs ≤ length bs)

-- the first question of a record that these bytes answer no; the size of the file is no question of a record
abbrev pub Refuses : Refusal → List ℕ → Type 0
Refuses Large bs = ⊥
Refuses Cut bs = Framed bs → ⊥
Refuses Unknown bs = Framed bs × ((k : Kind) → kind_in bs ≢ number k)
Refuses Misfit bs = Framed bs × ((k : Kind) × (kind_in bs ≡ number k) × (length_in bs ≢ due k (count_in bs)))

-- why no record is read from these bytes: they are refused, or they spell a table and there is no memory for its arcs
abbrev pub Stops : Fault → List ℕ → Type 0
Stops (Refused why) bs = Refuses why bs
Stops Memory bs = (shelf : ℕ) × (arcs : List Arc) × (rest : List ℕ) × Spells bs (table shelf arcs) rest

-- why an entry is not written: two bytes do not hold its length, or they do and there is no memory for its bytes
abbrev pub Resists : Unwritten → Entry → Type 0
Resists unwritten.Long e = 65536 ≤ long e
Resists unwritten.Memory e = long e < 65536
