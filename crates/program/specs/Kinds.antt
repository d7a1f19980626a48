-- The kinds of records by number, and how long a record of each kind is.
use Rattle.std.specs.Prelude.{◌≡◌, ℕ, ◌+◌, ◌*◌, ◌≢◌, Result, MatchResult}
use Rattle.program.specs.declared.kind.Kind.{Kind}
use Rattle.program.specs.declared.kind.Kind.TheVariants.{Node, Pause, Table, Choice, Sequence, Loop, Fork, Abort, Clear}
use Rattle.program.specs.declared.refusal.Refusal.{Refusal}
use Rattle.program.specs.declared.refusal.Refusal.TheVariants.{Unknown}

-- the number that a file has for a kind
abbrev pub number : Kind → ℕ
number Node = 1
number Pause = 2
number Table = 3
number Choice = 4
number Sequence = 5
number Loop = 6
number Fork = 7
number Abort = 8
number Clear = 9

-- the kind of this number, or the refusal where no kind has it
abbrev pub Decodes : ℕ → Result Kind Refusal → Type 0
Decodes n r = MatchResult r (λ k. n ≡ number k) (λ e. (e ≡ Unknown) × ((k : Kind) → n ≢ number k))

-- the length of a record of a kind, in bytes; that of a table goes by its count of arcs
abbrev pub due : Kind → ℕ → ℕ
due Node arcs = 13
due Pause arcs = 13
due Table arcs = 7 + 10 * arcs
due Choice arcs = 6
due Sequence arcs = 6
due Loop arcs = 5
due Fork arcs = 6
due Abort arcs = 6
due Clear arcs = 5
