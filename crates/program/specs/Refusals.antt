-- The questions of the file by number.
use Rattle.std.specs.Prelude.{ℕ}
use Rattle.program.specs.declared.refusal.Refusal.{Refusal}
use Rattle.program.specs.declared.refusal.Refusal.TheVariants.{Large, Cut, Unknown, Misfit}

-- the number of the question that is answered no
abbrev pub number : Refusal → ℕ
number Large = 14
number Cut = 15
number Unknown = 16
number Misfit = 17
