-- The numbers of faults.
use Rattle.std.specs.Prelude.{ℕ}
use Rattle.program.specs.Refusals.{number as file_number}
use Rattle.shelves.specs.Refusals.{number_of as rack_number}
use Rattle.analyser.specs.declared.fault.Why.{Why}
use Rattle.analyser.specs.declared.fault.Why.TheVariants.{Rack, File, NotOne}

-- a rack's refusal and a file's have their own numbers; the question at the end is 18
abbrev pub number_of : Why → ℕ
number_of (Rack found) = rack_number found
number_of (File found) = file_number found
number_of NotOne = 18
