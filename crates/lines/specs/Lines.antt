-- The line of a file in one algebra, and its whole printout.
use Rattle.std.specs.Prelude.{◌≡◌, ℕ, List, [], ◌∷◌, ◌++◌, codes, decimal, Result}
use Rattle.algebra.specs.Model.{Model}
use Rattle.analyser.specs.declared.fault.Fault.{Fault}
use Rattle.analyser.specs.Files.{Analysed, found_of}
use Rattle.shelves.specs.declared.report.Report.{Report}
use Rattle.algebra.specs.declared.best.Best.{Best}
use Rattle.algebra.specs.declared.ports.Ports.{Ports}
use Rattle.algebra.specs.declared.worst.Worst.{Worst}
use Rattle.algebra.specs.Models.{worst, best, ports}
use Rattle.algebra.specs.Words.{cycles_words}
use Rattle.lines.specs.Words.{line_words}

-- the text is the line of what the file comes to, in an algebra of this name whose figures have these words
pub record LineOf (m : Model) {V : Type 0} (means : V → m.Carrier) (name : List ℕ) (words : V → List ℕ) (lent : ℕ) (bytes text : List ℕ) : Type 0 where
  pub found : Result (Report V) Fault
  pub analysed : Analysed m lent bytes (found_of m means found)
  pub says : text ≡ line_words name words found

-- the text is the lines of worst, best and ports, each with its end
pub record PrintoutOf (bytes text : List ℕ) : Type 0 where
  pub worst_line : List ℕ
  pub best_line : List ℕ
  pub ports_line : List ℕ
  pub of_worst : LineOf worst {V = Worst} (λ w. record { amount = w.cycles; within = w.within }) (codes "worst") (λ w. cycles_words w.cycles) 4096 bytes worst_line
  pub of_best : LineOf best {V = Best} (λ w. record { amount = w.cycles; within = w.within }) (codes "best") (λ w. cycles_words w.cycles) 4096 bytes best_line
  pub of_ports : LineOf ports {V = Ports} (λ p. p.bits) (codes "ports") (λ p. decimal p.bits) 4096 bytes ports_line
  pub says : text ≡ worst_line ++ (10 ∷ (best_line ++ (10 ∷ (ports_line ++ (10 ∷ [])))))
