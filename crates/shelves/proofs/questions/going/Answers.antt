use Rattle.std.proofs.Common.{ℕ, Decides, sym, subst}
use Rattle.std.proofs.lemmas.Bool.Decides.{Decides-like}
use Rattle.std.specs.List.{AllByRecursion}
use Rattle.shelves.specs.Calls.{about}
use Rattle.shelves.specs.Held.{call_of}
use Rattle.shelves.specs.Questions.{UpToNamed, Begins}
use Rattle.shelves.proofs.questions.going.Goals as goal

pub returns-in-Table : goal.returns-in-Table
returns-in-Table c =
    subst (λ call. Decides c.complete.result (AllByRecursion (λ arcs. (q : ℕ) → UpToNamed arcs q → Begins arcs q) (about (call_of call)).tables)) (sym c.in-Table.is)
    (Decides-like c.complete.result (λ h. (h, tt)) (λ h. h.0) c.complete.ensures)
