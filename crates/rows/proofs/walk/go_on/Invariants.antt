use Rattle.std.proofs.Common.{◌≡◌, ◌≤◌, length, take, drop}
use Rattle.rows.specs.Pieces.{meanings}
use Rattle.rows.specs.Walked.{Walked}
use Rattle.rows.proofs.walk.go_on.Given as goal

abbrev pub invariant-loop-n : goal.invariant-loop-n
invariant-loop-n g l =
    let m = g.V.Algebra.model in
    let f = g.V.Algebra.means in
    Walked (g.R.RowRule.works l.rule m (meanings f (take 2048 l.initial.cells.lent.now))) l.n l.s l.seen.noted.items (meanings f l.cells.lent.now)
    × g.R.RowRule.fits l.rule l.s
    × (take 2048 l.cells.lent.now ≡ take 2048 l.initial.cells.lent.now)
    × (drop 4096 l.cells.lent.now ≡ drop 4096 l.initial.cells.lent.now)
    × (length l.seen.noted.items ≡ l.n)
    × (l.n ≤ g.row.N)
    × (l.cells.lent.ghost_name ≡ l.initial.cells.lent.ghost_name)
