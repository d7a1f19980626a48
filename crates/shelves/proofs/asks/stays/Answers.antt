use Rattle.std.proofs.Common.{ℕ, ◌+◌, ◌*◌, get_or, take, is_some, None, sym, ap, ◌∙◌, arith}
use Rattle.std.proofs.lemmas.List.{get_or_past, get_or-take, get_or_read, length-take}
use Rattle.shelves.proofs.Present.{present_at}
use Rattle.shelves.proofs.asks.stays.Goals as goal

pub returns-then-k-gt15 : goal.returns-then-k-gt15
returns-then-k-gt15 g c =
    let kept = take 2048 c.args.cells.now.lent.now in
    present_at g.V.Algebra.means kept (128 * c.args.k + 64 + 0)
    ∙ ap is_some (get_or_past kept (128 * c.args.k + 64 + 0) None (simp length-take (omega arith)))

pub returns : goal.returns
returns g c =
    let cells = c.args.cells.now.lent.now in
    let j = 128 * c.args.k + 64 in
    present_at g.V.Algebra.means (take 2048 cells) (128 * c.args.k + 64 + 0)
    ∙ ap (λ (i : ℕ). is_some (get_or (take 2048 cells) i None)) {y = j} (omega arith)
    ∙ ap is_some (get_or-take 2048 cells j None (omega arith) ∙ sym (get_or_read cells j _ (omega arith) c.index-cells-k.is None))
    ∙ ap is_some c.index-cells-k.is ∙ c.is_none.ensures
