use Rattle.std.proofs.Common.{get_or, None, ap, ◌∙◌, arith, rules}
use Rattle.std.proofs.lemmas.List.{get_or_append_left, get_or-replicate, length-take}
use Rattle.std.proofs.lemmas.Slice.{drop-append-drop}
use Rattle.rows.proofs.cells.Cells.wipe.Goals as goal

pub returns-clause-blank : goal.returns-clause-blank
returns-clause-blank g c = λ j less.
    get_or_append_left c.fill.new.self _ None j (rw c.fill.ensures.len (simp length-take (omega arith)))
    ∙ ap (λ xs. get_or xs j None) (c.fill.ensures.after (λ y e. search rules))
    ∙ get_or-replicate _ j None None (simp length-take (omega arith))

pub returns-clause-past : goal.returns-clause-past
returns-clause-past g c = drop-append-drop 4096 c.args.self.now.lent.now c.fill.new.self 4096 (omega arith) (rw c.fill.ensures.len (simp length-take (omega arith)))
