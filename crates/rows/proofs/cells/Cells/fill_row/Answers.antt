use Rattle.std.proofs.Common.{ℕ, ◌+◌, ◌-◌, ◌≤◌, ltb, length, get_or, None, sym, ap, ◌∙◌, ⊎_elim, arith, rules}
use Rattle.std.proofs.lemmas.Bool.{cases_lt, cond-true, cond-false, lt-ltb, le-ltb}
use Rattle.std.proofs.lemmas.List.{get_or-replicate}
use Rattle.rows.proofs.Parts.{part_before, part_in, part_after}
use Rattle.rows.proofs.cells.Cells.fill_row.Goals as goal

pub returns-clause-row : goal.returns-clause-row
returns-clause-row g c = λ k less.
    let a = c.args.at + c.args.size in
    let rest = c.args.at + 64 - a in
    let copied = c.copy_within.new.self in
    let within : a ≤ length copied = omega (arith, c.copy_within.ensures.len) in
    ⊎_elim
    (λ near. part_before a rest copied c.fill.new.self None within (c.args.at + k) (omega arith)
    ∙ c.copy_within.ensures.by_index.0 (c.args.at + k) None (omega arith) (omega arith)
    ∙ ap (λ (j : ℕ). get_or c.args.self.now.lent.now j None) {y = c.args.from + k} (omega arith)
    ∙ sym (cond-true (ltb k c.args.size) _ _ (lt-ltb k c.args.size near)))
    (λ past. part_in a rest copied c.fill.new.self None within (c.args.at + k) (omega arith) (omega (arith, c.fill.ensures.len))
    ∙ ap (λ xs. get_or xs (c.args.at + k - a) None) (c.fill.ensures.after (λ y e. search rules))
    ∙ get_or-replicate _ (c.args.at + k - a) None None (omega arith)
    ∙ sym (cond-false (ltb k c.args.size) _ _ (le-ltb k c.args.size past)))
    (cases_lt k c.args.size)

pub returns-clause-others : goal.returns-clause-others
returns-clause-others g c = λ j out.
    let a = c.args.at + c.args.size in
    let rest = c.args.at + 64 - a in
    let copied = c.copy_within.new.self in
    let within : a ≤ length copied = omega (arith, c.copy_within.ensures.len) in
    ⊎_elim
    (λ before. part_before a rest copied c.fill.new.self None within j (omega arith)
    ∙ c.copy_within.ensures.by_index.1 j None before)
    (λ past. part_after a rest copied c.fill.new.self None within j (omega (arith, c.fill.ensures.len)) (omega arith)
    ∙ c.copy_within.ensures.by_index.2 j None (omega arith))
    out
