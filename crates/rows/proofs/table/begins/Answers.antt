use Rattle.std.proofs.Common.{sym, ◌∙◌, rules}
use Rattle.std.proofs.lemmas.Bool.{le-ltb}
use Rattle.rows.proofs.SetLaws.{has_past}
use Rattle.rows.proofs.table.begins.Goals as goal

pub returns-else-arc-lt64 : goal.returns-else-arc-lt64
returns-else-arc-lt64 c =
    le-ltb c.args.arc.from 64 c.if-arc-lt64.false ∙ sym (has_past c.args.set 64 c.args.arc.from (search rules) c.if-arc-lt64.false)
