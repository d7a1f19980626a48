use Rattle.std.proofs.Common.{subst}
use Rattle.shelves.specs.Held.{state_of, call_of}
use Rattle.shelves.specs.Questions.{Yes, AllYes}
use Rattle.shelves.specs.Refusals.{early}
use Rattle.shelves.proofs.answering.act.Goals as goal

pub act_table-requires : goal.act_table-requires
act_table-requires g c =
    subst (λ call. AllYes (Yes g.V.Algebra.model (state_of g.V.Algebra.model g.V.Algebra.means c.args.core.now) (call_of call)) early) c.in-Table.is c.requires
