-- The laws of an algebra as one record, from those that its trait states.
use borrow.Fn.World.{World}
use denote.RattleType.{RattleType}
use mir.Syntax.{Dict}
use Rattle.std.specs.declared.clone.Clone.{Ghosts as CloneGhosts}
use Rattle.std.specs.declared.cmp.Eq.{Ghosts as EqGhosts}
use Rattle.std.specs.declared.cmp.PartialEq.{Ghosts as PartialEqGhosts}
use Rattle.algebra.specs.Model.{Laws}
use Rattle.algebra.specs.contracts.algebra.Algebra.TheBound.{Met}
use Rattle.algebra.specs.declared.algebra.Algebra.{Ghosts}

pub laws_of : (w : World) {T : RattleType} {algebra : Ghosts T.Denot} {dict : Dict} {clone : CloneGhosts T.Denot} {clone_dict : Dict} {eq : EqGhosts T.Denot} {eq_dict : Dict} {partial_eq : PartialEqGhosts T.Denot} {partial_eq_dict : Dict}
    → Met w.𝓛 w.𝓜 w.𝓡 w.𝓡.env T algebra dict clone clone_dict eq eq_dict partial_eq partial_eq_dict → Laws algebra.model
laws_of w met = record {
  join_assoc = met.join_assoc;
  join_comm = met.join_comm;
  join_self = met.join_self;
  add_assoc = met.add_assoc;
  add_comm = met.add_comm;
  add_unit = met.add_unit;
  add_join = met.add_join;
}
