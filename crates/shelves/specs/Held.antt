-- The state of a rack, from what it holds.
use Rattle.std.specs.Prelude.{length, take, drop}
use Rattle.algebra.specs.Model.{Model}
use Rattle.rows.specs.Pieces.{meanings, on_shelves}
use Rattle.shelves.specs.declared.call.Call.{Call as Made}
use Rattle.shelves.specs.declared.call.Call.TheVariants as made
use Rattle.shelves.specs.declared.core_state.Core.{Core}
use Rattle.shelves.specs.Calls.{Call, node, pause, table, pair, loop, clear, report}
use Rattle.shelves.specs.State.{State}
use Rattle.shelves.specs.Tables.{shelves_of}

abbrev pub state_of : (m : Model) {V : Type 0} → (V → m.Carrier) → Core V → State m
state_of m means core = record {
  cells = on_shelves means core.cells;
  shelves = shelves_of core.shelves;
  steps = core.steps.items;
  arcs = core.arcs.items;
  lent = length core.cells.lent.now;
  past = meanings means (drop 4096 core.cells.lent.now);
}

-- a call as a history has it: a table by its arcs
abbrev pub call_of : Made → Call
call_of (made.Node k l) = node k l
call_of (made.Pause k l) = pause k l
call_of (made.Table k arcs) = table k arcs.now
call_of (made.Pair kind a b) = pair kind a b
call_of (made.Loop k) = loop k
call_of (made.Clear k) = clear k
call_of (made.Report k) = report k
