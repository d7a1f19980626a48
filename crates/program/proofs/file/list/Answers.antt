use Rattle.std.proofs.Common.{List, is_ok, sym, ap, subst, arith, true-eqb, false-eqb}
use Rattle.std.proofs.ResultArms.{chosen}
use Rattle.std.proofs.lemmas.List.{nil_from_length}
use Rattle.program.specs.declared.fault.Fault.{Fault}
use Rattle.program.specs.declared.record.Record.{Record}
use Rattle.program.specs.Entries.{table}
use Rattle.program.specs.Format.{Stops}
use Rattle.program.proofs.Turns.{Sofar, one_more, done, refuse}
use Rattle.program.proofs.file.list.Goals as goal

pub loop-left-preserved : goal.loop-left-preserved
loop-left-preserved c =
    let pushed = chosen _ _ _ _ c.push.ensures.items (ap is_ok c.in_ok-push-in-Ok.was) in
    subst (λ (l : List Record). Sofar c.args.bytes.now l c.in-Ok.rest.now) (sym pushed) (one_more _ _ c.loop-left.invariant c.in-Ok.ensures)

pub returns-in-Err-Refused : goal.returns-in-Err-Refused
returns-in-Err-Refused c =
    let no_record = subst (λ (f : Fault). Stops f c.loop-left.left.now) c.in-Err-Refused.field-0-is c.in-Err-Refused.ensures in
    rw c.in-Err-Refused.why-is (refuse _ c.in-Err-Refused.why c.loop-left.invariant (omega (arith, false-eqb _ 0 c.loop-left-test.ensures)) no_record)

pub returns-in-Err-Memory : goal.returns-in-Err-Memory
returns-in-Err-Memory c =
    let (shelf, arcs, rest, is) = subst (λ (f : Fault). Stops f c.loop-left.left.now) c.in-Err-Memory.field-0-is c.in-Err-Memory.ensures in
    c.loop-left.invariant.asks (table shelf arcs) rest is

pub returns : goal.returns
returns c = done _ c.loop-left.invariant (nil_from_length _ (true-eqb _ 0 c.loop-left-test.ensures))
