use Rattle.std.proofs.Common.{◌≡◌, rules, sym, ◌∙◌, arith, ltb-false}
use Rattle.std.proofs.lemmas.List.{take_rest}
use Rattle.program.specs.Kinds.{number}
use Rattle.program.specs.Format.{kind_in, Stops}
use Rattle.program.proofs.Framing.{Parted, spelled, stops}
use Rattle.program.proofs.read.read.Goals as goal
use Rattle.program.proofs.read.read.Goals.{In_ok-kind}

parts : (c : In_ok-kind) → Parted c.args.bytes.now c.split_at.result.0.now c.split_at.result.1.now
parts c = record {
  room = omega (arith, ltb-false);
  split = sym (take_rest c.args.bytes.now 4) ∙ c.split_at.ensures.by_index.0;
  long_is = omega (arith, ltb-false, c.split_at.ensures.front_len);
}

known : (c : In_ok-kind) → kind_in c.args.bytes.now ≡ number c.in_ok-kind.kind
known c = sym c.from_le_bytes-2.ensures ∙ c.in_ok-kind.ensures

pub returns : goal.returns
returns c =
    let at = (goal.at.returns c).In_ok-kind in
    let is = c.in_ok-record.ensures in
    spelled (parts at) (λ i. omega (arith, c.type_inv.bytes i)) _ _ (known at) is.0 is.1 is.2

pub returns-in_err-record : goal.returns-in_err-record
returns-in_err-record c =
    let at = (goal.at.returns-in_err-record c).In_ok-kind in
    let stopped : Stops c.in_err-record.field-0.0 c.args.bytes.now = stops (parts at) (λ i. omega (arith, c.type_inv.bytes i)) _ (known at) _ c.in_err-record.ensures in
    search rules
