use Rattle.std.proofs.Common.{rules, ◌≡◌, ℕ, ◌+◌, min, map, length, arith}
use Rattle.std.specs.Prelude.{fold}
use Rattle.program.specs.declared.record.Record.{Record}
use Rattle.program.specs.Entries.{entry}
use Rattle.program.specs.Weights.{labels}
use Rattle.program.proofs.Sums.{counted}
use Rattle.program.proofs.weights.count.Goals as goal

pub returns : goal.returns
returns c =
    let top : ℕ = 18446744073709551615 in
    let sum : c.fold.result ≡ fold (λ (a n : ℕ). min (a + n) top) 0 (map (λ (r : Record). length (labels (entry r))) c.args.records.now) = search rules in
    omega (arith, sum, counted 0 top (omega arith) c.args.records.now)
