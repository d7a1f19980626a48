use Rattle.std.proofs.Common.{◌≡◌, map, take}
use Rattle.rows.specs.Chains.{keys}
use Rattle.rows.proofs.linked.Linked.new.Given as goal

abbrev pub invariant-loop-arc : goal.invariant-loop-arc
invariant-loop-arc l = keys l.chains.links.items ≡ map (λ a. a.from) (take l.arc-index l.arc-items)
