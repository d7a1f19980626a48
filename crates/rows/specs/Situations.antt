-- The situations that a walk notes, in chains by a small hash, so that one is found without a look at all of them.
use Rattle.std.specs.Prelude.{ℕ, ◌+◌, ◌*◌, ◌%◌, false, List, slice_index_or}
use Rattle.rows.specs.declared.situation.Situation.{Situation}
use Rattle.rows.specs.Rules.Rule.{situation}

-- the chain of a situation, one of 256
abbrev pub chain : Situation → ℕ
chain s = (s.a % 64 + 37 * (s.b % 64) + s.set % 227) % 256

-- the situation noted with the number k
abbrev pub nth : List Situation → ℕ → Situation
nth noted k = slice_index_or noted k (situation 0 0 0 false false)
