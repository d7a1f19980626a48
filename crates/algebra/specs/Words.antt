-- The words of figures.
use Rattle.std.specs.Prelude.{ℕ, cond, List, codes, decimal, ◌==◌}

-- a sum of cycles: one held at the top is over, whatever it would be
abbrev pub cycles_words : ℕ → List ℕ
cycles_words n = cond (n == 4294967295) (codes "over") (decimal n)
