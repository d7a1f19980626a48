-- What the values of worst, best, ports and pairs mean.
use Rattle.std.specs.Prelude.{ℕ, true, false}
use Rattle.std.specs.Int.Bits.{bit_or}
use Rattle.algebra.specs.Model.{Model}
use Rattle.algebra.specs.Held.{Held, held, larger, smaller, sum}

-- the most cycles that a sum shows: a sum past it is held here
abbrev pub top : ℕ
top = 4294967295

-- cycles, the larger of two, the sum held at the top
abbrev pub worst : Model
worst = record {
  Carrier = Held top;
  unit = held top 0;
  weigh = λ l. held top l.cycles;
  join = larger;
  add = sum;
  chooses = true;
}

-- cycles, the smaller of two, the sum held at the top
abbrev pub best : Model
best = record {
  Carrier = Held top;
  unit = held top 0;
  weigh = λ l. held top l.cycles;
  join = smaller;
  add = sum;
  chooses = true;
}

-- sets of ports, one bit for each: both the join and the sum are the union
abbrev pub ports : Model
ports = record {
  Carrier = ℕ;
  unit = 0;
  weigh = λ l. l.ports;
  join = bit_or;
  add = bit_or;
  chooses = false;
}

-- two algebras side by side, each half by its own
abbrev pub pair : Model → Model → Model
pair a b = record {
  Carrier = a.Carrier × b.Carrier;
  unit = (a.unit, b.unit);
  weigh = λ l. (a.weigh l, b.weigh l);
  join = λ x y. (a.join x.0 y.0, b.join x.1 y.1);
  add = λ x y. (a.add x.0 y.0, b.add x.1 y.1);
  chooses = false;
}
