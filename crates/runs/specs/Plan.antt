-- Plans: what a program may do, in the subject's words.
-- A plan is over what a tick may hold: labels, or labels with where they come from.
use Rattle.std.specs.Prelude.{ℕ, List}

-- where an arc of a table leads: to a state, or out
pub data Lead : Type 0 where
  state : ℕ → Lead
  out : Lead

pub record Arc (X : Type 0) : Type 0 where
  pub from : ℕ
  pub lead : Lead
  pub label : X

-- `abort h a` is h over a: h goes on beside a, and a stops where h leaves
pub data Plan (X : Type 0) : Type 0 where
  node : X → Plan X
  pause : X → Plan X
  table : List (Arc X) → Plan X
  choice : Plan X → Plan X → Plan X
  sequence : Plan X → Plan X → Plan X
  loop : Plan X → Plan X
  fork : Plan X → Plan X → Plan X
  abort : Plan X → Plan X → Plan X
