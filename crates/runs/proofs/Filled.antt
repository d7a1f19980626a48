-- Every run has a tick.
use Rattle.std.proofs.Common.{ℕ, zero, suc, ◌<◌, length, ap, inl, inr, arith}
use Rattle.runs.specs.Plan.{Plan, node, pause, table, choice, sequence, loop, fork, abort}
use Rattle.runs.specs.Runs.{End, paused, left, Ticks, Tied, chained, Abreast, Runs}
use Rattle.runs.proofs.Ticks.{over_length, tie_length}

module _ {X : Type 0} where
  abbrev pub Filled : (Ticks X → Type 0) → Type 0
  Filled A = (ts : Ticks X) → A ts → 0 < length ts

  pub tied_filled : {A B : Ticks X → Type 0} → Filled A → Filled B → Filled (Tied A B)
  tied_filled a b ts t =
      let p = a t.first t.of_first in
      let q = b t.second t.of_second in
      omega (arith, ap length t.made, tie_length t.first t.second p q)

  pub chained_filled : {A : Ticks X → Type 0} → Filled A → (k : ℕ) → Filled (chained A k)
  chained_filled a zero = a
  chained_filled a (suc k) = tied_filled (chained_filled a k) a

  abreast_filled : {A B : Ticks X → Type 0} → Filled A → Filled (Abreast A B)
  abreast_filled a ts t = omega (arith, ap length t.made, over_length t.first t.second, a t.first t.of_first)

  pub filled : (plan : Plan X) (e : End) → Filled (Runs plan e)
  filled (node x) paused ts h = absurd h
  filled (node x) left ts h = omega (arith, ap length h)
  filled (pause x) paused ts h = omega (arith, ap length h)
  filled (pause x) left ts h = omega (arith, ap length h)
  filled (table arcs) e ts h = h.0
  filled (choice a b) e ts (inl h) = filled a e ts h
  filled (choice a b) e ts (inr h) = filled b e ts h
  filled (sequence a b) paused ts (inl h) = filled a paused ts h
  filled (sequence a b) paused ts (inr h) = tied_filled (filled a left) (filled b paused) ts h
  filled (sequence a b) left ts h = tied_filled (filled a left) (filled b left) ts h
  filled (loop a) paused ts (inl h) = filled a paused ts h
  filled (loop a) paused ts (inr h) = tied_filled (chained_filled (filled a left) h.0) (filled a paused) ts h.1
  filled (loop a) left ts h = absurd h
  filled (fork a b) e ts h =
      omega (arith, ap length h.made, over_length h.first h.second, filled a h.first_end h.first h.of_first)
  filled (abort h a) paused ts k = abreast_filled (filled h paused) ts k
  filled (abort h a) left ts (inl k) = filled h left ts k.0
  filled (abort h a) left ts (inr (inl k)) =
      omega (arith, ap length k.made, over_length k.first k.second, k.later)
  filled (abort h a) left ts (inr (inr k)) = abreast_filled (filled h paused) ts k
