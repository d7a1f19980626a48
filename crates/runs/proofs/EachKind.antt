-- The joined weights of each kind of plan, from those of its pieces.
use Rattle.std.proofs.Common.{◌≡◌, ℕ, zero, suc, Bool, true, ◌≢◌, ◌↔◌, List, [], ◌∷◌, length, Some, None, sym, refl, ap, ◌∙◌, subst, arith}
use Rattle.algebra.specs.Model.{Model, Laws}
use Rattle.algebra.specs.Coefficients.{Coef, join, add}
use Rattle.runs.specs.Plan.{Arc, Plan, node, pause, table, choice, sequence, loop, fork, abort}
use Rattle.runs.specs.Runs.{paused, left, Ticks, Runs}
use Rattle.runs.specs.Joined.{Joined}
use Rattle.runs.specs.Weights.{weight_at, Weighs, JoinedWeight, JoinedRows}
use Rattle.runs.specs.Computes.{never, at_first, at_second}
use Rattle.runs.proofs.Filled.{filled}
use Rattle.runs.proofs.Joined.{empty, one}
use Rattle.runs.proofs.Forms.{Reached, table_row, tied_row, sequence_pauses, Starts, fork_pauses, fork_leaves, abort_leaves}
use Rattle.runs.proofs.Weights.{Row, either_row}
use Rattle.runs.proofs.Tied.{tied}
use Rattle.runs.proofs.Loop.{looped_pauses, looped_leaves}
use Rattle.runs.proofs.Fork.{forked_pauses, forked_leaves}
use Rattle.runs.proofs.Abort.{abreast, aborted_leaves}
use Rattle.runs.proofs.Table.{table_walks}

module _ (m : Model) (laws : Laws m) {X : Type 0} (weigh : X → m.Carrier) where
  -- equal rows are the same plan's
  pub same_rows : {plan : Plan X} {p e p' e' : ℕ → Coef m} → JoinedRows m weigh plan p e → ((n : ℕ) → p n ≡ p' n) → ((n : ℕ) → e n ≡ e' n)
      → JoinedRows m weigh plan p' e'
  same_rows {plan} r p e = record {
    pauses = λ n. subst (JoinedWeight m weigh plan paused n) (p n) (r.pauses n);
    leaves = λ n. subst (JoinedWeight m weigh plan left n) (e n) (r.leaves n);
  }

  -- a single run, at its last tick
  lone : (us : Ticks X) (n : ℕ) (w : m.Carrier) → length us ≡ suc n → weight_at m weigh us n ≡ w → Joined m (Weighs m weigh (λ ts. ts ≡ us) n) (Some w)
  lone us n w l e =
      one m laws (record { run = us; of_set = refl; long = l; weighs = e })
      (λ v h. sym h.weighs ∙ ap (λ ts. weight_at m weigh ts n) h.of_set ∙ e)

  -- and at any other tick
  elsewhere : (us : Ticks X) (n : ℕ) → length us ≢ suc n → Joined m (Weighs m weigh (λ ts. ts ≡ us) n) None
  elsewhere us n l = empty m laws (λ v h. l (sym (ap length h.of_set) ∙ h.long))

  one_tick : (x : X) → Row m weigh (λ ts. ts ≡ (x ∷ []) ∷ []) (at_first m (weigh x))
  one_tick x zero = lone ((x ∷ []) ∷ []) 0 (weigh x) refl (laws.add_unit (weigh x))
  one_tick x (suc n) = elsewhere ((x ∷ []) ∷ []) (suc n) (omega arith)

  two_ticks : (x : X) → Row m weigh (λ ts. ts ≡ (x ∷ []) ∷ [] ∷ []) (at_second m)
  two_ticks x zero = elsewhere ((x ∷ []) ∷ [] ∷ []) 0 (omega arith)
  two_ticks x (suc zero) = lone ((x ∷ []) ∷ [] ∷ []) 1 m.unit refl refl
  two_ticks x (suc (suc n)) = elsewhere ((x ∷ []) ∷ [] ∷ []) (suc (suc n)) (omega arith)

  pub node_rows : (x : X) → JoinedRows m weigh (node x) (never m) (at_first m (weigh x))
  node_rows x = record { pauses = λ n. empty m laws (λ w h. h.of_set); leaves = one_tick x }

  pub pause_rows : (x : X) → JoinedRows m weigh (pause x) (at_first m (weigh x)) (at_second m)
  pause_rows x = record { pauses = one_tick x; leaves = two_ticks x }

  pub table_rows : (arcs : List (Arc X)) (R : ℕ → ℕ → Bool) → ((n s : ℕ) → (R n s ≡ true) ↔ Reached arcs n s)
      → JoinedRows m weigh (table arcs) (table_row m weigh R arcs paused) (table_row m weigh R arcs left)
  table_rows arcs R tells = record { pauses = table_walks m laws weigh arcs R tells paused; leaves = table_walks m laws weigh arcs R tells left }

  pub loop_rows : {a : Plan X} {p e S : ℕ → Coef m} → JoinedRows m weigh a p e → e 0 ≡ None → Starts m e S → JoinedRows m weigh (loop a) (tied_row m S p) (never m)
  loop_rows {a} r no_instant s = record {
    pauses = looped_pauses m laws weigh (Runs a) (filled a paused) (filled a left) r.pauses r.leaves no_instant s;
    leaves = looped_leaves m laws weigh (Runs a);
  }

  module _ {a b : Plan X} {pa ea pb eb : ℕ → Coef m} (r : JoinedRows m weigh a pa ea) (s : JoinedRows m weigh b pb eb) where
    pub choice_rows : JoinedRows m weigh (choice a b) (λ n. join m (pa n) (pb n)) (λ n. join m (ea n) (eb n))
    choice_rows = record { pauses = either_row m laws weigh r.pauses s.pauses; leaves = either_row m laws weigh r.leaves s.leaves }

    pub sequence_rows : JoinedRows m weigh (sequence a b) (sequence_pauses m pa ea pb) (tied_row m ea eb)
    sequence_rows = record {
      pauses = either_row m laws weigh r.pauses (tied m laws weigh (filled a left) (filled b paused) r.leaves s.pauses);
      leaves = tied m laws weigh (filled a left) (filled b left) r.leaves s.leaves;
    }

    pub fork_rows : JoinedRows m weigh (fork a b) (fork_pauses m pa ea pb eb) (fork_leaves m ea eb)
    fork_rows = record {
      pauses = forked_pauses m laws weigh (Runs a) (Runs b) (filled a left) (filled b left) r.pauses r.leaves s.pauses s.leaves;
      leaves = forked_leaves m laws weigh (Runs a) (Runs b) (filled a left) (filled b left) r.leaves s.leaves;
    }

    -- a over b
    pub abort_rows : JoinedRows m weigh (abort a b) (λ n. add m (pa n) (pb n)) (abort_leaves m pa ea pb eb)
    abort_rows = record {
      pauses = abreast m laws weigh r.pauses s.pauses;
      leaves = aborted_leaves m laws weigh (Runs a) (Runs b) (filled b paused) r.pauses r.leaves s.pauses s.leaves;
    }
