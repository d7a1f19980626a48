-- What calls by ticket give, and the replies that histories have of them.
use Rattle.std.specs.Prelude.{◌≡◌, ℕ, Ok, Err, Result, IfOk, MatchResult}
use Rattle.algebra.specs.Model.{Model}
use Rattle.shelves.specs.declared.call.Pairing.{Pairing}
use Rattle.shelves.specs.declared.core_state.Core.{Core}
use Rattle.shelves.specs.declared.refusal.Refusal.{Refusal}
use Rattle.shelves.specs.Calls.{Call, pair, Reply, accepted, refused}
use Rattle.shelves.specs.Cores.{CoreAnswers}
use Rattle.shelves.specs.Filling.{IsFilled}
use Rattle.shelves.specs.Held.{state_of}
use Rattle.shelves.specs.State.{State}
use Rattle.tickets.specs.declared.ticket.Back.{Back}
use Rattle.tickets.specs.declared.ticket.BothBack.{BothBack}
use Rattle.tickets.specs.declared.ticket.Built.{Built}
use Rattle.tickets.specs.declared.ticket.Ticket.{Ticket}

-- the ticket names a filled shelf
abbrev pub Names : {m : Model} → State m → Ticket → Type 0
Names s ticket = IsFilled s ticket.shelf

-- the reply of a leaf, as a history has it
abbrev pub leaf_reply : (m : Model) → Result Built Refusal → Reply m
leaf_reply m (Ok built) = accepted built.number
leaf_reply m (Err found) = refused found

-- of a loop
abbrev pub loop_reply : (m : Model) → Result Built Back → Reply m
loop_reply m (Ok built) = accepted built.number
loop_reply m (Err back) = refused back.why

-- of clear
abbrev pub clear_reply : (m : Model) → Result ℕ Back → Reply m
clear_reply m (Ok number) = accepted number
clear_reply m (Err back) = refused back.why

-- of a call that puts two shelves together
abbrev pub pair_reply : (m : Model) → Result Built BothBack → Reply m
pair_reply m (Ok built) = accepted built.number
pair_reply m (Err back) = refused back.why

module _ (m : Model) {V : Type 0} (means : V → m.Carrier) where
  -- the ticket names a filled shelf of what a rack holds
  abbrev pub NamesIn : Core V → Ticket → Type 0
  NamesIn core ticket = Names (state_of m means core) ticket

  -- what a leaf's call gives: its answer, and where it is accepted a ticket that names the leaf's filled shelf
  pub record LeafGives (call : Call) (shelf : ℕ) (result : Result Built Refusal) (before after : Core V) : Type 0 where
    pub answers : CoreAnswers m means call (leaf_reply m result) before after
    pub ticket : IfOk result (λ built. built.ticket.shelf ≡ shelf)
    pub names : IfOk result (λ built. NamesIn after built.ticket)

  -- what a call that puts two tickets together gives: its answer, and the first, which then names the filled shelf, or both back
  pub record PairGives (kind : Pairing) (first second : Ticket) (result : Result Built BothBack) (before after : Core V) : Type 0 where
    pub answers : CoreAnswers m means (pair kind first.shelf second.shelf) (pair_reply m result) before after
    pub ticket : MatchResult result (λ built. built.ticket ≡ first) (λ back. (back.first ≡ first) × (back.second ≡ second))
    pub names : IfOk result (λ built. NamesIn after built.ticket)
