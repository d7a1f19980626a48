-- What a report tells, from what it holds.
use Rattle.std.specs.Prelude.{Ok, Err, Result}
use Rattle.std.specs.Option.{option_map}
use Rattle.algebra.specs.Model.{Model}
use Rattle.rows.specs.Pieces.{Rows, given as rows_given}
use Rattle.shelves.specs.declared.refusal.Refusal.{Refusal}
use Rattle.shelves.specs.declared.report.Report.{Report as Made}
use Rattle.shelves.specs.declared.reply.Answer.{Answer}
use Rattle.shelves.specs.declared.reply.Answer.TheVariants as answer
use Rattle.shelves.specs.declared.telling.Shown.{Shown}
use Rattle.shelves.specs.Calls.{Report, Reply, accepted, reported, refused}

-- the rows that a piece gives of the cells that keep it
abbrev pub given : (m : Model) {V : Type 0} → (V → m.Carrier) → Shown V → Rows m
given m means of = rows_given m means of.kept of.piece

-- the figure by its meaning, and the rest as it is
abbrev pub report_of : (m : Model) {V : Type 0} → (V → m.Carrier) → Made V → Report m
report_of m means r = record {
  figure = option_map means r.figure;
  tick = r.tick;
  transient = r.transient;
  period = r.period;
}

-- a reply as a history has it
abbrev pub reply_of : (m : Model) {V : Type 0} → (V → m.Carrier) → Result (Answer V) Refusal → Reply m
reply_of m means (Ok (answer.Accepted n)) = accepted n
reply_of m means (Ok (answer.Reported r)) = reported (report_of m means r)
reply_of m means (Err found) = refused found

-- the answer of a report alone, as a history has it
abbrev pub shown : (m : Model) {V : Type 0} → (V → m.Carrier) → Result (Made V) Refusal → Reply m
shown m means (Ok r) = reported (report_of m means r)
shown m means (Err found) = refused found
