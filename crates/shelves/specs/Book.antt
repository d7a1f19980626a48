-- The book: a page for each shelf, kept beside a rack from the events alone.
use Rattle.std.specs.Prelude.{ℕ, cond, List, [], ◌∷◌, Some, None, Option, ◌==◌}
use Rattle.std.specs.Option.{option_map}
use Rattle.algebra.specs.declared.label.Label.{Label}
use Rattle.algebra.specs.Model.{Model}
use Rattle.runs.specs.Arcs.{plan_arcs}
use Rattle.runs.specs.Plan as plan
use Rattle.runs.specs.Plan.{Plan}
use Rattle.shelves.specs.declared.call.Pairing.{Pairing}
use Rattle.shelves.specs.declared.call.Pairing.TheVariants.{Choice, Sequence, Fork, Abort}
use Rattle.shelves.specs.Calls.{Call, node, pause, table, pair, loop, clear, report, Reply, accepted, reported, refused, Event}

-- what each page holds: a plan, or nothing
abbrev pub Pages : Type 0
Pages = ℕ → Option (Plan Label)

-- the pages with page k holding this
abbrev pub with_page : Pages → ℕ → Option (Plan Label) → Pages
with_page pages k page j = cond (j == k) page (pages j)

abbrev pub pair_plan : Pairing → Plan Label → Plan Label → Plan Label
pair_plan Choice a b = plan.choice a b
pair_plan Sequence a b = plan.sequence a b
pair_plan Fork a b = plan.fork a b
pair_plan Abort a b = plan.abort a b

-- the kind over both plans, in the order named
abbrev pub over_both : Pairing → Option (Plan Label) → Option (Plan Label) → Option (Plan Label)
over_both kind (Some a) (Some b) = Some (pair_plan kind a b)
over_both kind (Some a) None = None
over_both kind None b = None

-- what an accepted call enters
abbrev pub entered : Call → Pages → Pages
entered (node k l) pages = with_page pages k (Some (plan.node l))
entered (pause k l) pages = with_page pages k (Some (plan.pause l))
entered (table k arcs) pages = with_page pages k (Some (plan.table (plan_arcs arcs)))
entered (pair kind a b) pages = with_page (with_page pages a (over_both kind (pages a) (pages b))) b None
entered (loop k) pages = with_page pages k (option_map plan.loop (pages k))
entered (clear k) pages = with_page pages k None
entered (report k) pages = pages

-- refused calls and reports change nothing
abbrev pub noted : {m : Model} → Call → Reply m → Pages → Pages
noted c (accepted n) pages = entered c pages
noted c (reported r) pages = pages
noted c (refused r) pages = pages

-- the book of a history, the newest event first
abbrev pub book : {m : Model} → List (Event m) → Pages
book [] k = None
book (e ∷ h) k = noted e.call e.reply (book h) k
