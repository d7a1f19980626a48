-- The worked cases: small plans, and what they come to.
use Rattle.std.specs.Prelude.{ℕ, List, [], ◌∷◌, Some, None, Option, slice_index_or}
use Rattle.std.specs.Option.{option_map}
use Rattle.algebra.specs.declared.arc.Arc.{Arc}
use Rattle.algebra.specs.declared.label.Label.{Label}
use Rattle.algebra.specs.Held.{Held, held}
use Rattle.algebra.specs.Models.{top, worst, best}
use Rattle.rows.specs.Pieces.{Rows}
use Rattle.rows.specs.Rules.Abort.{abort as abort_rule}
use Rattle.rows.specs.Rules.Choice.{choice as choice_rule}
use Rattle.rows.specs.Rules.Fork.{fork as fork_rule}
use Rattle.rows.specs.Rules.Loop.{loop as loop_rule}
use Rattle.rows.specs.Rules.Sequence.{sequence as sequence_rule}
use Rattle.rows.specs.Rules.Table.{table as table_rule}
use Rattle.runs.specs.Arcs.{plan_arcs}
use Rattle.runs.specs.Plan.{node, pause, table, choice, sequence, loop, fork, abort}
use Rattle.cases.specs.Case.{Case, Stands, Works, Peaks}

-- a label of c cycles and no port
abbrev pub cost : ℕ → Label
cost c = record { cycles = c; ports = 0 }

-- an arc of c cycles; 255 is out
abbrev pub arc : (from to c : ℕ) → Arc
arc from to c = record { from = from; to = to; label = cost c }

-- a row by its phases in cycles, absent past the list
abbrev pub listed : List (Option ℕ) → ℕ → Option (Held top)
listed cs k = option_map (held top) (slice_index_or cs k None)

-- rows under worst: the transient, the period, pause and exit
abbrev pub shaped : (transient period : ℕ) (p e : List (Option ℕ)) → Rows worst
shaped transient period p e = record { transient = transient; period = period; p = listed p; e = listed e }

-- a node of x cycles
abbrev pub node_of : ℕ → Case worst
node_of x = record { plan = node (cost x); rows = shaped 1 1 [] (Some x ∷ []) }

-- a pause of x cycles
abbrev pub pause_of : ℕ → Case worst
pause_of x = record { plan = pause (cost x); rows = shaped 2 1 (Some x ∷ []) (None ∷ Some 0 ∷ []) }

-- a pause of x cycles, again and again
abbrev pub beat : ℕ → Case worst
beat x = record { plan = loop (pause_of x).plan; rows = shaped 0 1 (Some x ∷ []) [] }

-- a pause of x cycles, then one of y
abbrev pub two_pauses : (x y : ℕ) → Case worst
two_pauses x y = record { plan = sequence (pause_of x).plan (pause_of y).plan; rows = shaped 3 1 (Some x ∷ Some y ∷ []) (None ∷ None ∷ Some 0 ∷ []) }

-- the two in turn, again and again
abbrev pub turns : (x y : ℕ) → Case worst
turns x y = record { plan = loop (two_pauses x y).plan; rows = shaped 0 2 (Some x ∷ Some y ∷ []) [] }

-- two loops side by side, whose long ticks never meet
abbrev pub side_by_side : Case worst
side_by_side = record { plan = fork (turns 4 9).plan (turns 9 2).plan; rows = shaped 0 2 (Some 13 ∷ Some 11 ∷ []) [] }

-- a pause beside two: it has left at tick 1, and the fork leaves with the other at tick 2
abbrev pub one_beside_two : Case worst
one_beside_two = record { plan = fork (pause_of 5).plan (two_pauses 3 8).plan; rows = shaped 3 1 (Some 8 ∷ Some 8 ∷ []) (None ∷ None ∷ Some 0 ∷ []) }

-- a table that goes back to state 0 or leads out
abbrev pub watch_arcs : List Arc
watch_arcs = arc 0 0 6 ∷ arc 0 255 20 ∷ []

abbrev pub watch : Case worst
watch = record { plan = table (plan_arcs watch_arcs); rows = shaped 0 1 (Some 6 ∷ []) (Some 20 ∷ []) }

-- a pause, then a node
abbrev pub job : Case worst
job = record { plan = sequence (pause_of 30).plan (node_of 1).plan; rows = shaped 2 1 (Some 30 ∷ []) (None ∷ Some 1 ∷ []) }

-- the watch over the job: it goes on beside it, and cuts it short where it leads out
abbrev pub watched_job : Case worst
watched_job = record { plan = abort watch.plan job.plan; rows = shaped 2 1 (Some 36 ∷ []) (Some 20 ∷ Some 20 ∷ []) }

-- a pause or a node
abbrev pub either : Case worst
either = record { plan = choice (pause_of 10).plan (node_of 40).plan; rows = shaped 2 1 (Some 10 ∷ []) (Some 40 ∷ Some 0 ∷ []) }

-- a table from state 0 by 1 or 2 and back, under worst and under best
abbrev pub detour_arcs : List Arc
detour_arcs = arc 0 1 5 ∷ arc 0 2 8 ∷ arc 1 0 3 ∷ arc 2 0 1 ∷ []

abbrev pub detour : Case worst
detour = record { plan = table (plan_arcs detour_arcs); rows = shaped 0 2 (Some 8 ∷ Some 3 ∷ []) [] }

abbrev pub best_detour : Case best
best_detour = record { plan = table (plan_arcs detour_arcs); rows = record { transient = 0; period = 2; p = listed (Some 5 ∷ Some 1 ∷ []); e = listed [] } }

-- the table: each composed case with the rule of its kind over the rows of its pieces, and the reply
pub record Cases : Type 0 where
  pub nodes_stand : (x : ℕ) → Stands (node_of x)
  pub node_peaks : Peaks (node_of 7) 7 0
  pub pauses_stand : (x : ℕ) → Stands (pause_of x)
  pub beat_works : Works (loop_rule worst (pause_of 10).rows) 2 (beat 10)
  pub four_nine_works : Works (sequence_rule worst (pause_of 4).rows (pause_of 9).rows) 4 (two_pauses 4 9)
  pub nine_two_works : Works (sequence_rule worst (pause_of 9).rows (pause_of 2).rows) 4 (two_pauses 9 2)
  pub three_eight_works : Works (sequence_rule worst (pause_of 3).rows (pause_of 8).rows) 4 (two_pauses 3 8)
  pub four_nine_turns_work : Works (loop_rule worst (two_pauses 4 9).rows) 3 (turns 4 9)
  pub nine_two_turns_work : Works (loop_rule worst (two_pauses 9 2).rows) 3 (turns 9 2)
  pub side_by_side_works : Works (fork_rule worst (turns 4 9).rows (turns 9 2).rows) 2 side_by_side
  pub side_by_side_peaks : Peaks side_by_side 13 0
  pub one_beside_two_works : Works (fork_rule worst (pause_of 5).rows (two_pauses 3 8).rows) 4 one_beside_two
  pub watch_works : Works (table_rule worst watch_arcs) 1 watch
  pub job_works : Works (sequence_rule worst (pause_of 30).rows (node_of 1).rows) 3 job
  pub watched_job_works : Works (abort_rule worst watch.rows job.rows) 3 watched_job
  pub either_works : Works (choice_rule worst (pause_of 10).rows (node_of 40).rows) 3 either
  pub detour_works : Works (table_rule worst detour_arcs) 2 detour
  pub best_detour_works : Works (table_rule best detour_arcs) 2 best_detour
