-- The table of worked cases, each from its pieces by tests that compute.
use Rattle.std.proofs.Common.{refl}
use Rattle.algebra.specs.Models.{worst, best}
use Rattle.rows.specs.Rules.Fork.{fork as fork_rule}
use Rattle.rows.specs.Rules.Loop.{loop as loop_rule}
use Rattle.rows.specs.Rules.Sequence.{sequence as sequence_rule}
use Rattle.rows.specs.Rules.Table.{table as table_rule}
use Rattle.runs.proofs.Rules.Table.{table_computes}
use Rattle.cases.specs.Case.{Works}
use Rattle.cases.specs.Cases.{Cases, node_of, pause_of, beat, two_pauses, turns, side_by_side, one_beside_two, watch_arcs, watch, job, watched_job, either, detour_arcs, detour, best_detour}
use Rattle.cases.proofs.Cycles.{worsts, bests}
use Rattle.cases.proofs.EachKind.{of_loop, of_choice, of_sequence, of_fork, of_abort}
use Rattle.cases.proofs.Leaves.{nodes_stand, pauses_stand}
use Rattle.cases.proofs.Peaks.{peaks}
use Rattle.cases.proofs.Tables.{lead_on}
use Rattle.cases.proofs.Working.{works}

a_beat : Works (loop_rule worst (pause_of 10).rows) 2 (beat 10)
a_beat = works worsts (beat 10) _ 1 refl (refl, refl, refl) refl (of_loop worsts.laws (pauses_stand 10) refl)

four_nine : Works (sequence_rule worst (pause_of 4).rows (pause_of 9).rows) 4 (two_pauses 4 9)
four_nine = works worsts (two_pauses 4 9) _ 3 refl (refl, refl, refl) refl (of_sequence worsts.laws (pauses_stand 4) (pauses_stand 9))

nine_two : Works (sequence_rule worst (pause_of 9).rows (pause_of 2).rows) 4 (two_pauses 9 2)
nine_two = works worsts (two_pauses 9 2) _ 3 refl (refl, refl, refl) refl (of_sequence worsts.laws (pauses_stand 9) (pauses_stand 2))

three_eight : Works (sequence_rule worst (pause_of 3).rows (pause_of 8).rows) 4 (two_pauses 3 8)
three_eight = works worsts (two_pauses 3 8) _ 3 refl (refl, refl, refl) refl (of_sequence worsts.laws (pauses_stand 3) (pauses_stand 8))

four_nine_turns : Works (loop_rule worst (two_pauses 4 9).rows) 3 (turns 4 9)
four_nine_turns = works worsts (turns 4 9) _ 1 refl (refl, refl, refl) refl (of_loop worsts.laws four_nine.stands refl)

nine_two_turns : Works (loop_rule worst (two_pauses 9 2).rows) 3 (turns 9 2)
nine_two_turns = works worsts (turns 9 2) _ 1 refl (refl, refl, refl) refl (of_loop worsts.laws nine_two.stands refl)

both_turns : Works (fork_rule worst (turns 4 9).rows (turns 9 2).rows) 2 side_by_side
both_turns = works worsts side_by_side _ 0 refl (refl, refl, refl) refl (of_fork worsts.laws four_nine_turns.stands nine_two_turns.stands)

beside : Works (fork_rule worst (pause_of 5).rows (two_pauses 3 8).rows) 4 one_beside_two
beside = works worsts one_beside_two _ 3 refl (refl, refl, refl) refl (of_fork worsts.laws (pauses_stand 5) three_eight.stands)

a_watch : Works (table_rule worst watch_arcs) 1 watch
a_watch = works worsts watch _ 0 refl (refl, refl, refl) refl (table_computes worst watch_arcs (lead_on watch_arcs refl) worsts.laws)

a_job : Works (sequence_rule worst (pause_of 30).rows (node_of 1).rows) 3 job
a_job = works worsts job _ 2 refl (refl, refl, refl) refl (of_sequence worsts.laws (pauses_stand 30) (nodes_stand 1))

pub table : Cases
table = record {
  nodes_stand = nodes_stand;
  node_peaks = peaks (node_of 7) 7 0 (nodes_stand 7) (refl, refl, refl);
  pauses_stand = pauses_stand;
  beat_works = a_beat;
  four_nine_works = four_nine;
  nine_two_works = nine_two;
  three_eight_works = three_eight;
  four_nine_turns_work = four_nine_turns;
  nine_two_turns_work = nine_two_turns;
  side_by_side_works = both_turns;
  side_by_side_peaks = peaks side_by_side 13 0 both_turns.stands (refl, refl, refl);
  one_beside_two_works = beside;
  watch_works = a_watch;
  job_works = a_job;
  watched_job_works = works worsts watched_job _ 2 refl (refl, refl, refl) refl (of_abort worsts.laws a_watch.stands a_job.stands);
  either_works = works worsts either _ 2 refl (refl, refl, refl) refl (of_choice worsts.laws (pauses_stand 10) (nodes_stand 40));
  detour_works = works worsts detour _ 0 refl (refl, refl, refl) refl (table_computes worst detour_arcs (lead_on detour_arcs refl) worsts.laws);
  best_detour_works = works bests best_detour _ 0 refl (refl, refl, refl) refl (table_computes best detour_arcs (lead_on detour_arcs refl) bests.laws);
}
