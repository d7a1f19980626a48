use Rattle.program.proofs.Readings.{one_reading, round_trip, file_round_trip}
use Rattle.program.proofs.roundtrip.format_stands.Goals as goal

pub returns : goal.returns
returns c = record { one = one_reading; back = round_trip; files = file_round_trip }
