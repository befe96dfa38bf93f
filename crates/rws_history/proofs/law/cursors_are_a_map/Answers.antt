use Rattle.rws_history.proofs.LinkLemmas.{cursor_of-placed, cursor_of-without, each-lowered}
use Rattle.rws_history.proofs.law.cursors_are_a_map.Goals as goal

pub returns : goal.returns
returns c = record { placed = cursor_of-placed; without = cursor_of-without; lowered = each-lowered }
