use Rattle.std.proofs.Common.{length}
use Rattle.rws_board.proofs.file_list.+first_at.Given as goal

abbrev pub decreases-first_at : goal.decreases-first_at
decreases-first_at l = length l.files.now
