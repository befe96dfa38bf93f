use Rattle.std.proofs.Common.{length}
use Rattle.rws_commands.proofs.statements.entries.+has_serial.Given as goal

abbrev pub decreases-has_serial : goal.decreases-has_serial
decreases-has_serial l = length l.entries.now
