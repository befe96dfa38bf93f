use Rattle.std.proofs.Common.{length}
use Rattle.rws_commands.proofs.statements.taking.+client_bytes.Given as goal

abbrev pub decreases-client_bytes : goal.decreases-client_bytes
decreases-client_bytes l = length l.commands.now
