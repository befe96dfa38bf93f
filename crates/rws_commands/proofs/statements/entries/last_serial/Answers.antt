use Rattle.std.proofs.Common.{sym}
use Rattle.rws_commands.proofs.EntryLemmas.{last_is}
use Rattle.rws_commands.proofs.statements.entries.last_serial.Goals as goal

pub returns-in-Some : goal.returns-in-Some
returns-in-Some c = sym (last_is c.args.entries.now c.in-Some.entry.now (sym (rw c.in-Some.is at c.last.ensures.value)))
