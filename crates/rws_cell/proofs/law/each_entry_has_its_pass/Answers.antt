use Rattle.rws_cell.proofs.Together.{joined_of, seen_of, some_owns}
use Rattle.rws_cell.proofs.law.each_entry_has_its_pass.Goals as goal

pub returns-clause-joined : goal.returns-clause-joined
returns-clause-joined c = joined_of

pub returns-clause-seen : goal.returns-clause-seen
returns-clause-seen c = seen_of

pub returns-clause-numbers : goal.returns-clause-numbers
returns-clause-numbers c = some_owns
