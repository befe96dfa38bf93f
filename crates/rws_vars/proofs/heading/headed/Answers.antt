use Rattle.rws_vars.specs.Assignments.{headings}
use Rattle.rws_vars.proofs.heading.headed.Goals as goal

-- the program's table is the list of headings
pub returns : goal.returns
unfolding headings
returns c = c.headed_by.ensures
