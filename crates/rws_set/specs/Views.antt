-- The program's targets, by their names in lower case.
use Rattle.rws_set.specs.Targets.{Target, lower}
use Rattle.rws_set.specs.declared.target.Target as declared

abbrev pub target_of : declared.Target → Target
target_of target = record { variable = target.variable; name = lower target.name.now }
