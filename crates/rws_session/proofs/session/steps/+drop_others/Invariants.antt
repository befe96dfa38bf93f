use Rattle.std.proofs.Common.{length}
use Rattle.rws_session.proofs.session.steps.+drop_others.Given as goal

abbrev pub decreases-drop_others : goal.decreases-drop_others
decreases-drop_others l = length l.links.now
