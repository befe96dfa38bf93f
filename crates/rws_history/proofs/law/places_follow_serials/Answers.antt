use Rattle.rws_history.proofs.SerialLemmas.{places_follow}
use Rattle.rws_history.proofs.law.places_follow_serials.Goals as goal

pub returns : goal.returns
returns c = places_follow
