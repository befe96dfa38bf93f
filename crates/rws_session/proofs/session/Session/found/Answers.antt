use Rattle.std.proofs.Common.{◌<◌, subst, sym}
use Rattle.rws_route.specs.declared.destination.Target.{Target}
use Rattle.rws_routing.specs.Routings.{server_in}
use Rattle.rws_session.proofs.AnswerLemmas.{found_within}
use Rattle.rws_session.proofs.session.Session.found.Goals as goal

pub returns-clause-within : goal.returns-clause-within
returns-clause-within g c =
    subst (λ (t : Target). server_in t < 7) (sym c.by_seven.ensures.found)
    (found_within c.class_by_pending.result c.self.inside.transaction.state.autocommit c.self.inside.routing.sent_back c.args.words.now
    c.args.loads.now c.self.inside.routing.tried c.self.inside.banned c.target-found.result c.by_seven.ensures.seven
    c.target-found.ensures.table)
