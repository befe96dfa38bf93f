use Rattle.std.proofs.Common.{ap}
use Rattle.rws_record.specs.Values.{links}
use Rattle.rws_session.specs.State.{State}
use Rattle.rws_links.proofs.DistinctLemmas.{links_distinct}
use Rattle.rws_session.proofs.TryLemmas.{read_nothing, read_one}
use Rattle.rws_session.proofs.session.Session.read_links.Goals as goal

pub returns-in-None-clause-ok : goal.returns-in-None-clause-ok
returns-in-None-clause-ok c = λ past is o.
    read_nothing c.args.config.now past c.args.self.now c.next_coming.new.self is c.in_ok-next_coming.ensures.rest
    (rw c.in-None.is at (c.in_ok-next_coming.ensures.reads past (links past) (ap (λ (s : State). s.links) is.mirrors)
    (links_distinct is.legal)))

pub returns-in_ok-take_coming-in-Some-clause-ok : goal.returns-in_ok-take_coming-in-Some-clause-ok
returns-in_ok-take_coming-in-Some-clause-ok c = λ past is o.
    read_one c.args.config.now past c.args.self.now c.next_coming.new.self c.take_coming.new.self c.in-Some.coming is o
    c.in_ok-next_coming.ensures.rest
    (rw c.in-Some.is at (c.in_ok-next_coming.ensures.reads past (links past) (ap (λ (s : State). s.links) is.mirrors)
    (links_distinct is.legal)))
    c.in_ok-take_coming-in-Some.ensures.ok
