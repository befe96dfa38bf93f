use Rattle.std.proofs.Common.{ap, ◌∙◌, sym, subst}
use Rattle.rws_worker.specs.declared.worker.Worker.{Worker}
use Rattle.rws_worker.specs.Standing.{WorkerStands}
use Rattle.rws_worker.specs.Stepping.{endings, outs_ahead, routes_by}
use Rattle.rws_worker.proofs.FetchLemmas.{ending_fetches, route_fetches}
use Rattle.rws_worker.proofs.StandLemmas.{none_ahead}
use Rattle.rws_worker.proofs.worker.Worker.next_of_sessions.Goals as goal

pub returns-in-Some-next_route-clause-fetches : goal.returns-in-Some-next_route-clause-fetches
returns-in-Some-next_route-clause-fetches c = λ config run w waits.
    route_fetches c.args.self.now c.next_out.new.self c.next_route.new.self (c.next_out.ensures.stands config run w) c.requires.unobserved
    c.in_default.ensures.out.0 c.in_default.ensures.out.1 c.next_out.ensures.rest c.next_out.ensures.endings waits c.in-Some-next_route.step
    c.in-Some-next_route.ensures.route

pub returns-in-Some-next_ending-clause-fetches : goal.returns-in-Some-next_ending-clause-fetches
returns-in-Some-next_ending-clause-fetches c = λ config run w waits.
    let route = c.in_default-next_route.ensures.route in
    let same = route.1 in
    ending_fetches c.args.self.now c.next_route.new.self c.next_ending.new.self c.requires.unobserved c.in_default.ensures.out.0
    (ap (λ (v : Worker). v.asker) same ∙ ap (λ (v : Worker). v.asker) c.next_out.ensures.rest)
    (ap endings same ∙ c.next_out.ensures.endings) (ap (λ (v : Worker). routes_by v.asker) same ∙ route.0) waits c.in-Some-next_ending.step
    c.in-Some-next_ending.ensures.step
    (c.next_ending.ensures.outs ∙ ap outs_ahead same ∙ c.in_default.ensures.out.1)
    (c.next_ending.ensures.observed ∙ ap (λ (v : Worker). v.observed) same ∙ ap (λ (v : Worker). v.observed) c.next_out.ensures.rest ∙ c.requires.unobserved)
    c.next_ending.ensures.asker

pub returns-clause-stands : goal.returns-clause-stands
returns-clause-stands c = λ config run w.
    let none = c.in_default.ensures.out.1 in
    let mid = c.next_route.ensures.stands config run (c.next_out.ensures.stands config run w) none in
    subst (λ (v : Worker). WorkerStands config v run) (sym c.clear.ensures)
    (none_ahead (c.next_ending.ensures.stands config run mid)
    (c.next_ending.ensures.outs ∙ ap outs_ahead c.in_default-next_route.ensures.route.1 ∙ none))
