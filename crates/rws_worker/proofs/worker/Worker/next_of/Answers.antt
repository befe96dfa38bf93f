use Rattle.std.proofs.Common.{sym}
use Rattle.rws_session.specs.Kept.{Kept}
use Rattle.rws_worker.proofs.MapLemmas.{written}
use Rattle.rws_worker.proofs.StandLemmas.{fetched_same, stands_fetching}
use Rattle.rws_worker.proofs.worker.Worker.next_of.Goals as goal

pub returns-in-Some-clause-stands : goal.returns-in-Some-clause-stands
returns-in-Some-clause-stands c = λ config run going w.
    let kept : Kept = c.in-Some.told.now in
    let kept' : Kept = c.next_out.new.self in
    let sessions = c.get_mut.follows.lender kept' in
    let same = fetched_same kept kept' c.next_out.result c.next_out.ensures.fetched in
    stands_fetching w c.args.session kept kept' going (sym c.in-Some.ensures.value) same.0 same.1 sessions
    (written c.args.self.now.sessions sessions c.args.session kept kept' c.in-Some.ensures.value (c.get_mut.follows.holds kept'))
