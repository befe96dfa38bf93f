use Rattle.std.proofs.Common.{None, sym, ◌∙◌}
use Rattle.rws_worker.proofs.MapLemmas.{changes}
use Rattle.rws_worker.proofs.StandLemmas.{stands_released}
use Rattle.rws_worker.proofs.worker.Worker.release.Goals as goal

pub returns-then-not-is_held-clause-stands : goal.returns-then-not-is_held-clause-stands
returns-then-not-is_held-clause-stands c = λ config run w.
    stands_released w c.remove.new.self c.args.link (changes c.args.self.now.owners c.remove.new.self c.args.link None c.remove.ensures.updates)
    (λ session o h. sym c.if-not-is_held.true ∙ c.is_held.ensures config run w session o h)
