use Rattle.std.proofs.Common.{sym, subst, refl, inr}
use Rattle.rws_board.specs.declared.event.Event.{Event}
use Rattle.rws_board.specs.declared.event.Event.TheVariants as events
use Rattle.rws_record.specs.Run.{owner}
use Rattle.rws_worker.specs.Standing.{GivesOr}
use Rattle.rws_worker.proofs.TellLemmas.{nobody_hears, ready_as}
use Rattle.rws_worker.proofs.worker.Worker.give.Goals as goal

pub returns-in-LinkReady : goal.returns-in-LinkReady
returns-in-LinkReady c = record {
  advances = λ run w.
      subst (λ (e : Event). GivesOr c.args.config.now run e c.args.self.now c.hear_on.new.self) (sym c.in-LinkReady.is)
      (inr (c.hear_on.ensures.advances run w (events.LinkReady c.in-LinkReady.link)
      (record { begins_none = refl; no_round = λ config. refl; no_reading = λ before. refl })
      (ready_as c.in-LinkReady.link (owner c.in-LinkReady.link run) run)));
}

pub returns-in-End : goal.returns-in-End
returns-in-End c = record {
  advances = λ run w.
      subst (λ (e : Event). GivesOr c.args.config.now run e c.args.self.now c.args.self.now) (sym c.in-End.is)
      (inr (nobody_hears w c.requires.idle events.End (record { begins_none = refl; no_round = λ config. refl; no_reading = λ before. refl }) refl));
}
