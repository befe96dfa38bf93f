use Rattle.std.proofs.Common.{refl}
use Rattle.rws_record.specs.Item.Item.{TurnsAway}
use Rattle.rws_worker.proofs.worker.Worker.turn_away.Goals as goal

pub returns : goal.returns
returns c = record {
  advances = λ run event begins. c.begin_without.ensures.advances run event (TurnsAway c.args.told) begins (tt, refl) c.turn_away-made.ensures;
}
