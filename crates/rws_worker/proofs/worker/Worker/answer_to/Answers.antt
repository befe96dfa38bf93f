use Rattle.std.proofs.Common.{◌+◌, ◌-◌, ◌^◌, ap, min, refl}
use Rattle.rws_worker.specs.declared.worker.Worker.{Worker}
use Rattle.rws_worker.proofs.AnswerLemmas.{answers_session, fails_session}
use Rattle.rws_worker.proofs.worker.Worker.answer_to.Goals as goal

pub returns-in-Ok : goal.returns-in-Ok
returns-in-Ok g c = record {
  advances = λ run w asks known.
      answers_session w c.args.session asks c.args.words.now c.loads-loads.result known (c.loads-loads.ensures c.args.config.now run w)
      _ c.count_out.new.self refl c.count_out.ensures.rest c.count_out.ensures.counts
      (min (c.count_out.new.self.last_link + 1) (2 ^ 64 - 1)) (ap (λ (v : Worker). min (v.last_link + 1) (2 ^ 64 - 1)) c.count_out.ensures.rest) c.respond.new.self c.start-end.new.self c.settle.new.self
      c.in-Ok.ensures.ok c.in-Ok.ensures.rest c.start-end.result c.start-end.ensures.goes c.start-end.ensures.rest c.settle.ensures.finishes;
}

pub returns-in-Err : goal.returns-in-Err
returns-in-Err g c = record {
  advances = λ run w asks known.
      fails_session w c.args.session asks c.args.words.now c.loads-loads.result known (c.loads-loads.ensures c.args.config.now run w)
      _ c.count_out.new.self refl c.count_out.ensures.rest c.count_out.ensures.counts
      (min (c.count_out.new.self.last_link + 1) (2 ^ 64 - 1)) (ap (λ (v : Worker). min (v.last_link + 1) (2 ^ 64 - 1)) c.count_out.ensures.rest) c.respond.new.self c.settle-in-Err.new.self
      c.in-Err.ensures.err c.in-Err.ensures.rest c.settle-in-Err.ensures.finishes;
}
