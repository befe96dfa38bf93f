use Rattle.std.proofs.Common.{ℕ, ap, ◌∙◌, length, nat_lt}
use Rattle.rws_record.specs.Run.{open_sessions}
use Rattle.rws_worker.proofs.CountLemmas.{as_many}
use Rattle.rws_worker.proofs.worker.Worker.has_room.Goals as goal

pub returns : goal.returns
returns c = λ run b.
    ap (λ (n : ℕ). nat_lt n c.from.result)
    (c.len.ensures.len ∙ as_many c.args.config.now c.args.self.now.sessions run b.legal c.len.ensures.ordered b.seats)
    ∙ ap (λ (n : ℕ). nat_lt (length (open_sessions run)) n) c.from.ensures
