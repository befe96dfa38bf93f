use Rattle.std.proofs.Common.{arith}
use Rattle.rws_board.specs.Faults.{Rises}
use Rattle.rws_top.proofs.ClosingLemmas.{closed}
use Rattle.rws_top.proofs.trace.trace.Goals as goal

pub returns-in-Closes : goal.returns-in-Closes
returns-in-Closes g c =
    closed c.args.config.now (g.I.Source.left c.args.input.now) (g.I.Source.left c.run_script.new.input) (g.O.Sink.taken c.args.out.now)
    (g.O.Sink.taken c.run_script.new.out) (g.O.Sink.taken c.close.new.out) c.in-Closes.events c.in-Closes.bad_line
    (Rises (g.I.Source.faults c.args.input.now) (g.I.Source.faults c.run_script.new.input))
    (Rises (g.O.Sink.faults c.run_script.new.out) (g.O.Sink.faults c.close.new.out))
    (Rises (g.O.Sink.faults c.args.out.now) (g.O.Sink.faults c.close.new.out))
    (λ (rose : Rises (g.O.Sink.faults c.run_script.new.out) (g.O.Sink.faults c.close.new.out)). let kept = c.in-Closes.ensures.kept in omega arith)
    c.in-Closes.ensures.ends c.close.ensures
