use Rattle.std.proofs.Common.{refl, arith}
use Rattle.rws_trace.proofs.ScriptCalls.{took, output_failed}
use Rattle.rws_trace.proofs.script_board.ScriptBoard.put.Goals as goal

pub returns-in-Ok-clause-did : goal.returns-in-Ok-clause-did
returns-in-Ok-clause-did g c = λ handed is line.
    let printed = rw c.as_slice.ensures at c.in-Ok.ensures.bytes in
    record {
      reader = refl;
      input = refl;
      out = refl;
      did = took c.args.self.now.reader.now (g.I.Source.left c.args.self.now.input.now) (g.O.Sink.taken c.args.self.now.out.now) (g.O.Sink.taken c.put.new.self)
          (g.I.Source.faults c.args.self.now.input.now) (g.O.Sink.faults c.args.self.now.out.now) (g.O.Sink.faults c.put.new.self)
          handed is c.args.line.now line c.in-Ok.ensures.counts c.args.self.now.failed printed;
    }

pub returns-in-Err-clause-did : goal.returns-in-Err-clause-did
returns-in-Err-clause-did g c = λ handed is line.
    let front = rw c.as_slice.ensures at c.in-Err.ensures.bytes in
    record {
      reader = refl;
      input = refl;
      out = refl;
      did = output_failed c.args.self.now.reader.now (g.I.Source.left c.args.self.now.input.now) (g.O.Sink.taken c.args.self.now.out.now) (g.O.Sink.taken c.put.new.self)
          (g.I.Source.faults c.args.self.now.input.now) (g.O.Sink.faults c.args.self.now.out.now) (g.O.Sink.faults c.put.new.self)
          handed is c.args.line.now line c.in-Err.ensures.counts c.args.self.now.failed c.in-Err.ensures.failed front;
    }
