use Rattle.std.proofs.Common.{refl, ap, Ok}
use Rattle.rws_trace.proofs.ScriptCalls.{gave, no_memory_to_read}
use Rattle.rws_trace.proofs.script_board.ScriptBoard.read.Goals as goal

pub returns-in-Ok-clause-did : goal.returns-in-Ok-clause-did
returns-in-Ok-clause-did g c = record {
  reader = refl;
  input = refl;
  out = refl;
  did = gave c.args.self.now.reader.now c.next.new.self (g.I.Source.left c.args.self.now.input.now) (g.I.Source.left c.next.new.input) (g.O.Sink.taken c.args.self.now.out.now)
      (g.I.Source.faults c.args.self.now.input.now) (g.I.Source.faults c.next.new.input) (g.O.Sink.faults c.args.self.now.out.now) c.in-Ok.ensures.counts
      c.in-Ok.event c.args.self.now.failed c.in-Ok.ensures.told c.in-Ok.ensures.events (λ is going. c.in-Ok.ensures.end (ap Ok is) going);
}

pub returns-in-Err-OutOfMemory-clause-did : goal.returns-in-Err-OutOfMemory-clause-did
returns-in-Err-OutOfMemory-clause-did g c = record {
  reader = refl;
  input = refl;
  out = refl;
  did = no_memory_to_read c.args.self.now.reader.now c.next.new.self (g.I.Source.left c.args.self.now.input.now) (g.I.Source.left c.next.new.input) (g.O.Sink.taken c.args.self.now.out.now)
      (g.I.Source.faults c.args.self.now.input.now) (g.I.Source.faults c.next.new.input) (g.O.Sink.faults c.args.self.now.out.now) c.in-Err-OutOfMemory.ensures.counts
      c.args.self.now.failed c.in-Err-OutOfMemory.ensures.err;
}
