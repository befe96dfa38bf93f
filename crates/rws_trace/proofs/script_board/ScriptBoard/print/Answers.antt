use Rattle.std.proofs.Common.{refl, arith}
use Rattle.std.proofs.KnownBytes.{Appends-nil}
use Rattle.rws_board.specs.declared.interaction.Interaction.TheVariants.{Took}
use Rattle.rws_trace.specs.Printing.{action_text}
use Rattle.rws_trace.proofs.ScriptCalls.{no_memory_to_print}
use Rattle.rws_trace.proofs.script_board.ScriptBoard.print.Goals as goal

pub returns-in-Err-clause-did : goal.returns-in-Err-clause-did
returns-in-Err-clause-did g c =
    let taken = g.O.Sink.taken c.args.self.now.out.now in
    let faults = g.O.Sink.faults c.args.self.now.out.now in
    record {
      reader = refl;
      input = refl;
      out = refl;
      did = no_memory_to_print c.args.self.now.reader.now (g.I.Source.left c.args.self.now.input.now) taken taken (g.I.Source.faults c.args.self.now.input.now) faults faults
          (Took c.args.action.now) tt (action_text c.args.action.now) refl (omega arith) c.args.self.now.failed (0, Appends-nil taken);
    }
