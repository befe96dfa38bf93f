use Rattle.rws_board.specs.declared.interaction.Interaction.TheVariants.{Told}
use Rattle.rws_trace.proofs.ScriptBoardLemmas.{then_took}
use Rattle.rws_trace.proofs.script_board.ScriptBoardBoard.tell.Goals as goal

pub returns-clause-did : goal.returns-clause-did
returns-clause-did g c = λ start before first.
    then_took g.I.Source.left g.I.Source.faults g.O.Sink.taken g.O.Sink.faults start c.args.self.now c.print_call.new.self before (Told c.args.call.now) c.print_call.result c.print_call.ensures.did first
