use Rattle.rws_board.specs.declared.interaction.Interaction.TheVariants.{Took}
use Rattle.rws_trace.proofs.ScriptBoardLemmas.{then_took}
use Rattle.rws_trace.proofs.script_board.ScriptBoardBoard.act.Goals as goal

pub returns-clause-did : goal.returns-clause-did
returns-clause-did g c = λ start before first.
    then_took g.I.Source.left g.I.Source.faults g.O.Sink.taken g.O.Sink.faults start c.args.self.now c.print.new.self before (Took c.args.action) c.print.result c.print.ensures.did first
