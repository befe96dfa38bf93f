use Rattle.rws_trace.proofs.ScriptBoardLemmas.{then_gave}
use Rattle.rws_trace.proofs.script_board.ScriptBoardBoard.next.Goals as goal

pub returns-clause-did : goal.returns-clause-did
returns-clause-did g c = λ start before first.
    then_gave g.I.Source.left g.I.Source.faults g.O.Sink.taken g.O.Sink.faults start c.args.self.now c.read.new.self before c.read.result c.read.ensures.did first
