use Rattle.std.proofs.Common.{rules, None}
use Rattle.rws_top.proofs.EndLemmas.{same_board}
use Rattle.rws_top.proofs.trace.work_over.Goals as goal

pub returns : goal.returns
returns g c = record {
  works = same_board g.I.Source.left g.I.Source.faults g.O.Sink.taken g.O.Sink.faults c.args.config.now c.work_on-end.result
      c.new-board.result.reader.now c.args.reader.now c.work_on-end.new.board.reader.now _ c.new-board.result.input.now c.args.input.now c.work_on-end.new.board.input.now _
      c.new-board.result.out.now c.args.out.now c.work_on-end.new.board.out.now _ c.new-board.result.failed None c.work_on-end.new.board.failed _
      c.new-board.ensures.reader_lent.1 c.new-board.ensures.input_lent.1 c.new-board.ensures.out_lent.1 c.new-board.ensures.starts
      (search rules) (search rules) (search rules) (search rules) c.work_on-end.ensures.works;
}
