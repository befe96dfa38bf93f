use Rattle.rws_trace.proofs.ReadsLemmas.{passes-line}
use Rattle.rws_trace.proofs.place.Place.pass.Goals as goal

pub returns-in-Line-clause-told : goal.returns-in-Line-clause-told
returns-in-Line-clause-told c =
    passes-line c.pass_line.result c.args.found c.args.self.now c.pass_line.new.self c.args.line.now c.in-Line.is c.pass_line.ensures.told
