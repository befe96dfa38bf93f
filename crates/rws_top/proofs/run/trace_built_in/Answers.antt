use Rattle.rws_config.specs.BuiltIn.{built_in}
use Rattle.rws_top.proofs.EndLemmas.{not_begun}
use Rattle.rws_top.proofs.run.trace_built_in.Goals as goal

pub returns-in-Err : goal.returns-in-Err
returns-in-Err g c =
    not_begun built_in (g.I.Source.left c.args.input.now) (g.I.Source.left c.args.input.now) (g.O.Sink.taken c.args.out.now) _ _
