use Rattle.rws_trace.specs.Printing.{usage_line}
use Rattle.rws_top.proofs.AskingLemmas.{unput}
use Rattle.rws_top.proofs.run.print_usage.Goals as goal

pub returns-in-Err : goal.returns-in-Err
returns-in-Err g c =
    unput usage_line c.usage_line.result.now c.args.status _ _ _ c.usage_line.ensures c.in-Err.ensures.bytes c.in-Err.ensures.failed
