use Rattle.rws_top.proofs.AskingLemmas.{unput}
use Rattle.rws_top.proofs.settings.print_refusal.Goals as goal

pub returns-in-Err : goal.returns-in-Err
returns-in-Err g c = unput c.args.line.now c.as_slice.result.now 3 _ _ _ c.as_slice.ensures c.in-Err.ensures.bytes c.in-Err.ensures.failed
