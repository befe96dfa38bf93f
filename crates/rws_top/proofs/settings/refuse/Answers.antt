use Rattle.std.proofs.Common.{sym}
use Rattle.rws_top.proofs.AskingLemmas.{refused_so}
use Rattle.rws_top.proofs.settings.refuse.Goals as goal

pub returns-in-Ok : goal.returns-in-Ok
returns-in-Ok g c = λ text gives.
    refused_so c.args.fault c.in-Ok.line text _ _ _ c.print_refusal.result (sym c.if-is_memory.ensures) c.in-Ok.ensures c.print_refusal.ensures gives
