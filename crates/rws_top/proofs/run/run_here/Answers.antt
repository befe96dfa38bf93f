use Rattle.rws_top.proofs.run.run_here.Goals as goal

pub returns-in-FileTrace : goal.returns-in-FileTrace
returns-in-FileTrace g c = record { answers = rw (← c.in-FileTrace.ensures) c.trace_with.ensures }
