use Rattle.std.proofs.Common.{◌∙◌, ap}
use Rattle.rws_trace.specs.Reader.{fresh}
use Rattle.rws_top.proofs.EndLemmas.{ends_over, not_begun}
use Rattle.rws_top.proofs.WorkLemmas.{works_always}
use Rattle.rws_top.proofs.trace.run_script.Goals as goal

pub returns-in-Err-clause-ends : goal.returns-in-Err-clause-ends
returns-in-Err-clause-ends g c =
    not_begun c.args.config.now (g.I.Source.left c.args.input.now) (g.I.Source.left c.args.input.now) (g.O.Sink.taken c.args.out.now) _ _

pub returns-clause-ends : goal.returns-clause-ends
returns-clause-ends g c =
    ends_over c.args.config.now _ _ c.work_over-end.result.0 c.trace_end.result (c.in-Ok.ensures ∙ ap fresh c.trace_settings.ensures)
    c.trace_end.ensures c.work_over-end.ensures.works

pub returns-clause-kept : goal.returns-clause-kept
returns-clause-kept g c = works_always (λ done standing d. d.counts.output) c.work_over-end.ensures.works
