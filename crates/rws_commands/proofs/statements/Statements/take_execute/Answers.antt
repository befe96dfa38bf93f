use Rattle.std.proofs.Common.{rules, ◌≡◌, List, ℕ, Ok, Result, refl, subst, sym, ◌∙◌, IfOk}
use Rattle.rws_class.specs.Classes.{class_of}
use Rattle.rws_class.specs.declared.class.Class.{Class}
use Rattle.rws_handles.specs.declared.fault.ExecuteFault.{ExecuteFault}
use Rattle.rws_handles.specs.PlainForm.{Plain, text_of}
use Rattle.rws_handles.specs.Table.{execute_of, number_of_execute}
use Rattle.rws_commands.specs.declared.judged.Judged.{Judged}
use Rattle.rws_commands.specs.Commands.{as_executed}
use Rattle.rws_commands.specs.Statements.{is_full}
use Rattle.rws_commands.proofs.ExecuteLemmas.{refused_execute, run_execute}
use Rattle.rws_commands.proofs.statements.Statements.take_execute.Goals as goal

pub returns-in-Some-clause-judged : goal.returns-in-Some-clause-judged
returns-in-Some-clause-judged c =
    let read : Result Plain ExecuteFault = execute_of c.args.self.now.table c.args.payload.now in
    let t : text_of read ≡ Ok c.in-Ok.text.now = rw (← c.self.view_is) (rw c.in-Ok.is at c.examine.ensures) in
    refused_execute read c.in-Ok.text.now c.as_executed-class.result (number_of_execute c.args.self.now.table c.args.payload.now) c.args.payload.now
    c.args.number c.args.now.read_only (is_full c.args.now.history_limit c.args.self.now) t (search rules) c.in-Some.error (sym c.refusal.ensures ∙ c.in-Some.is)

pub returns-in-None-clause-judged : goal.returns-in-None-clause-judged
returns-in-None-clause-judged c =
    let read : Result Plain ExecuteFault = execute_of c.args.self.now.table c.args.payload.now in
    let t : text_of read ≡ Ok c.in-Ok.text.now = rw (← c.self.view_is) (rw c.in-Ok.is at c.examine.ensures) in
    let same = run_execute read c.in-Ok.text.now c.as_executed-class.result (number_of_execute c.args.self.now.table c.args.payload.now) c.args.payload.now
    c.args.number c.args.now.read_only (is_full c.args.now.history_limit c.args.self.now) t (search rules) (sym c.refusal.ensures ∙ c.in-None.is) in
    subst (λ (judgement : Judged). IfOk c.run.result (λ x. x ≡ judgement)) same c.run.ensures.judged
