use Rattle.std.proofs.Common.{rules, ◌≡◌, None}
use Rattle.rws_trace.proofs.ReadsLemmas.{ahead-none, ahead-silent, ahead-tells, ahead-cut}
use Rattle.rws_trace.proofs.event_reader.EventReader.next.Goals as goal

pub lines-init : goal.lines-init
lines-init g c = record {
  counted = search rules;
  going = search rules;
  silent = search rules;
  read = ahead-none c.args.self.now.place c.args.self.now.held (g.I.Source.left c.args.input.now);
  counts = search rules;
}

pub returns-in_err-event-clause-cut : goal.returns-in_err-event-clause-cut
returns-in_err-event-clause-cut g c = λ failed.
    ahead-cut c.args.self.now.held c.lines.self.held c.step.new.self.held _ _ _ c.args.self.now.place c.lines.self.place c.step.new.self.place
    c.lines.invariant.read c.in_err-event.ensures.err (search rules) (c.in_err-event.ensures.cut (search rules))

pub returns-in-Some-clause-told : goal.returns-in-Some-clause-told
returns-in-Some-clause-told g c =
    let told = rw c.in-Some.is at c.in_ok-event.ensures.told in
    ahead-tells c.args.self.now.held c.lines.self.held c.step.new.self.held _ _ _ c.args.self.now.place c.lines.self.place c.step.new.self.place
    c.lines.invariant.read c.in-Some.event told

pub lines-preserved : goal.lines-preserved
lines-preserved g c =
    let silent : c.in_ok-event.field-0 ≡ None = search rules in
    let told = rw silent at c.in_ok-event.ensures.told in
    record {
      counted = search rules;
      going = search rules;
      silent = search rules;
      read = ahead-silent c.args.self.now.held c.lines.self.held c.step.new.self.held _ _ _ c.args.self.now.place c.lines.self.place c.step.new.self.place
          c.lines.invariant.read told;
      counts = search rules;
    }
