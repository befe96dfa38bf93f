use Rattle.std.proofs.Common.{◌≡◌, ◌-◌, ◌≤◌, [], None}
use Rattle.rws_trace.specs.Counting.{IsCounted, PassesOver}
use Rattle.rws_trace.specs.Reader.{Ahead, Reads}
use Rattle.rws_trace.specs.declared.event_line.TheConstants.{LAST_LINE}
use Rattle.rws_trace.proofs.event_reader.EventReader.next.Given as goal

-- the lines so far said nothing
abbrev pub invariant-lines : goal.invariant-lines
invariant-lines g l = record {
  counted : IsCounted l.self.place;
  going : l.self.place.bad_line ≡ None;
  silent : PassesOver l.initial.self.place l.self.place;
  read : Ahead (Reads l.initial.self.place l.self.place []) l.initial.self.held (g.I.Source.left l.initial.input) l.self.held (g.I.Source.left l.input);
  counts : g.I.Source.faults l.initial.input ≤ g.I.Source.faults l.input;
}

abbrev pub decreases-lines : goal.decreases-lines
decreases-lines g l = LAST_LINE - l.self.place.number
