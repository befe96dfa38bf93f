use Rattle.std.proofs.Common.{◌≡◌, ◌-◌, ◌≤◌, ◌++◌, length}
use Rattle.rws_trace.specs.Gathering.{IsPart}
use Rattle.rws_trace.specs.Reader.{Ahead}
use Rattle.rws_trace.specs.declared.event_line.TheConstants.{MAX_LINE}
use Rattle.rws_trace.proofs.line_reader.LineReader.next.Given as goal

-- what was ahead is the front of the line, and then what is ahead now
abbrev pub invariant-pieces : goal.invariant-pieces
invariant-pieces g l =
    IsPart l.self.line.items ×
    Ahead (λ before rest. before ≡ l.self.line.items ++ rest) l.initial.self.piece (g.I.Source.left l.initial.input) l.self.piece (g.I.Source.left l.input) ×
    (g.I.Source.faults l.initial.input ≤ g.I.Source.faults l.input)

abbrev pub decreases-pieces : goal.decreases-pieces
decreases-pieces g l = MAX_LINE - length l.self.line.items
